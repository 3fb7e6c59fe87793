-- The category and the positions of a sink that is read are those of the lists and of the method.
use Rattle.std.proofs.Common.{ℕ, ◌<◌, List, length, Option, Some, None, IfSome}
use Rattle.std.specs.List.{All}
use Rattle.toml.specs.Data.{Members}
use Rattle.vet_base.specs.Script.{test}
use Rattle.app_machine.specs.Names.{Name}
use Rattle.form_fields.specs.declared.fault.Fault.TheVariants.{Range}
use Rattle.form_fields.specs.declared.words.Section.TheVariants as section
use Rattle.form_fields.specs.declared.words.Key.TheVariants as key
use Rattle.form_fields.specs.declared.shape.Shape.TheVariants as shape
use Rattle.method_fields.specs.Positions.{has_key, items_at, positions_at, listed_at}
use Rattle.store_lists.specs.Methods.{sink_fits, sink_with, sink_at}
use Rattle.app_machine.specs.SoundLists.{SoundSink}
use Rattle.form_fields.proofs.Yields.{Yields, yields_value, yields_then, yields_past}
use Rattle.method_fields.proofs.PositionsSound.{positions_within, listed_within}

-- what a sink has
with_within : (count size : ℕ) (sink : Option ℕ) (positions : List ℕ) → IfSome sink (λ n. n < size) → All (λ n. n < count) positions → IfSome (sink_with sink positions) (SoundSink count size)
unfolding sink_with
with_within count size None positions h all = tt
with_within count size (Some n) positions h all = (h, all)

pub sink_within : (categories : List Name) (count : ℕ) (t : Members) → Yields (λ o. IfSome o (SoundSink count (length categories))) (sink_at categories count t)
unfolding sink_at
sink_within categories count t =
    yields_then (λ p. IfSome p (λ n. n < length categories)) _ (listed_at section.Method key.Sink categories t) _ (listed_within section.Method key.Sink categories t)
    (λ sink within. yields_past _ (items_at section.Method key.Positions shape.Number t) _
    (λ _. yields_past _ (test (sink_fits sink (has_key key.Positions t)) (Range section.Method key.Positions)) _
    (λ _. yields_then (All (λ n. n < count)) _ (positions_at section.Method key.Positions count t) _ (positions_within section.Method key.Positions count t)
    (λ positions all. yields_value _ (sink_with sink positions) (with_within count (length categories) sink positions within all)))))
