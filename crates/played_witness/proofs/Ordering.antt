-- The order of draws, computed.
use Rattle.std.proofs.Common.{◌≡◌, ℕ, zero, suc, List, [], ◌∷◌, ◌++◌, map, Option, Some, None, slice_get, refl, ap, ◌∙◌, arith}
use Rattle.std.specs.Prelude.{◌%◌}
use Rattle.app_machine.specs.Lookups.{step_at}
use Rattle.app_machine.specs.declared.method.Step.{Step}
use Rattle.app_machine.specs.Heap.{Value}
use Rattle.app_machine.specs.State.{World, Frame}
use Rattle.machine_witness.specs.Apps.{leaking_app}
use Rattle.played_machine.specs.Drawing.{continue, given, one_of}
use Rattle.played_machine.specs.Local.{catches_of, raised_to, raised}
use Rattle.played_machine.specs.Ordered.{ascending}
use Rattle.played_machine.specs.Reading.{entries_at, values_at, handed_places}
use Rattle.played_witness.specs.Orders.{DrawsGoInOrder}

by_one : (b : ℕ) → b % 1 ≡ 0
by_one b = omega arith

only : {A : Type 0} (x : A) (b : ℕ) (bytes : List ℕ) → one_of (x ∷ []) (b ∷ bytes) ≡ Some (x, bytes)
unfolding one_of
only x b bytes = ap (λ i. given (slice_get (x ∷ []) i) bytes) (by_one b)

no_step : (m pc : ℕ) → m ≡ 1 → step_at leaking_app m pc ≡ None
unfolding leaking_app step_at
no_step zero pc is = absurd cc
no_step (suc zero) pc is = refl
no_step (suc (suc m)) pc is = refl

upward : (w : World) (v : Value) (f : Frame) (fs : List Frame) (b : ℕ) (bytes : List ℕ) → f.method ≡ 1 → raised leaking_app v w (f ∷ fs) (b ∷ bytes) ≡ raised leaking_app v w fs bytes
upward w v f fs b bytes is =
    ap (λ (o : Option Step). continue (raised_to leaking_app v w f fs (raised leaking_app v w fs)) (one_of (map (λ pc. Some pc) (catches_of o) ++ None ∷ []) (b ∷ bytes))) (no_step f.method f.pc is)
    ∙ ap (continue (raised_to leaking_app v w f fs (raised leaking_app v w fs))) (only None b bytes)

pub in_order : DrawsGoInOrder
unfolding one_of handed_places values_at entries_at ascending
in_order = record {
  only_one = only;
  too_few = λ x. refl;
  by_its_rest = λ bytes. refl;
  handed_first = refl;
  elements_as_put = λ class. refl;
  fields_apart = λ class. refl;
  labels_ascend = refl;
  raises_by_frame = λ w v f g b c bytes of_f of_g. upward w v f (g ∷ []) b (c ∷ bytes) of_f ∙ upward w v g [] c bytes of_g;
}
