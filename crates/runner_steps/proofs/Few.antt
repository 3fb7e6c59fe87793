-- The numbers of shared objects in the rows of sound lists.
use Rattle.std.proofs.Common.{◌≡◌, ◌<◌, ◌≤◌, ℕ, Bool, List, [], ◌∷◌, ◌++◌, length, map, Option, Some, None, slice_get, refl, sym, subst, inl, inr, arith}
use Rattle.std.specs.Prelude.{option_map}
use Rattle.std.specs.List.{All}
use Rattle.std.proofs.lemmas.Option.{none-some, same_Some}
use Rattle.vet_base.specs.Members.{In}
use Rattle.vet_base.proofs.Members.{all_in, all_from_in, in_either, in_slice_get}
use Rattle.app_machine.specs.declared.call.MethodRef.{MethodRef}
use Rattle.app_machine.specs.declared.lists.FallbackWord.{FallbackWord}
use Rattle.app_machine.specs.declared.lists.FallbackWord.TheVariants as fallback
use Rattle.app_machine.specs.declared.lists.LibClass.{LibClass}
use Rattle.app_machine.specs.declared.lists.Lists.{Lists}
use Rattle.app_machine.specs.declared.lists.SummaryId.{SummaryId}
use Rattle.app_machine.specs.declared.lists.SummaryId.TheVariants.{Row, Fallback}
use Rattle.app_machine.specs.declared.summary.Gives.{Gives}
use Rattle.app_machine.specs.declared.summary.Gives.TheVariants as gives
use Rattle.app_machine.specs.declared.summary.Summary.{Summary}
use Rattle.app_machine.specs.Library.{result_shared}
use Rattle.app_machine.specs.SoundLists.{NamedPosition, SoundGives, SoundLists, SoundSummary}
use Rattle.app_machine.specs.Summaries.{default_gives, default_summary, position_count, summary}
use Rattle.runner_library.specs.Over.{shared_number}

-- these numbers are below the number of shared objects
abbrev pub AreFew : Summary → Type 0
AreFew row = All (λ i. i < 65536) (map shared_number row.stores ++ result_shared row.gives)

module _ (shared : ℕ) (few : shared ≤ 65536) where
  of_gives : (count : ℕ) (g : Gives) → SoundGives count shared g → (i : ℕ) → In i (result_shared g) → i < 65536
  of_gives count (gives.Shared number) sound i (inl same) = omega (arith, sound, same, few)
  of_gives count (gives.Shared number) sound i (inr none) = absurd none
  of_gives count gives.Blank sound i h = absurd h
  of_gives count (gives.Same j) sound i h = absurd h
  of_gives count (gives.Taken j) sound i h = absurd h
  of_gives count (gives.Joined from) sound i h = absurd h
  of_gives count gives.Handed sound i h = absurd h

  of_stores : (count : ℕ) (stores : List (ℕ × ℕ)) → ((s : ℕ × ℕ) → In s stores → s.1 < 65536) → (i : ℕ) → In i (map shared_number stores) → i < 65536
  of_stores count [] small i h = absurd h
  of_stores count (s ∷ stores) small i (inl same) = subst (λ n. n < 65536) (sym same) (small s (inl refl))
  of_stores count (s ∷ stores) small i (inr h) = of_stores count stores (λ t is_in. small t (inr is_in)) i h

  pub row_few : (categories : ℕ) (row : Summary) → SoundSummary categories shared row → AreFew row
  row_few categories row sound = all_from_in (λ i. i < 65536) (map shared_number row.stores ++ result_shared row.gives) by
    where
      count : ℕ
      count = position_count row.is_static row.proto

      small : (s : ℕ × ℕ) → In s row.stores → s.1 < 65536
      small s h = let is : (s.0 < position_count row.is_static row.proto) × (s.1 < shared) = all_in (NamedPosition (position_count row.is_static row.proto) shared) row.stores s sound.stores h in omega (arith, is.1, few)

      by : (i : ℕ) → In i (map shared_number row.stores ++ result_shared row.gives) → i < 65536
      by i h = elim (in_either i (map shared_number row.stores) (result_shared row.gives) h) [
        | inl one ↦ of_stores (position_count row.is_static row.proto) row.stores small i one
        | inr other ↦ of_gives (position_count row.is_static row.proto) row.gives sound.result i other
      ]

no_result : (word : FallbackWord) (at : MethodRef) (is_static : Bool) → result_shared (default_gives word is_static at.proto) ≡ []
no_result fallback.Blank at is_static = refl
no_result fallback.Joined at is_static = refl
no_result fallback.Mixed at is_static = refl

default_few : (word : FallbackWord) (at : MethodRef) (is_static : Bool) → AreFew (default_summary word at is_static)
default_few word at is_static = subst (All (λ i. i < 65536)) (sym (no_result word at is_static)) (all_from_in (λ i. i < 65536) [] (λ i h. absurd h))

pub summary_few : (lists : Lists) (key : SummaryId) (at : MethodRef) (is_static : Bool) (row : Summary) → SoundLists lists → Some row ≡ summary lists key at is_static → AreFew row
unfolding summary
summary_few lists (Row i) at is_static row sound is =
    row_few (length lists.shared) sound.few_shared (length lists.categories) row (all_in (SoundSummary (length lists.categories) (length lists.shared)) lists.methods row sound.methods (in_slice_get lists.methods i row (sym is)))
summary_few lists (Fallback i) at is_static row sound is = by_class (slice_get lists.classes i) is
  where
    by_word : (o : Option FallbackWord) → Some row ≡ option_map (λ word. default_summary word at is_static) o → AreFew row
    by_word None e = absurd (none-some row (sym e))
    by_word (Some word) e = subst AreFew (same_Some (default_summary word at is_static) row (sym e)) (default_few word at is_static)

    by_class : (o : Option LibClass) → Some row ≡ elim o as (λ (z : Option LibClass). Option Summary) [ None ↦ None | Some c ↦ option_map (λ word. default_summary word at is_static) c.fallback ] → AreFew row
    by_class None e = absurd (none-some row (sym e))
    by_class (Some c) e = by_word c.fallback e
