-- Which rows of the lists give back what the library has.
use Rattle.std.proofs.Common.{◌≡◌, ℕ, zero, suc, ◌+◌, List, [], ◌∷◌, Option, Some, None, option_map, slice_get, refl, ap, subst, ◌∙◌, inl, zero-add, arith}
use Rattle.std.specs.Prelude.{Bool}
use Rattle.std.proofs.lemmas.Option.{none-some, same_Some}
use Rattle.vet_base.specs.Members.{In}
use Rattle.vet_base.proofs.Members.{in_front, in_back}
use Rattle.vet_base.proofs.Every.{in_where}
use Rattle.app_index.specs.Handed.{gives_handed, handed_row, handed_from, handed_rows}
use Rattle.app_machine.specs.declared.call.MethodRef.{MethodRef}
use Rattle.app_machine.specs.declared.summary.Gives.TheVariants as gives
use Rattle.app_machine.specs.declared.summary.Summary.{Summary}
use Rattle.app_machine.specs.declared.lists.FallbackWord.{FallbackWord}
use Rattle.app_machine.specs.declared.lists.FallbackWord.TheVariants as fallback
use Rattle.app_machine.specs.declared.lists.LibClass.{LibClass}
use Rattle.app_machine.specs.declared.lists.Lists.{Lists}
use Rattle.app_machine.specs.declared.lists.SummaryId.{SummaryId}
use Rattle.app_machine.specs.declared.lists.SummaryId.TheVariants as summary_id
use Rattle.app_machine.specs.Summaries.{summary, default_summary}

-- only a row of its own gives back what the library has, and not a default
pub record IsRow (lists : Lists) (u : SummaryId) (row : Summary) : Type 0 where
  pub number : ℕ
  pub is : u ≡ summary_id.Row number
  pub there : slice_get lists.methods number ≡ Some row

none_handed : (word : FallbackWord) (at : MethodRef) (is_static : Bool) → (default_summary word at is_static).gives ≡ gives.Handed → ⊥
none_handed fallback.Blank at is_static e = cc
none_handed fallback.Joined at is_static e = cc
none_handed fallback.Mixed at is_static e = cc

pub row_number : (lists : Lists) (u : SummaryId) (at : MethodRef) (is_static : Bool) (row : Summary) →
    summary lists u at is_static ≡ Some row → row.gives ≡ gives.Handed → IsRow lists u row
unfolding summary
row_number lists (summary_id.Row i) at is_static row e handed = record { number = i; is = refl; there = e }
row_number lists (summary_id.Fallback i) at is_static row e handed = of_class (slice_get lists.classes i) e
  where
    of_word : (o : Option FallbackWord) → option_map (λ word. default_summary word at is_static) o ≡ Some row → IsRow lists (summary_id.Fallback i) row
    of_word None k = absurd (none-some row k)
    of_word (Some word) k =
        absurd (none_handed word at is_static (ap (λ (s : Summary). s.gives) (same_Some (default_summary word at is_static) row k) ∙ handed))

    of_class : (o : Option LibClass) → elim o [ None ↦ None | Some c ↦ option_map (λ word. default_summary word at is_static) c.fallback ] ≡ Some row →
        IsRow lists (summary_id.Fallback i) row
    of_class None k = absurd (none-some row k)
    of_class (Some c) k = of_word c.fallback k

-- its number is among those of such rows
in_handed_from : (rows : List Summary) (first i : ℕ) (row : Summary) → slice_get rows i ≡ Some row → row.gives ≡ gives.Handed → In (first + i) (handed_from first rows)
in_handed_from [] first i row there e = absurd (none-some row there)
in_handed_from (r ∷ rows) first zero row there e =
    let same : r.gives ≡ gives.Handed = ap (λ (s : Summary). s.gives) (same_Some r row there) ∙ e in
    let number : first + 0 ≡ first = omega arith in
    in_front (first + 0) (handed_row first r) (handed_from (first + 1) rows)
    (in_where (first + 0) (gives_handed r.gives) (first ∷ []) (rw same refl) (inl number))
in_handed_from (r ∷ rows) first (suc i) row there e =
    let number : first + 1 + i ≡ first + suc i = omega arith in
    in_back (first + suc i) (handed_row first r) (handed_from (first + 1) rows)
    (subst (λ z. In z (handed_from (first + 1) rows)) number (in_handed_from rows (first + 1) i row there e))

pub in_handed_rows : (lists : Lists) (i : ℕ) (row : Summary) → slice_get lists.methods i ≡ Some row → row.gives ≡ gives.Handed → In i (handed_rows lists)
unfolding handed_rows
in_handed_rows lists i row there e = subst (λ z. In z (handed_from 0 lists.methods)) (zero-add i) (in_handed_from lists.methods 0 i row there e)
