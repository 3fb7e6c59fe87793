-- The start rows by their places, and that they are just the starts.
use Rattle.std.proofs.Common.{◌≡◌, ◌<◌, ◌≤◌, ◌+◌, ℕ, zero, suc, Bool, true, false, Some, None, cond, length, slice_get, refl, sym, ap, subst, ◌∙◌, inl, inr, arith}
use Rattle.std.specs.Ordering.{nat_cmp, ordering_then}
use Rattle.std.proofs.lemmas.Option.{slice_get-get_or, slice_get_within}
use Rattle.vet_base.specs.Ascending.{Ascends}
use Rattle.vet_base.specs.Members.{In}
use Rattle.vet_base.proofs.Lists.{element_at}
use Rattle.vet_base.proofs.Orders.{less_cmp}
use Rattle.app_machine.specs.declared.app.App.{App}
use Rattle.app_machine.specs.Events.{IsApplication}
use Rattle.app_machine.specs.Sound.{SoundApp}
use Rattle.fact_rows.specs.declared.row.Row.{Row}
use Rattle.fact_rows.specs.declared.row.Row.TheVariants.{Live}
use Rattle.fact_rows.specs.Order.{row_cmp}
use Rattle.flow_rules.specs.Rules.{Starts, the_application, a_component}
use Rattle.app_rows.specs.Application.{is_application, application_of, is_the_application}
use Rattle.app_rows.specs.StartRows.{lives_from, start_count}
use Rattle.app_rows.specs.StartLaws.{StartsAreExact}

pub as_many : (c n : ℕ) → length (lives_from c n) ≡ n
as_many c zero = refl
as_many c (suc n) = ap suc (as_many (suc c) n)

row_from : (c n k : ℕ) → k < n → slice_get (lives_from c n) k ≡ Some (Live (c + k) 0)
row_from c zero k lt = absurd (omega arith)
row_from c (suc n) zero lt = let e : c ≡ c + 0 = omega arith in ap (λ z. Some (Live z 0)) e
row_from c (suc n) (suc k) lt = let e : suc c + k ≡ c + suc k = omega arith in row_from (suc c) n k (omega arith) ∙ ap (λ z. Some (Live z 0)) e

pub row_here : (n k : ℕ) → k < n → slice_get (lives_from 0 n) k ≡ Some (Live k 0)
row_here n k lt = row_from 0 n k lt ∙ let e : 0 + k ≡ k = omega arith in ap (λ z. Some (Live z 0)) e

pub no_row : (c n k : ℕ) → n ≤ k → slice_get (lives_from c n) k ≡ None
no_row c zero k past = refl
no_row c (suc n) zero past = absurd (omega arith)
no_row c (suc n) (suc k) past = no_row (suc c) n k (omega arith)

in_lives : (c n k : ℕ) → k < n → In (Live (c + k) 0) (lives_from c n)
in_lives c zero k lt = absurd (omega arith)
in_lives c (suc n) zero lt = let e : c + 0 ≡ c = omega arith in inl (ap (λ z. Live z 0) e)
in_lives c (suc n) (suc k) lt = let e : suc c + k ≡ c + suc k = omega arith in inr (subst (λ z. In (Live z 0) (lives_from (suc c) n)) e (in_lives (suc c) n k (omega arith)))

from_lives : (c n : ℕ) (row : Row) → In row (lives_from c n) → (k : ℕ) × (k < n) × (row ≡ Live (c + k) 0)
from_lives c zero row i = absurd i
from_lives c (suc n) row (inl e) = let same : c ≡ c + 0 = omega arith in (0, omega arith, e ∙ ap (λ z. Live z 0) same)
from_lives c (suc n) row (inr i) =
    let rest = from_lives (suc c) n row i in
    let lt = rest.1 in
    let same : suc c + rest.0 ≡ c + suc rest.0 = omega arith in
    (suc rest.0, omega arith, rest.2 ∙ ap (λ z. Live z 0) same)

ascend_from : (c n : ℕ) → Ascends row_cmp (lives_from c n)
ascend_from c zero = tt
ascend_from c (suc zero) = tt
ascend_from c (suc (suc n)) = (ap (λ o. ordering_then o (nat_cmp 0 0)) (less_cmp c (suc c) (omega arith)), ascend_from (suc c) (suc n))

module _ (app : App) (sound : SoundApp app) where
  with_one : (b : Bool) → is_application (slice_get app.components 0) ≡ b → (row : Row) → In row (lives_from 0 (cond b 1 (length app.components))) → Starts app row
  with_one true e row i =
      let h = from_lives 0 1 row i in
      let lt = h.1 in
      let first : 0 + h.0 ≡ 0 = omega arith in
      subst (Starts app) (sym (h.2 ∙ ap (λ z. Live z 0) first)) (the_application (application_of app 0 e))
  with_one false e row i =
      let h = from_lives 0 (length app.components) row i in
      let lt = h.1 in
      let same : 0 + h.0 ≡ h.0 = omega arith in
      let one = element_at app.components h.0 lt in
      subst (Starts app) (sym (h.2 ∙ ap (λ z. Live z 0) same))
      (a_component none (record { there = slice_get-get_or app.components h.0 one.0 lt }))
    where
      none : (a : ℕ) → IsApplication app a → ⊥
      none a is =
          let t = is_the_application app 0 (subst (IsApplication app) (sound.application_first a is) is) in cc

  every_start : (b : Bool) → is_application (slice_get app.components 0) ≡ b → (row : Row) → Starts app row → In row (lives_from 0 (cond b 1 (length app.components)))
  every_start true e row (the_application {c = c} is) = inl (ap (λ z. Live z 0) (sound.application_first c is))
  every_start false e row (the_application {c = c} is) =
      let t = is_the_application app 0 (subst (IsApplication app) (sound.application_first c is) is) in absurd cc
  every_start true e row (a_component none there) = absurd (none 0 (application_of app 0 e))
  every_start false e row (a_component {c = c} {component = component} none there) =
      let same : 0 + c ≡ c = omega arith in
      subst (λ z. In (Live z 0) (lives_from 0 (length app.components))) same
      (in_lives 0 (length app.components) c (slice_get_within app.components c component there.there))

pub starts_exact : (app : App) → SoundApp app → StartsAreExact app
starts_exact app sound = record {
  exact = λ row. (with_one app sound (is_application (slice_get app.components 0)) refl row, every_start app sound (is_application (slice_get app.components 0)) refl row);
  ascend = ascend_from 0 (start_count app);
}
