-- The positions of argument registers, from one parameter to the next.
use Rattle.std.proofs.Common.{◌≡◌, ◌+◌, ◌-◌, ◌<◌, ◌≤◌, ℕ, zero, suc, Bool, true, false, List, ◌∷◌, Some, None, drop, length, get_or, slice_get, refl, sym, ap, ◌∙◌, arith, add-one, drop-cons, if◌then◌else◌}
use Rattle.std.proofs.lemmas.List.{drop_all}
use Rattle.app_machine.specs.Names.{Name, is_wide, width}
use Rattle.app_machine.specs.Events.{layout, layout_from}

-- what is left to look for behind the first types
pub record Walks (params : List Name) (index at position left : ℕ) : Type 0 where
  pub rest : slice_get (layout_from position (drop at params)) left ≡ slice_get (layout params) index
  pub bound : position + left ≤ index

pub at_receiver : (params : List Name) → Some 0 ≡ slice_get (layout params) 0
unfolding layout
at_receiver params = refl

pub begins : (params : List Name) (index : ℕ) → 0 < index → Walks params index 0 1 (index - 1)
unfolding layout
begins params zero h = absurd (omega arith)
begins params (suc k) h = let e : suc k - 1 ≡ k = omega arith in record { rest = ap (slice_get (layout_from 1 params)) e; bound = omega arith }

hit : (i left : ℕ) (type : Name) (types : List Name) (b : Bool) → left < (if b then 2 else 1) → slice_get (if b then i ∷ i ∷ layout_from (i + 1) types else i ∷ layout_from (i + 1) types) left ≡ Some i
hit i zero type types true h = refl
hit i (suc zero) type types true h = refl
hit i (suc (suc n)) type types true h = absurd (omega arith)
hit i zero type types false h = refl
hit i (suc n) type types false h = absurd (omega arith)

miss : (i left : ℕ) (type : Name) (types : List Name) (b : Bool) → (if b then 2 else 1) ≤ left → slice_get (if b then i ∷ i ∷ layout_from (i + 1) types else i ∷ layout_from (i + 1) types) left ≡ slice_get (layout_from (i + 1) types) (left - (if b then 2 else 1))
miss i zero type types true h = absurd (omega arith)
miss i (suc zero) type types true h = absurd (omega arith)
miss i (suc (suc n)) type types true h = let e : n ≡ suc (suc n) - 2 = omega arith in ap (slice_get (layout_from (i + 1) types)) e
miss i zero type types false h = absurd (omega arith)
miss i (suc n) type types false h = let e : n ≡ suc n - 1 = omega arith in ap (slice_get (layout_from (i + 1) types)) e

pub found : (params : List Name) (index at position left : ℕ) (type : Name) → Walks params index at position left → at < length params → type ≡ get_or params at type → left < width type → Some position ≡ slice_get (layout params) index
found params index at position left type w below is h =
    sym (hit position left type (drop (suc at) params) (is_wide type) h)
    ∙ ap (λ (z : List Name). slice_get (layout_from position z) left) (ap (λ z. z ∷ drop (suc at) params) is ∙ sym (drop-cons params at type below))
    ∙ w.rest

pub goes_on : (params : List Name) (index at position left : ℕ) (type : Name) → Walks params index at position left → at < length params → type ≡ get_or params at type → width type ≤ left → Walks params index (at + 1) (position + 1) (left - width type)
goes_on params index at position left type w below is h = record {
  rest =
      ap (λ z. slice_get (layout_from (position + 1) (drop z params)) (left - width type)) (add-one at)
      ∙ sym (miss position left type (drop (suc at) params) (is_wide type) h)
      ∙ ap (λ (z : List Name). slice_get (layout_from position z) left) (ap (λ z. z ∷ drop (suc at) params) is ∙ sym (drop-cons params at type below))
      ∙ w.rest;
  bound = let one_at_least : 1 ≤ width type = at_least (is_wide type) in let b = w.bound in omega arith;
}
  where
    at_least : (b : Bool) → 1 ≤ (if b then 2 else 1)
    at_least true = omega arith
    at_least false = omega arith

pub ends : (params : List Name) (index at position left : ℕ) → Walks params index at position left → length params ≤ at → None ≡ slice_get (layout params) index
ends params index at position left w past = sym (ap (λ (z : List Name). slice_get (layout_from position z) left) (drop_all at params past)) ∙ w.rest
