-- What stands at an index of a list with one more element behind it, and of one with an element set.
use Rattle.std.proofs.Common.{◌≡◌, ◌≢◌, ℕ, zero, suc, ◌<◌, ◌≤◌, ◌⊎◌, true, List, [], ◌∷◌, ◌++◌, length, set, get_or, Option, Some, None, slice_get, refl, sym, ap, ◌∙◌, inl, inr, arith}
use Rattle.std.specs.Prelude.{nat_lt}
use Rattle.std.proofs.lemmas.Bool.{ltb-true}
use Rattle.std.proofs.lemmas.Option.{none-some, same_Some, slice_get_read}

module _ {A : Type 0} where
  pub at_pushed : (xs : List A) (y z : A) (i : ℕ) → slice_get (xs ++ y ∷ []) i ≡ Some z → (slice_get xs i ≡ Some z) ⊎ ((i ≡ length xs) × (y ≡ z))
  at_pushed [] y z zero is = inr (refl, same_Some y z is)
  at_pushed [] y z (suc i) is = absurd (none-some z is)
  at_pushed (x ∷ xs) y z zero is = inl is
  at_pushed (x ∷ xs) y z (suc i) is = elim (at_pushed xs y z i is) [ inl before ↦ inl before | inr last ↦ inr (ap suc last.0, last.1) ]

  pub at_set : (xs : List A) (y z : A) (i j : ℕ) → slice_get (set xs i y) j ≡ Some z → ((i ≡ j) × (y ≡ z)) ⊎ (slice_get xs j ≡ Some z)
  at_set [] y z i j is = absurd (none-some z is)
  at_set (x ∷ xs) y z zero zero is = inl (refl, same_Some y z is)
  at_set (x ∷ xs) y z zero (suc j) is = inr is
  at_set (x ∷ xs) y z (suc i) zero is = inr is
  at_set (x ∷ xs) y z (suc i) (suc j) is = elim (at_set xs y z i j is) [ inl here ↦ inl (ap suc here.0, here.1) | inr there ↦ inr there ]

  -- the element that a read at an index gives is the one there
  pub read_there : (xs : List A) (i : ℕ) (x y : A) → i < length xs → x ≡ get_or xs i x → slice_get xs i ≡ Some y → x ≡ y
  read_there xs i x y within is there = same_Some x y (sym (slice_get_read xs (length xs) i x refl within is) ∙ there)

  -- what a read that gives something gives
  pub item_there : (xs : List A) (i : ℕ) (x : A) → true ≡ nat_lt i (length xs) → x ≡ get_or xs i x → slice_get xs i ≡ Some x
  item_there xs i x within is = slice_get_read xs (length xs) i x refl (ltb-true i (length xs) (sym within)) is
