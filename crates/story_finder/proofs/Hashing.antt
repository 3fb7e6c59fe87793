-- The place that a store by hash tells is the first at which the row stands.
use lib.Dec.{is_le}
use Prim.Native.Nat.compare
use Prim.Native.Nat.{compare}
use Rattle.std.proofs.Common.{◌≡◌, ◌+◌, ℕ, zero, suc, Bool, true, false, not, cond, List, [], ◌∷◌, length, nat_lt, Option, Some, None, option_map, refl, sym, ap, subst, ◌∙◌, arith}
use Rattle.std.specs.List.{position, position_or_len}
use Rattle.vet_base.specs.Members.{first_index}

module _ {A : Type 0} (test : A → Bool) where
  one_on : (b : Bool) (k : ℕ) → cond b (Some (suc k)) None ≡ option_map suc (cond b (Some k) None)
  one_on true k = refl
  one_on false k = refl

  below_on : (k n : ℕ) → nat_lt k n ≡ nat_lt (suc k) (suc n)
  below_on k n = sym (ap is_le (compare.suc-suc (suc k) n))

  none_below : (n : ℕ) → true ≡ nat_lt 0 (suc n)
  none_below n = sym (ap is_le (compare.suc-suc 0 n) ∙ zero_first n)
    where
      zero_first : (n : ℕ) → is_le (compare 0 n) ≡ true
      zero_first zero = refl
      zero_first (suc n) = ap is_le (compare.zero-suc n)

  pub position_is : (xs : List A) → position test xs ≡ first_index test xs
  position_is [] = refl
  position_is (x ∷ xs) = by_test (test x) (position_is xs)
    where
      on : suc (position_or_len test xs) ≡ 1 + position_or_len test xs
      on = omega arith

      by_test : (b : Bool) → position test xs ≡ first_index test xs →
          cond (nat_lt (cond (not b) (1 + position_or_len test xs) 0) (suc (length xs))) (Some (cond (not b) (1 + position_or_len test xs) 0)) None
          ≡ cond b (Some 0) (option_map suc (first_index test xs))
      by_test true e = subst (λ below. cond {A = Option ℕ} below (Some 0) None ≡ Some 0) (none_below (length xs)) refl
      by_test false e =
          subst (λ k. cond (nat_lt k (suc (length xs))) (Some k) None ≡ option_map suc (first_index test xs)) on
          (subst (λ below. cond below (Some (suc (position_or_len test xs))) None ≡ option_map suc (first_index test xs)) (below_on (position_or_len test xs) (length xs))
          (one_on (nat_lt (position_or_len test xs) (length xs)) (position_or_len test xs) ∙ ap (option_map suc) e))
