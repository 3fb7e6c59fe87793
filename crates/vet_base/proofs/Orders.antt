-- Answers of an order, and what the laws of an order give. The kit has `Equal-is` (of `is_eq`) in `Rattle.std.specs.Cmp` and
-- `tied_itself`, `tied_back`, `alike_right` in `Rattle.std.proofs.lemmas.Cmp`.
use Rattle.std.proofs.Common.{◌≡◌, ◌≢◌, ℕ, ◌<◌, true, false, ◌&&◌, refl, sym, ap, ◌∙◌}
use Rattle.std.specs.Cmp.{IsTotalOrder}
use Rattle.std.specs.Ordering.{nat_cmp, is_eq, is_lt, eq_by_cmp, ordering_then, ordering_reverse}
use Rattle.std.specs.declared.cmp.Ordering.{Ordering}
use Rattle.std.specs.declared.cmp.Ordering.TheVariants.{Less, Equal, Greater}
use Rattle.std.proofs.lemmas.Bool.{lt-ltb}
use Rattle.std.proofs.lemmas.Cmp.{tied_itself}

pub is_less : (o : Ordering) → is_lt o ≡ true → o ≡ Less
is_less Less h = refl
is_less Equal h = cc
is_less Greater h = cc

pub not_less : (o : Ordering) → is_lt o ≡ false → o ≡ Less → ⊥
not_less o h e = let k : is_lt o ≡ true = ap is_lt e in cc

pub is_equal : (o : Ordering) → is_eq o ≡ true → o ≡ Equal
is_equal Less h = cc
is_equal Equal h = refl
is_equal Greater h = cc

pub not_equal : (o : Ordering) → is_eq o ≡ false → o ≡ Equal → ⊥
not_equal o h e = let k : is_eq o ≡ true = ap is_eq e in cc

-- One order and then another.
pub then_assoc : (o p q : Ordering) → ordering_then o (ordering_then p q) ≡ ordering_then (ordering_then o p) q
then_assoc Less p q = refl
then_assoc Equal p q = refl
then_assoc Greater p q = refl

pub then_equal : (o p : Ordering) → o ≡ Equal → p ≡ Equal → ordering_then o p ≡ Equal
then_equal o p h k = rw (h, k) refl

pub both_equal : (o p : Ordering) → ordering_then o p ≡ Equal → (o ≡ Equal) × (p ≡ Equal)
both_equal Less p h = absurd cc
both_equal Equal p h = (refl, h)
both_equal Greater p h = absurd cc

pub first_decides : (o p : Ordering) → o ≢ Equal → ordering_then o p ≡ o
first_decides Less p h = refl
first_decides Equal p h = absurd (h refl)
first_decides Greater p h = refl

pub is_eq-then : (o p : Ordering) → is_eq (ordering_then o p) ≡ (is_eq o && is_eq p)
is_eq-then Less p = refl
is_eq-then Equal p = refl
is_eq-then Greater p = refl

-- Numbers.
pub less_cmp : (a b : ℕ) → a < b → nat_cmp a b ≡ Less
less_cmp a b h = rw (lt-ltb a b h) refl

-- Under the laws of an order.
module _ {K : Type 0} {R : K → K → Ordering} (total : IsTotalOrder R) where
  pub turned : (x y : K) → R x y ≡ Less → R y x ≡ Greater
  turned x y h = total.antisymm y x ∙ ap ordering_reverse h

  pub turned_back : (x y : K) → R x y ≡ Greater → R y x ≡ Less
  turned_back x y h = total.antisymm y x ∙ ap ordering_reverse h

  pub not_below_itself : (x y : K) → x ≡ y → R x y ≡ Less → ⊥
  not_below_itself x y e less = let tie : R x y ≡ Equal = ap (R x) (sym e) ∙ tied_itself total x in absurd cc

  pub not_both_below : (x y : K) → R x y ≡ Less → R y x ≡ Less → ⊥
  not_both_below x y one other = not_below_itself x x refl (total.trans x y x one other)

  pub differs_back : (x y : K) → eq_by_cmp R x y ≡ false → eq_by_cmp R y x ≡ false
  differs_back x y h = ap is_eq (total.antisymm y x) ∙ reversed (R x y) ∙ h
    where
      reversed : (o : Ordering) → is_eq (ordering_reverse o) ≡ is_eq o
      reversed Less = refl
      reversed Equal = refl
      reversed Greater = refl

  -- not above b, which is below c
  pub below_next : (a b c : K) → (R a b ≡ Greater → ⊥) → R b c ≡ Less → R a c ≡ Less
  below_next a b c not_above below = go (R a b) refl
    where
      go : (o : Ordering) → R a b ≡ o → R a c ≡ Less
      go Less e = total.trans a b c e below
      go Equal e = total.congr a b c e ∙ below
      go Greater e = absurd (not_above e)

  -- not above b, and above c
  pub above_next : (a b c : K) → (R a b ≡ Greater → ⊥) → R a c ≡ Greater → R b c ≡ Greater
  above_next a b c not_above above = go (R a b) refl
    where
      go : (o : Ordering) → R a b ≡ o → R b c ≡ Greater
      go Less e = turned c b (total.trans c a b (turned_back a c above) e)
      go Equal e = sym (total.congr a b c e) ∙ above
      go Greater e = absurd (not_above e)
