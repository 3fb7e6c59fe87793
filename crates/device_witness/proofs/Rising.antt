-- Lists each of whose elements is below all behind it.
use Rattle.std.proofs.Common.{◌≡◌, List, [], ◌∷◌, ◌++◌, map, refl, ◌∙◌, ap, inl, inr}
use Rattle.std.specs.Prelude.{fold}
use Rattle.std.specs.BTreeSet.{insert_key}
use Rattle.std.specs.Cmp.{IsTotalOrder}
use Rattle.std.specs.List.{AllByRecursion}
use Rattle.std.specs.List.Sorted.{IsStrictlySortedBy}
use Rattle.std.specs.Ordering.{match_ordering}
use Rattle.std.specs.declared.cmp.Ordering.{Ordering}
use Rattle.std.specs.declared.cmp.Ordering.TheVariants.{Less, Equal, Greater}
use Rattle.outcomes.specs.Ascending.{ascending}
use Rattle.vet_base.specs.Members.{In}
use Rattle.vet_base.proofs.Members.{each_in, each_from_in, from_map, in_either}
use Rattle.vet_base.proofs.Orders.{turned_back}

module _ {A : Type 0} (order : A → A → Ordering) where
  -- one list behind another whose elements are all below its own
  pub joined : (xs ys : List A) → IsStrictlySortedBy order xs → IsStrictlySortedBy order ys
      → ((x y : A) → In x xs → In y ys → order x y ≡ Less) → IsStrictlySortedBy order (xs ++ ys)
  unfolding IsStrictlySortedBy
  joined [] ys rises later below = later
  joined (x ∷ xs) ys rises later below =
      (each_from_in (λ z. order x z ≡ Less) (xs ++ ys) above, joined xs ys rises.1 later (λ a b there. below a b (inr there)))
    where
      above : (z : A) → In z (xs ++ ys) → order x z ≡ Less
      above z there = elim (in_either z xs ys there) [ inl here ↦ each_in (λ y. order x y ≡ Less) xs z rises.0 here | inr beyond ↦ below x z (inl refl) beyond ]

  -- under a map that keeps the order of what is there
  pub mapped : {B : Type 0} (R : B → B → Ordering) (g : B → A) (xs : List B) → ((a b : B) → In a xs → In b xs → order (g a) (g b) ≡ R a b)
      → IsStrictlySortedBy R xs → IsStrictlySortedBy order (map g xs)
  unfolding IsStrictlySortedBy
  mapped R g [] same rises = tt
  mapped {B} R g (x ∷ xs) same rises = (each_from_in (λ y. order (g x) y ≡ Less) (map g xs) above, mapped R g xs (λ a b of_a of_b. same a b (inr of_a) (inr of_b)) rises.1)
    where
      above : (y : A) → In y (map g xs) → order (g x) y ≡ Less
      above y there =
          let from = from_map g xs y there in
          ap (order (g x)) from.2 ∙ (same x from.0 (inl refl) (inr from.1) ∙ each_in (λ b. R x b ≡ Less) xs from.0 rises.0 from.1)

module _ {A : Type 0} (order : A → A → Ordering) (total : IsTotalOrder order) where
  -- what is below the first is below all
  below_all : (k x : A) (xs : List A) → order k x ≡ Less → AllByRecursion (λ y. order x y ≡ Less) xs → AllByRecursion (λ y. order k y ≡ Less) xs
  below_all k x [] below each = tt
  below_all k x (y ∷ xs) below each = (total.trans k x y below each.0, below_all k x xs below each.1)

  each_inserted : (P : A → Type 0) (ks : List A) (k : A) → AllByRecursion P ks → P k → AllByRecursion P (insert_key order ks k)
  each_inserted P [] k each is = (is, tt)
  each_inserted P (x ∷ xs) k each is = at_order (order k x) (each_inserted P xs k each.1 is)
    where
      at_order : (o : Ordering) → AllByRecursion P (insert_key order xs k) → AllByRecursion P (match_ordering o (k ∷ x ∷ xs) (x ∷ xs) (x ∷ insert_key order xs k))
      at_order Less later = (is, each)
      at_order Equal later = each
      at_order Greater later = (each.0, later)

  inserted : (ks : List A) (k : A) → IsStrictlySortedBy order ks → IsStrictlySortedBy order (insert_key order ks k)
  unfolding IsStrictlySortedBy
  inserted [] k rises = (tt, tt)
  inserted (x ∷ xs) k rises = at_order (order k x) refl (inserted xs k rises.1)
    where
      at_order : (o : Ordering) → order k x ≡ o → IsStrictlySortedBy order (insert_key order xs k) → IsStrictlySortedBy order (match_ordering o (k ∷ x ∷ xs) (x ∷ xs) (x ∷ insert_key order xs k))
      at_order Less is later = ((is, below_all k x xs is rises.0), rises)
      at_order Equal is later = rises
      at_order Greater is later = (each_inserted (λ y. order x y ≡ Less) xs k rises.0 (turned_back total k x is), later)

  folded : (ks xs : List A) → IsStrictlySortedBy order ks → IsStrictlySortedBy order (fold (insert_key order) ks xs)
  folded ks [] rises = rises
  folded ks (x ∷ xs) rises = folded (insert_key order ks x) xs (inserted ks x rises)

  -- the elements in ascending order are each below all behind them
  pub ascending_rises : (xs : List A) → IsStrictlySortedBy order (ascending order xs)
  unfolding ascending IsStrictlySortedBy
  ascending_rises xs = folded [] xs tt
