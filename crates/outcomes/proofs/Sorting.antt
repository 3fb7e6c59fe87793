-- Ascending lists: under a map that keeps the order, and what is in them.
use Rattle.std.proofs.Common.{◌≡◌, Bool, true, false, ◌||◌, List, [], ◌∷◌, ◌++◌, map, refl, sym, ◌∙◌, ap, subst}
use Rattle.std.proofs.Math.Bool.{or-false}
use Rattle.std.specs.Prelude.{fold}
use Rattle.std.specs.Cmp.{IsTotalOrder}
use Rattle.std.specs.List.{list_any, AllByRecursion}
use Rattle.std.specs.Ordering.{is_eq, match_ordering}
use Rattle.std.specs.declared.cmp.Ordering.{Ordering}
use Rattle.std.specs.declared.cmp.Ordering.TheVariants.{Less, Equal, Greater}
use Rattle.std.specs.BTreeSet.{insert_key}
use Rattle.std.specs.BTreeMap.{is_at}
use Rattle.std.proofs.lemmas.Cmp.{alike_right, tied_itself}
use Rattle.std.proofs.lemmas.Map.Lookups.{CmpEqualImpliesEq}
use Rattle.outcomes.specs.Ascending.{ascending}
use Rattle.vet_base.specs.Members.{In}
use Rattle.vet_base.proofs.Members.{one_passes, passes_if}
use Rattle.vet_base.proofs.Orders.{is_equal}

-- a map that keeps the order of elements of some kind, of which all are
module _ {A B : Type 0} (R : A → A → Ordering) (S : B → B → Ordering) (g : A → B) (P : A → Type 0) (same : (a b : A) → P a → P b → S (g a) (g b) ≡ R a b) where
  each_insert : (ks : List A) (k : A) → AllByRecursion P ks → P k → AllByRecursion P (insert_key R ks k)
  each_insert [] k each is = (is, tt)
  each_insert (x ∷ xs) k each is = at_order (R k x) (each_insert xs k each.1 is)
    where
      at_order : (o : Ordering) → AllByRecursion P (insert_key R xs k) → AllByRecursion P (match_ordering o (k ∷ x ∷ xs) (x ∷ xs) (x ∷ insert_key R xs k))
      at_order Less later = (is, each)
      at_order Equal later = each
      at_order Greater later = (each.0, later)

  map_insert : (ks : List A) (k : A) → AllByRecursion P ks → P k → map g (insert_key R ks k) ≡ insert_key S (map g ks) (g k)
  map_insert [] k each is = refl
  map_insert (x ∷ xs) k each is = rw (same k x is each.0) (at_order (R k x) (map_insert xs k each.1 is))
    where
      at_order : (o : Ordering) → map g (insert_key R xs k) ≡ insert_key S (map g xs) (g k)
          → map g (match_ordering o (k ∷ x ∷ xs) (x ∷ xs) (x ∷ insert_key R xs k)) ≡ match_ordering o (g k ∷ g x ∷ map g xs) (g x ∷ map g xs) (g x ∷ insert_key S (map g xs) (g k))
      at_order Less later = refl
      at_order Equal later = refl
      at_order Greater later = ap (λ (ys : List B). g x ∷ ys) later

  map_folded : (acc xs : List A) → AllByRecursion P acc → AllByRecursion P xs → map g (fold (insert_key R) acc xs) ≡ fold (insert_key S) (map g acc) (map g xs)
  map_folded acc [] of_acc of_xs = refl
  map_folded acc (x ∷ xs) of_acc of_xs =
      map_folded (insert_key R acc x) xs (each_insert acc x of_acc of_xs.0) of_xs.1 ∙ ap (λ (ys : List B). fold (insert_key S) ys (map g xs)) (map_insert acc x of_acc of_xs.0)

  pub map_ascending : (xs : List A) → AllByRecursion P xs → map g (ascending R xs) ≡ ascending S (map g xs)
  unfolding ascending
  map_ascending xs each = map_folded [] xs tt each

module _ {A : Type 0} (R : A → A → Ordering) where
  -- the set of no items, and of one more
  pub none_yet : (ks : List A) → ks ≡ [] → ks ≡ ascending R []
  unfolding ascending
  none_yet ks none = none

  fold_more : (acc xs : List A) (x : A) → fold (insert_key R) acc (xs ++ x ∷ []) ≡ insert_key R (fold (insert_key R) acc xs) x
  fold_more acc [] x = refl
  fold_more acc (y ∷ xs) x = fold_more (insert_key R acc y) xs x

  pub one_more : (ks new xs : List A) (x : A) → ks ≡ ascending R xs → new ≡ insert_key R ks x → new ≡ ascending R (xs ++ x ∷ [])
  unfolding ascending
  one_more ks new xs x so_far added = added ∙ ap (λ (ys : List A). insert_key R ys x) so_far ∙ sym (fold_more [] xs x)

module _ {A : Type 0} (R : A → A → Ordering) (total : IsTotalOrder R) (k : A) where
  said_twice : (a b : Bool) → (a || b) ≡ (a || (a || b))
  said_twice true b = refl
  said_twice false b = refl

  swapped : (a b c : Bool) → (a || (b || c)) ≡ (b || (a || c))
  swapped true true c = refl
  swapped true false c = refl
  swapped false b c = refl

  any_inserted : (ks : List A) (y : A) → list_any (is_at (R k)) (insert_key R ks y) ≡ (is_at (R k) y || list_any (is_at (R k)) ks)
  any_inserted [] y = refl
  any_inserted (x ∷ xs) y = at_order (R y x) refl (any_inserted xs y)
    where
      at_order : (o : Ordering) → R y x ≡ o → list_any (is_at (R k)) (insert_key R xs y) ≡ (is_at (R k) y || list_any (is_at (R k)) xs)
          → list_any (is_at (R k)) (match_ordering o (y ∷ x ∷ xs) (x ∷ xs) (x ∷ insert_key R xs y)) ≡ (is_at (R k) y || (is_at (R k) x || list_any (is_at (R k)) xs))
      at_order Less is later = refl
      at_order Equal is later = said_twice (is_at (R k) x) (list_any (is_at (R k)) xs) ∙ ap (λ (b : Bool). b || (is_at (R k) x || list_any (is_at (R k)) xs)) (ap is_eq (sym (alike_right total y x k is)))
      at_order Greater is later = ap (λ (b : Bool). is_at (R k) x || b) later ∙ swapped (is_at (R k) x) (is_at (R k) y) (list_any (is_at (R k)) xs)

  moved : (a b c : Bool) → ((a || b) || c) ≡ (b || (a || c))
  moved true true c = refl
  moved true false c = refl
  moved false b c = refl

  any_folded : (acc xs : List A) → list_any (is_at (R k)) (fold (insert_key R) acc xs) ≡ (list_any (is_at (R k)) acc || list_any (is_at (R k)) xs)
  any_folded acc [] = sym (or-false (list_any (is_at (R k)) acc))
  any_folded acc (x ∷ xs) =
      any_folded (insert_key R acc x) xs ∙ ap (λ (b : Bool). b || list_any (is_at (R k)) xs) (any_inserted acc x)
      ∙ moved (is_at (R k) x) (list_any (is_at (R k)) acc) (list_any (is_at (R k)) xs)

  -- the set of a list has what the list has
  pub any_ascending : (xs : List A) → list_any (is_at (R k)) (ascending R xs) ≡ list_any (is_at (R k)) xs
  unfolding ascending
  any_ascending xs = any_folded [] xs

  -- and each of its elements, where the order tells all elements apart
  pub in_ascending : CmpEqualImpliesEq R → (xs : List A) → In k xs → In k (ascending R xs)
  in_ascending exact xs is_in =
      let tied : is_at (R k) k ≡ true = ap is_eq (tied_itself total k) in
      let one = one_passes (is_at (R k)) (ascending R xs) (any_ascending xs ∙ passes_if (is_at (R k)) xs k is_in tied) in
      subst (λ y. In y (ascending R xs)) (sym (exact k one.0 (is_equal (R k one.0) one.2))) one.1
