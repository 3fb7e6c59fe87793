-- Lists in ascending order. `sorted_head`, `sorted_tail` and the like on `IsStrictlySortedBy` are in
-- `Rattle.std.proofs.lemmas.Map.Keys`.
use Rattle.std.proofs.Common.{◌≡◌, ◌↔◌, zero, suc, List, [], ◌∷◌, get_or, AllPairs, refl, sym, ap, subst, ◌∙◌, inl, inr, arith}
use Rattle.std.specs.Cmp.{IsTotalOrder}
use Rattle.std.specs.List.Sorted.{IsStrictlySortedBy}
use Rattle.std.specs.declared.cmp.Ordering.{Ordering}
use Rattle.std.specs.declared.cmp.Ordering.TheVariants.{Less}
use Rattle.vet_base.specs.Ascending.{Ascends}
use Rattle.vet_base.specs.Members.{In}
use Rattle.vet_base.proofs.Members.{in_get_or, each_from_in}
use Rattle.vet_base.proofs.Orders.{not_below_itself, not_both_below}

module _ {A : Type 0} (order : A → A → Ordering) where
  pub ascends_tail : (x : A) (ys : List A) → Ascends order (x ∷ ys) → Ascends order ys
  ascends_tail x [] up = tt
  ascends_tail x (y ∷ ys) up = up.1

  -- each element below all behind it
  pub ascends_from_pairs : (xs : List A) → AllPairs (λ x y. order x y ≡ Less) xs → Ascends order xs
  ascends_from_pairs [] up = tt
  ascends_from_pairs (x ∷ []) up = tt
  ascends_from_pairs (x ∷ y ∷ ys) up = (up 0 1 x (omega arith) (omega arith), ascends_from_pairs (y ∷ ys) (λ i j d below within. up (suc i) (suc j) d (omega arith) (omega arith)))

  pub ascends_from_sorted : (xs : List A) → IsStrictlySortedBy order xs → Ascends order xs
  unfolding IsStrictlySortedBy
  ascends_from_sorted [] up = tt
  ascends_from_sorted (x ∷ []) up = tt
  ascends_from_sorted (x ∷ y ∷ ys) up = (up.0.0, ascends_from_sorted (y ∷ ys) up.1)

module _ {A : Type 0} (order : A → A → Ordering) (total : IsTotalOrder order) where
  -- the first of an ascending list is below those behind it
  pub below_later : (x : A) (ys : List A) → Ascends order (x ∷ ys) → (y : A) → In y ys → order x y ≡ Less
  below_later x [] up y k = absurd k
  below_later x (z ∷ zs) up y (inl e) = subst (λ t. order x t ≡ Less) (sym e) up.0
  below_later x (z ∷ zs) up y (inr k) = total.trans x z y up.0 (below_later z zs up.1 y k)

  -- and so each element is
  pub ascends_pairs : (xs : List A) → Ascends order xs → AllPairs (λ x y. order x y ≡ Less) xs
  ascends_pairs [] up i j d below within = absurd (omega arith)
  ascends_pairs (x ∷ xs) up i zero d below within = absurd (omega arith)
  ascends_pairs (x ∷ xs) up zero (suc j) d below within = below_later x xs up (get_or xs j d) (in_get_or xs j d (omega arith))
  ascends_pairs (x ∷ xs) up (suc i) (suc j) d below within = ascends_pairs xs (ascends_tail order x xs up) i j d (omega arith) (omega arith)

  pub strictly_sorted : (xs : List A) → Ascends order xs → IsStrictlySortedBy order xs
  unfolding IsStrictlySortedBy
  strictly_sorted [] up = tt
  strictly_sorted (x ∷ xs) up = (each_from_in (λ y. order x y ≡ Less) xs (below_later x xs up), strictly_sorted xs (ascends_tail order x xs up))

  -- ascending lists of the same elements are one
  pub ascending_alike : (xs ys : List A) → Ascends order xs → Ascends order ys → ((t : A) → In t xs ↔ In t ys) → xs ≡ ys
  ascending_alike [] [] one two same = refl
  ascending_alike [] (y ∷ ys) one two same = absurd ((same y).1 (inl refl))
  ascending_alike (x ∷ xs) [] one two same = absurd ((same x).0 (inl refl))
  ascending_alike (x ∷ xs) (y ∷ ys) one two same =
      ap (λ t. t ∷ xs) first ∙ ap (λ ts. y ∷ ts) (ascending_alike xs ys (ascends_tail order x xs one) (ascends_tail order y ys two) (λ t. (there t, back t)))
    where
      by_place : In x (y ∷ ys) → In y (x ∷ xs) → x ≡ y
      by_place (inl e) k = e
      by_place (inr j) (inl e) = sym e
      by_place (inr j) (inr k) = absurd (not_both_below total x y (below_later x xs one y k) (below_later y ys two x j))

      first : x ≡ y
      first = by_place ((same x).0 (inl refl)) ((same y).1 (inl refl))

      behind : (t : A) → In t xs → In t (y ∷ ys) → In t ys
      behind t k (inl e) = absurd (not_below_itself total x t (first ∙ sym e) (below_later x xs one t k))
      behind t k (inr j) = j

      there : (t : A) → In t xs → In t ys
      there t k = behind t k ((same t).0 (inr k))

      before : (t : A) → In t ys → In t (x ∷ xs) → In t xs
      before t k (inl e) = absurd (not_below_itself total y t (sym first ∙ sym e) (below_later y ys two t k))
      before t k (inr j) = j

      back : (t : A) → In t ys → In t xs
      back t k = before t k ((same t).1 (inr k))
