-- A sort without repetitions gives the numbers each once, ascending: both lists ascend and have the same elements.
use Rattle.std.proofs.Common.{◌≡◌, ◌⊎◌, ℕ, ◌<◌, Bool, true, false, List, [], ◌∷◌, ◌++◌, refl, sym, subst, ◌∙◌, inl, inr, arith, eqb}
use Rattle.std.specs.Prelude.{nat_lt, ◌==◌, if◌then◌else◌, Contains}
use Rattle.std.specs.List.{dedup}
use Rattle.std.specs.List.Sorted.{IsSorted, IsPermutation}
use Rattle.std.specs.Ordering.{nat_cmp}
use Rattle.std.proofs.lemmas.Bool.{ltb-true, eqb-true}
use Rattle.std.proofs.lemmas.Bool.Decides.{nat_tests}
use Rattle.std.proofs.lemmas.Cmp.{nat_cmp_total}
use Rattle.std.proofs.lemmas.List.Kept.{Contains-dedup_nat, Contains-from_dedup}
use Rattle.std.proofs.lemmas.List.Sorted.{Contains-permutation, IsPermutation-sym}
use Rattle.std.proofs.lemmas.Map.Keys.{sorted_from_strictly_increasing, IsStrictlyIncreasing-dedup}
use Rattle.vet_base.specs.Ascending.{Ascends}
use Rattle.vet_base.specs.Members.{In}
use Rattle.vet_base.proofs.Ascending.{ascends_from_sorted, ascending_alike}
use Rattle.vet_base.proofs.Members.{in_front, in_back, in_either, in_iff_contains}
use Rattle.vet_base.proofs.Orders.{less_cmp}
use Rattle.dex_code.specs.Next.{insert_once, in_order}

-- a number put where it belongs is one more element
from_insert : (x k : ℕ) (xs : List ℕ) → In x (insert_once k xs) → (x ≡ k) ⊎ In x xs
from_insert x k [] h = h
from_insert x k (y ∷ ys) h = by_tests (nat_lt k y) (k == y) (from_insert x k ys) h
  where
    by_tests : (a b : Bool) → (In x (insert_once k ys) → (x ≡ k) ⊎ In x ys) → In x (if a then k ∷ y ∷ ys else if b then y ∷ ys else y ∷ insert_once k ys) → (x ≡ k) ⊎ In x (y ∷ ys)
    by_tests true b later h = h
    by_tests false true later h = inr h
    by_tests false false later (inl e) = inr (inl e)
    by_tests false false later (inr j) = elim (later j) [ inl e ↦ inl e | inr i ↦ inr (inr i) ]

in_insert : (x k : ℕ) (xs : List ℕ) → (x ≡ k) ⊎ In x xs → In x (insert_once k xs)
in_insert x k [] h = h
in_insert x k (y ∷ ys) h = by_tests (nat_lt k y) (k == y) (λ same. eqb-true k y same) (in_insert x k ys) h
  where
    by_tests : (a b : Bool) → (b ≡ true → k ≡ y) → ((x ≡ k) ⊎ In x ys → In x (insert_once k ys)) → (x ≡ k) ⊎ In x (y ∷ ys) → In x (if a then k ∷ y ∷ ys else if b then y ∷ ys else y ∷ insert_once k ys)
    by_tests true b same later h = h
    by_tests false true same later (inl e) = inl (subst (λ z. x ≡ z) (same refl) e)
    by_tests false true same later (inr j) = j
    by_tests false false same later (inl e) = inr (later (inl e))
    by_tests false false same later (inr (inl e)) = inl e
    by_tests false false same later (inr (inr j)) = inr (later (inr j))

pub from_order : (x : ℕ) (ns : List ℕ) → In x (in_order ns) → In x ns
unfolding in_order
from_order x [] h = h
from_order x (n ∷ ns) h = elim (from_insert x n (in_order ns) h) [ inl e ↦ inl e | inr k ↦ inr (from_order x ns k) ]

into_order : (x : ℕ) (ns : List ℕ) → In x ns → In x (in_order ns)
unfolding in_order
into_order x [] h = h
into_order x (n ∷ ns) (inl e) = in_insert x n (in_order ns) (inl e)
into_order x (n ∷ ns) (inr k) = in_insert x n (in_order ns) (inr (into_order x ns k))

-- and the numbers still ascend
insert_above : (lo x : ℕ) (xs : List ℕ) → lo < x → Ascends nat_cmp (lo ∷ xs) → Ascends nat_cmp (lo ∷ insert_once x xs)
insert_above lo x [] lt up = (less_cmp lo x lt, tt)
insert_above lo x (y ∷ ys) lt up = by_tests (nat_lt x y) refl (x == y) refl (λ above. insert_above y x ys above up.1)
  where
    by_tests : (a : Bool) → nat_lt x y ≡ a → (b : Bool) → (x == y) ≡ b → (y < x → Ascends nat_cmp (y ∷ insert_once x ys)) → Ascends nat_cmp (lo ∷ (if a then x ∷ y ∷ ys else if b then y ∷ ys else y ∷ insert_once x ys))
    by_tests true below b same later = (less_cmp lo x lt, (less_cmp x y (ltb-true x y below), up.1))
    by_tests false below true same later = up
    by_tests false below false same later = let above : y < x = grind (arith, nat_tests) in (up.0, later above)

ascends_insert : (x : ℕ) (xs : List ℕ) → Ascends nat_cmp xs → Ascends nat_cmp (insert_once x xs)
ascends_insert x [] up = tt
ascends_insert x (y ∷ ys) up = by_tests (nat_lt x y) refl (x == y) refl
  where
    by_tests : (a : Bool) → nat_lt x y ≡ a → (b : Bool) → (x == y) ≡ b → Ascends nat_cmp (if a then x ∷ y ∷ ys else if b then y ∷ ys else y ∷ insert_once x ys)
    by_tests true below b same = (less_cmp x y (ltb-true x y below), up)
    by_tests false below true same = up
    by_tests false below false same = let above : y < x = grind (arith, nat_tests) in insert_above y x ys above up

ascends_in_order : (xs : List ℕ) → Ascends nat_cmp (in_order xs)
unfolding in_order
ascends_in_order [] = tt
ascends_in_order (x ∷ xs) = ascends_insert x (in_order xs) (ascends_in_order xs)

pub ordered : (xs ys : List ℕ) → IsPermutation xs ys → IsSorted nat_cmp ys → dedup eqb ys ≡ in_order xs
ordered xs ys permutation sorted =
    ascending_alike nat_cmp nat_cmp_total (dedup eqb ys) (in_order xs) (ascends_from_sorted nat_cmp (dedup eqb ys) (sorted_from_strictly_increasing (dedup eqb ys) (IsStrictlyIncreasing-dedup ys sorted))) (ascends_in_order xs)
    (λ n. (λ k. into_order n xs (there n k), λ k. back n (from_order n xs k)))
  where
    there : (n : ℕ) → In n (dedup eqb ys) → In n xs
    there n k =
        let kept : Contains ys n = Contains-from_dedup eqb ys n ((in_iff_contains n (dedup eqb ys)).0 k) in
        (in_iff_contains n xs).1 (Contains-permutation ys xs n (IsPermutation-sym xs ys permutation) kept)

    back : (n : ℕ) → In n xs → In n (dedup eqb ys)
    back n k =
        let moved : Contains ys n = Contains-permutation xs ys n permutation ((in_iff_contains n xs).0 k) in
        (in_iff_contains n (dedup eqb ys)).1 (Contains-dedup_nat ys n moved)

-- in order, lists with the same elements are one, so that only elements count
elements_alone : (xs ys : List ℕ) → ((n : ℕ) → In n xs → In n ys) → ((n : ℕ) → In n ys → In n xs) → in_order xs ≡ in_order ys
elements_alone xs ys there back =
    ascending_alike nat_cmp nat_cmp_total (in_order xs) (in_order ys) (ascends_in_order xs) (ascends_in_order ys) (λ n. (λ k. into_order n ys (there n (from_order n xs k)), λ k. into_order n xs (back n (from_order n ys k))))

same_elements : (xs ys : List ℕ) → in_order xs ≡ in_order ys → (n : ℕ) → In n xs → In n ys
same_elements xs ys e n k = from_order n ys (subst (λ (zs : List ℕ). In n zs) e (into_order n xs k))

pub in_order-in_order : (xs : List ℕ) → in_order (in_order xs) ≡ in_order xs
in_order-in_order xs = elements_alone (in_order xs) xs (λ n k. from_order n xs k) (λ n k. into_order n xs k)

swapped : (xs ys : List ℕ) (n : ℕ) → In n (xs ++ ys) → In n (ys ++ xs)
swapped xs ys n k = elim (in_either n xs ys k) [ inl front ↦ in_back n ys xs front | inr back ↦ in_front n ys xs back ]

pub in_order_swapped : (xs ys : List ℕ) → in_order (xs ++ ys) ≡ in_order (ys ++ xs)
in_order_swapped xs ys = elements_alone (xs ++ ys) (ys ++ xs) (swapped xs ys) (swapped ys xs)

before : (xs ys zs : List ℕ) → in_order xs ≡ in_order ys → (n : ℕ) → In n (xs ++ zs) → In n (ys ++ zs)
before xs ys zs e n k = elim (in_either n xs zs k) [ inl front ↦ in_front n ys zs (same_elements xs ys e n front) | inr back ↦ in_back n ys zs back ]

pub in_order-before : (xs ys zs : List ℕ) → in_order xs ≡ in_order ys → in_order (xs ++ zs) ≡ in_order (ys ++ zs)
in_order-before xs ys zs e = elements_alone (xs ++ zs) (ys ++ zs) (before xs ys zs e) (before ys xs zs (sym e))

pub in_order-behind : (zs xs ys : List ℕ) → in_order xs ≡ in_order ys → in_order (zs ++ xs) ≡ in_order (zs ++ ys)
in_order-behind zs xs ys e = in_order_swapped zs xs ∙ in_order-before xs ys zs e ∙ in_order_swapped ys zs
