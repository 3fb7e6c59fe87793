-- Lists of the same numbers ascend to one list.
use Rattle.std.proofs.Common.{◌≡◌, ◌==◌, ◌⊎◌, inl, inr, ℕ, ◌<◌, ◌≤◌, Bool, true, false, not, cond, List, [], ◌∷◌, ◌++◌, reverse, refl, sym, ap, ◌∙◌, arith, eqb-true, eq-eqb, leb-true, leb-false}
use Rattle.std.specs.Prelude.{filter, nat_le}
use Rattle.vet_base.specs.Members.{In}
use Rattle.played_machine.specs.Ordered.{once, inserted, sorted, ascending}
use Rattle.played_machine.specs.Reading.{handed_places}
use Rattle.played_machine.proofs.Ordered.{false_true, from_filter, from_once, from_inserted, reverse-cons, in_ascending, from_ascending}

-- each number is above those before it
abbrev pub Rises : List ℕ → Type 0
Rises [] = Unit {0}
Rises (x ∷ xs) = ((y : ℕ) → In y xs → x < y) × Rises xs

pub same_rising : (xs ys : List ℕ) → Rises xs → Rises ys → ((x : ℕ) → In x xs → In x ys) → ((x : ℕ) → In x ys → In x xs) → xs ≡ ys
same_rising [] [] rx ry to from = refl
same_rising [] (y ∷ ys) rx ry to from = absurd (from y (inl refl))
same_rising (x ∷ xs) [] rx ry to from = absurd (to x (inl refl))
same_rising (x ∷ xs) (y ∷ ys) rx ry to from =
    let same : x ≡ y = head (to x (inl refl)) (from y (inl refl)) in
    ap (λ z. z ∷ xs) same ∙ ap (λ zs. y ∷ zs) (same_rising xs ys rx.1 ry.1 (λ z h. later z h (to z (inr h)) same) (λ z h. sooner z h (from z (inr h)) same))
  where
    head : (x ≡ y) ⊎ In x ys → (y ≡ x) ⊎ In y xs → x ≡ y
    head (inl same) other = same
    head (inr h) (inl same) = sym same
    head (inr h) (inr k) = absurd (omega (arith, ry.0 x h, rx.0 y k))

    later : (z : ℕ) → In z xs → (z ≡ y) ⊎ In z ys → x ≡ y → In z ys
    later z h (inl same) first = absurd (omega (arith, rx.0 z h, same, first))
    later z h (inr k) first = k

    sooner : (z : ℕ) → In z ys → (z ≡ x) ⊎ In z xs → x ≡ y → In z xs
    sooner z h (inl same) first = absurd (omega (arith, ry.0 z h, same, first))
    sooner z h (inr k) first = k

-- none is below one before it
abbrev Climbs : List ℕ → Type 0
Climbs [] = Unit {0}
Climbs (x ∷ xs) = ((y : ℕ) → In y xs → x ≤ y) × Climbs xs

climbs_inserted : (x : ℕ) (ys : List ℕ) → Climbs ys → Climbs (inserted x ys)
climbs_inserted x [] climbs = (λ y h. absurd h, tt)
climbs_inserted x (y ∷ ys) climbs = by_order (nat_le x y) refl (climbs_inserted x ys climbs.1)
  where
    at_front : x ≤ y → (z : ℕ) → In z (y ∷ ys) → x ≤ z
    at_front le z (inl same) = omega (arith, le, same)
    at_front le z (inr h) = omega (arith, le, climbs.0 z h)

    behind : y < x → (z : ℕ) → In z (x ∷ ys) → y ≤ z
    behind lt z (inl same) = omega (arith, lt, same)
    behind lt z (inr h) = climbs.0 z h

    by_order : (b : Bool) → nat_le x y ≡ b → Climbs (inserted x ys) → Climbs (cond b (x ∷ y ∷ ys) (y ∷ inserted x ys))
    by_order true e rest = (at_front (leb-true x y e), climbs)
    by_order false e rest = (λ z h. behind (leb-false x y e) z (from_inserted x ys z h), rest)

climbs_sorted : (xs : List ℕ) → Climbs (sorted xs)
climbs_sorted [] = tt
climbs_sorted (x ∷ xs) = climbs_inserted x (sorted xs) (climbs_sorted xs)

pub rises_filter : (p : ℕ → Bool) (xs : List ℕ) → Rises xs → Rises (filter p xs)
rises_filter p [] rises = tt
rises_filter p (x ∷ xs) rises = by_test (p x) (rises_filter p xs rises.1)
  where
    by_test : (b : Bool) → Rises (filter p xs) → Rises (cond b (x ∷ filter p xs) (filter p xs))
    by_test true rest = (λ y h. rises.0 y (from_filter p xs y h).0, rest)
    by_test false rest = rest

rises_once : (xs : List ℕ) → Climbs xs → Rises (once xs)
rises_once [] climbs = tt
rises_once (x ∷ xs) climbs = (above, rises_filter (λ y. not (y == x)) (once xs) (rises_once xs climbs.1))
  where
    differs : (y : ℕ) (b : Bool) → (y == x) ≡ b → not b ≡ true → y ≡ x → ⊥
    differs y true e other same = false_true other
    differs y false e other same = false_true (sym e ∙ eq-eqb y x same)

    above : (y : ℕ) → In y (filter (λ y. not (y == x)) (once xs)) → x < y
    above y h =
        let kept = from_filter (λ y. not (y == x)) (once xs) y h in
        let least : x ≤ y = climbs.0 y (from_once xs y kept.0) in
        let other : y ≡ x → ⊥ = differs y (y == x) refl kept.1 in
        omega (arith, least, other)

pub rises_ascending : (xs : List ℕ) → Rises (ascending xs)
unfolding ascending
rises_ascending xs = rises_once (sorted xs) (climbs_sorted xs)

pub same_ascending : (xs ys : List ℕ) → ((x : ℕ) → In x xs → In x ys) → ((x : ℕ) → In x ys → In x xs) → ascending xs ≡ ascending ys
same_ascending xs ys to from = same_rising (ascending xs) (ascending ys) (rises_ascending xs) (rises_ascending ys)
    (λ x h. in_ascending ys x (to x (from_ascending xs x h)))
    (λ x h. in_ascending xs x (from x (from_ascending ys x h)))

-- the number behind the others, where it is none of them
abbrev pub put_once : ℕ → List ℕ → List ℕ
put_once p [] = p ∷ []
put_once p (y ∷ ys) = cond (p == y) (y ∷ ys) (y ∷ put_once p ys)

filter_put : (test : ℕ → Bool) (p : ℕ) (ys : List ℕ) → filter test (put_once p ys) ≡ cond (test p) (put_once p (filter test ys)) (filter test ys)
filter_put test p [] = refl
filter_put test p (y ∷ ys) = by_tests (p == y) (test p) (test y) refl refl refl (filter_put test p ys)
  where
    apart : (p == y) ≡ true → test p ≡ true → test y ≡ false → ⊥
    apart e f g = false_true (sym g ∙ (ap test (sym (eqb-true p y e)) ∙ f))

    apart_back : (p == y) ≡ true → test p ≡ false → test y ≡ true → ⊥
    apart_back e f g = false_true (sym f ∙ (ap test (eqb-true p y e) ∙ g))

    by_tests : (b c d : Bool) → (p == y) ≡ b → test p ≡ c → test y ≡ d → filter test (put_once p ys) ≡ cond (test p) (put_once p (filter test ys)) (filter test ys) →
        filter test (put_once p (y ∷ ys)) ≡ cond (test p) (put_once p (filter test (y ∷ ys))) (filter test (y ∷ ys))
    by_tests true true true e f g later = simp (e, f, g)
    by_tests true false false e f g later = simp (e, f, g)
    by_tests true true false e f g later = absurd (apart e f g)
    by_tests true false true e f g later = absurd (apart_back e f g)
    by_tests false true true e f g later = simp (e, f, g, later)
    by_tests false true false e f g later = simp (e, f, g, later)
    by_tests false false true e f g later = simp (e, f, g, later)
    by_tests false false false e f g later = simp (e, f, g, later)

pub once_put : (xs : List ℕ) (p : ℕ) → once (xs ++ p ∷ []) ≡ put_once p (once xs)
once_put [] p = refl
once_put (x ∷ xs) p =
    ap (λ zs. x ∷ filter (λ y. not (y == x)) zs) (once_put xs p)
    ∙ (ap (λ zs. x ∷ zs) (filter_put (λ y. not (y == x)) p (once xs)) ∙ by_first (p == x) (filter (λ y. not (y == x)) (once xs)))
  where
    by_first : (b : Bool) (zs : List ℕ) → x ∷ cond (not b) (put_once p zs) zs ≡ cond b (x ∷ zs) (x ∷ put_once p zs)
    by_first true zs = refl
    by_first false zs = refl

-- where a place is handed, the places depend on those before alone
pub handed_next : (p : ℕ) (handed : List ℕ) → handed_places (p ∷ handed) ≡ put_once p (handed_places handed)
unfolding handed_places
handed_next p handed = ap once (reverse-cons p handed) ∙ once_put (reverse handed) p

pub same_by_elements : (xs ys : List ℕ) → ((x : ℕ) → In x (ascending xs) → In x (ascending ys)) → ((x : ℕ) → In x (ascending ys) → In x (ascending xs)) → ascending xs ≡ ascending ys
same_by_elements xs ys to from = same_rising (ascending xs) (ascending ys) (rises_ascending xs) (rises_ascending ys) to from
