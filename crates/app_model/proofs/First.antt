-- The first element of a list that passes a test, as a loop over the list finds it.
use Rattle.std.proofs.Common.{◌≡◌, ℕ, suc, ◌+◌, ◌<◌, ◌≤◌, Bool, true, false, List, ◌∷◌, length, get_or, drop, Option, Some, None, refl, sym, ◌∙◌, ap, arith}
use Rattle.std.specs.Prelude.{find}
use Rattle.std.specs.Option.{option_map}
use Rattle.std.proofs.lemmas.List.{drop_all}
use Rattle.vet_base.specs.Members.{first_index}
use Rattle.vet_base.proofs.Options.{map_itself}
use Rattle.vet_base.proofs.Lists.{drop_read}

-- the elements before i fail the test
pub record NoneBefore {A : Type 0} (test : A → Bool) (xs : List A) (i : ℕ) : Type 0 where
  pub index : first_index test xs ≡ option_map (λ k. i + k) (first_index test (drop i xs))
  pub element : find test xs ≡ find test (drop i xs)

map_more : (i : ℕ) (o : Option ℕ) → option_map (λ k. i + k) (option_map suc o) ≡ option_map (λ k. i + 1 + k) o
map_more i None = refl
map_more i (Some k) = let same : i + suc k ≡ i + 1 + k = omega arith in ap (λ y. Some y) same

pub none_before : {A : Type 0} (test : A → Bool) (xs : List A) → NoneBefore test xs 0
none_before test xs = record { index = sym (map_itself (λ k. 0 + k) (λ k. omega arith) (first_index test xs)); element = refl }

at_fails : {A : Type 0} (test : A → Bool) (x : A) (xs : List A) → test x ≡ false → (first_index test (x ∷ xs) ≡ option_map suc (first_index test xs)) × (find test (x ∷ xs) ≡ find test xs)
at_fails test x xs fails = (rw fails, rw fails)

at_passes : {A : Type 0} (test : A → Bool) (x : A) (xs : List A) → test x ≡ true → (first_index test (x ∷ xs) ≡ Some 0) × (find test (x ∷ xs) ≡ Some x)
at_passes test x xs passes = (rw passes, rw passes)

pub none_up_to : {A : Type 0} (test : A → Bool) (xs : List A) (i : ℕ) (x : A) → i < length xs → x ≡ get_or xs i x → test x ≡ false → NoneBefore test xs i → NoneBefore test xs (i + 1)
none_up_to test xs i x within is fails none =
    let front : drop i xs ≡ x ∷ drop (i + 1) xs = drop_read xs i x within is in
    let next : (first_index test (x ∷ drop (i + 1) xs) ≡ option_map suc (first_index test (drop (i + 1) xs))) × (find test (x ∷ drop (i + 1) xs) ≡ find test (drop (i + 1) xs)) = at_fails test x (drop (i + 1) xs) fails in
    record {
      index = none.index ∙ (ap (λ ys. option_map (λ k. i + k) (first_index test ys)) front ∙ (ap (λ o. option_map (λ k. i + k) o) next.0 ∙ map_more i (first_index test (drop (i + 1) xs))));
      element = none.element ∙ (ap (λ ys. find test ys) front ∙ next.1);
    }

pub first_at : {A : Type 0} (test : A → Bool) (xs : List A) (i : ℕ) (x : A) → i < length xs → x ≡ get_or xs i x → test x ≡ true → NoneBefore test xs i → (first_index test xs ≡ Some i) × (find test xs ≡ Some x)
first_at test xs i x within is passes none =
    let front : drop i xs ≡ x ∷ drop (i + 1) xs = drop_read xs i x within is in
    let here : (first_index test (x ∷ drop (i + 1) xs) ≡ Some 0) × (find test (x ∷ drop (i + 1) xs) ≡ Some x) = at_passes test x (drop (i + 1) xs) passes in
    let same : i + 0 ≡ i = omega arith in (
      none.index ∙ (ap (λ ys. option_map (λ k. i + k) (first_index test ys)) front ∙ (ap (λ o. option_map (λ k. i + k) o) here.0 ∙ ap (λ k. Some k) same)),
      none.element ∙ (ap (λ ys. find test ys) front ∙ here.1),
    )

pub none_at_all : {A : Type 0} (test : A → Bool) (xs : List A) (i : ℕ) → length xs ≤ i → NoneBefore test xs i → (first_index test xs ≡ None) × (find test xs ≡ None)
none_at_all test xs i past none = (
  none.index ∙ ap (λ ys. option_map (λ k. i + k) (first_index test ys)) (drop_all i xs past),
  none.element ∙ ap (λ ys. find test ys) (drop_all i xs past),
)
