-- The first element that passes a test, and what the first element gives.
use Rattle.std.proofs.Common.{◌≡◌, ℕ, zero, suc, ◌<◌, Bool, true, false, cond, List, [], ◌∷◌, ◌++◌, length, get_or, Option, Some, None, option_map, slice_get, find, flat_map, refl, sym, ap, subst, ◌∙◌, inl, inr, arith}
use Rattle.std.specs.Option.{option_or}
use Rattle.std.proofs.lemmas.Option.{same_Some, none-some, slice_get_within}
use Rattle.vet_base.specs.Members.{first_index, first_given, In}

module _ {A : Type 0} (test : A → Bool) where
  pub index_found : (xs : List A) (i : ℕ) → first_index test xs ≡ Some i → (x : A) × (slice_get xs i ≡ Some x) × (test x ≡ true)
  index_found [] i e = absurd (none-some i e)
  index_found (x ∷ xs) i e = by_test (test x) refl (first_index test xs) (index_found xs) e
    where
      later : (j : ℕ) → suc j ≡ i → (y : A) × (slice_get xs j ≡ Some y) × (test y ≡ true) → (y : A) × (slice_get (x ∷ xs) i ≡ Some y) × (test y ≡ true)
      later j same found = (found.0, subst (λ k. slice_get (x ∷ xs) k ≡ Some found.0) same found.1, found.2)

      by_test : (b : Bool) → test x ≡ b → (o : Option ℕ) → ((j : ℕ) → o ≡ Some j → (y : A) × (slice_get xs j ≡ Some y) × (test y ≡ true))
          → cond b (Some 0) (option_map suc o) ≡ Some i → (y : A) × (slice_get (x ∷ xs) i ≡ Some y) × (test y ≡ true)
      by_test true is o more e = (x, subst (λ k. slice_get (x ∷ xs) k ≡ Some x) (same_Some 0 i e) refl, is)
      by_test false is None more e = absurd (none-some i e)
      by_test false is (Some j) more e = later j (same_Some (suc j) i e) (more j refl)

  pub index_below : (xs : List A) (i : ℕ) → first_index test xs ≡ Some i → i < length xs
  index_below xs i e = let found = index_found xs i e in slice_get_within xs i found.0 found.1

  pub first_is : (xs : List A) (i : ℕ) (d : A) → i < length xs → test (get_or xs i d) ≡ true → ((j : ℕ) → j < i → test (get_or xs j d) ≡ false) →
      (first_index test xs ≡ Some i) × (find test xs ≡ Some (get_or xs i d))
  first_is [] i d within passes before = absurd (omega arith)
  first_is (x ∷ xs) zero d within passes before = (rw passes, rw passes)
  first_is (x ∷ xs) (suc i) d within passes before =
      let fails : test x ≡ false = before 0 (omega arith) in
      let rest : (first_index test xs ≡ Some i) × (find test xs ≡ Some (get_or xs i d)) = first_is xs i d (omega arith) passes (λ j below. before (suc j) (omega arith)) in
      (rw (fails, rest.0), rw (fails, rest.1))

  pub first_is_none : (xs : List A) → ((j : ℕ) (d : A) → j < length xs → test (get_or xs j d) ≡ false) → (first_index test xs ≡ None) × (find test xs ≡ None)
  first_is_none [] fails = (refl, refl)
  first_is_none (x ∷ xs) fails =
      let here : test x ≡ false = fails 0 x (omega arith) in
      let rest : (first_index test xs ≡ None) × (find test xs ≡ None) = first_is_none xs (λ j d below. fails (suc j) d (omega arith)) in
      (rw (here, rest.0), rw (here, rest.1))

option_or_or : {B : Type 0} (a b c : Option B) → option_or a (option_or b c) ≡ option_or (option_or a b) c
option_or_or (Some y) b c = refl
option_or_or None b c = refl

module _ {A B : Type 0} (f : A → Option B) where
  given-cons : (x : A) (xs : List A) → first_given f (x ∷ xs) ≡ option_or (f x) (first_given f xs)
  given-cons x xs = by_first (f x)
    where
      by_first : (o : Option B) → (elim o as (λ (o : Option B). Option B) [ Some y ↦ Some y | None ↦ first_given f xs ]) ≡ option_or o (first_given f xs)
      by_first (Some y) = refl
      by_first None = refl

  -- the first of two lists counts where it gives one
  pub given-append : (xs ys : List A) → first_given f (xs ++ ys) ≡ option_or (first_given f xs) (first_given f ys)
  given-append [] ys = refl
  given-append (x ∷ xs) ys =
      given-cons x (xs ++ ys) ∙ (ap (λ o. option_or (f x) o) (given-append xs ys)
      ∙ (option_or_or (f x) (first_given f xs) (first_given f ys) ∙ ap (λ o. option_or o (first_given f ys)) (sym (given-cons x xs))))

  pub given_first : (ys xs : List A) (y : B) → first_given f xs ≡ Some y → first_given f (xs ++ ys) ≡ Some y
  given_first ys xs y is = given-append xs ys ∙ ap (λ o. option_or o (first_given f ys)) is

  pub given_behind : (ys xs : List A) → first_given f xs ≡ None → first_given f (xs ++ ys) ≡ first_given f ys
  given_behind ys xs is = given-append xs ys ∙ ap (λ o. option_or o (first_given f ys)) is

  pub given_found : (xs : List A) (y : B) → first_given f xs ≡ Some y → (x : A) × In x xs × (f x ≡ Some y)
  given_found [] y e = absurd (none-some y e)
  given_found (x ∷ xs) y e = by_first (f x) refl (given_found xs y) (sym (given-cons x xs) ∙ e)
    where
      by_first : (o : Option B) → f x ≡ o → (first_given f xs ≡ Some y → (z : A) × In z xs × (f z ≡ Some y)) → option_or o (first_given f xs) ≡ Some y → (z : A) × In z (x ∷ xs) × (f z ≡ Some y)
      by_first (Some z) is later e = (x, inl refl, is ∙ e)
      by_first None is later e = let rest = later e in (rest.0, inr rest.1, rest.2)

-- where every number that is given is below a bound, the first is
pub given_below : {A : Type 0} (f : A → Option ℕ) (n : ℕ) → ((x : A) (j : ℕ) → f x ≡ Some j → j < n) → (xs : List A) (j : ℕ) → first_given f xs ≡ Some j → j < n
given_below f n below xs j e = let found = given_found f xs j e in below found.0 j found.2

-- the first of lists one after the other is that of the first list that gives one
pub given_of_each : {A B C : Type 0} (f : B → Option C) (g : A → List B) (xs : List A) → first_given f (flat_map g xs) ≡ first_given (λ x. first_given f (g x)) xs
given_of_each f g [] = refl
given_of_each f g (x ∷ xs) =
    given-append f (g x) (flat_map g xs) ∙ (ap (λ o. option_or (first_given f (g x)) o) (given_of_each f g xs) ∙ sym (given-cons (λ x. first_given f (g x)) x xs))

-- no element that was passed gives any: what all give first, those that are left give first
pub record SameFirst {A B : Type 0} (f : A → Option B) (all left : List A) : Type 0 where
  pub same : first_given f all ≡ first_given f left

module _ {A B : Type 0} (f : A → Option B) (all left : List A) where
  pub first_begins : left ≡ all → SameFirst f all left
  first_begins is = record { same = ap (first_given f) (sym is) }

  module _ (passed : SameFirst f all left) where
    at_front : (x : A) (rest : List A) → left ≡ x ∷ rest → first_given f all ≡ option_or (f x) (first_given f rest)
    at_front x rest is = passed.same ∙ (ap (first_given f) is ∙ given-cons f x rest)

    pub first_found : (x : A) (rest : List A) (y : B) → left ≡ x ∷ rest → f x ≡ Some y → first_given f all ≡ Some y
    first_found x rest y is gives = at_front x rest is ∙ ap (λ o. option_or o (first_given f rest)) gives

    pub first_later : (x : A) (rest : List A) → left ≡ x ∷ rest → f x ≡ None → SameFirst f all rest
    first_later x rest is gives = record { same = at_front x rest is ∙ ap (λ o. option_or o (first_given f rest)) gives }

    pub first_nowhere : left ≡ [] → first_given f all ≡ None
    first_nowhere is = passed.same ∙ ap (first_given f) is
