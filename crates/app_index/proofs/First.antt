-- What the first element gives, as a loop over the list finds it.
use Rattle.std.proofs.Common.{◌≡◌, ℕ, ◌+◌, ◌<◌, ◌≤◌, List, ◌∷◌, length, get_or, drop, Option, Some, None, refl, ◌∙◌, ap}
use Rattle.std.proofs.lemmas.List.{drop_all}
use Rattle.vet_base.specs.Members.{first_given}
use Rattle.vet_base.proofs.Lists.{drop_read}

-- the first, where there is one, and otherwise the second
abbrev or_first : {B : Type 0} → Option B → Option B → Option B
or_first o other = elim o [ Some y ↦ Some y | None ↦ other ]

-- the elements before i give nothing
pub record NothingBefore {A B : Type 0} (f : A → Option B) (xs : List A) (i : ℕ) : Type 0 where
  pub rest : first_given f xs ≡ first_given f (drop i xs)

pub nothing_before : {A B : Type 0} (f : A → Option B) (xs : List A) → NothingBefore f xs 0
nothing_before f xs = record { rest = refl }

given_next : {A B : Type 0} (f : A → Option B) (x : A) (xs : List A) → f x ≡ None → first_given f (x ∷ xs) ≡ first_given f xs
given_next f x xs gives = ap (λ o. or_first o (first_given f xs)) gives

given_here : {A B : Type 0} (f : A → Option B) (x : A) (y : B) (xs : List A) → f x ≡ Some y → first_given f (x ∷ xs) ≡ Some y
given_here f x y xs gives = ap (λ o. or_first o (first_given f xs)) gives

pub nothing_up_to : {A B : Type 0} (f : A → Option B) (xs : List A) (i : ℕ) (x : A) → i < length xs → x ≡ get_or xs i x → f x ≡ None → NothingBefore f xs i → NothingBefore f xs (i + 1)
nothing_up_to f xs i x within is gives nothing = record { rest = nothing.rest ∙ (ap (λ ys. first_given f ys) (drop_read xs i x within is) ∙ given_next f x (drop (i + 1) xs) gives) }

pub given_at : {A B : Type 0} (f : A → Option B) (xs : List A) (i : ℕ) (x : A) (y : B) → i < length xs → x ≡ get_or xs i x → f x ≡ Some y → NothingBefore f xs i → first_given f xs ≡ Some y
given_at f xs i x y within is gives nothing = nothing.rest ∙ (ap (λ ys. first_given f ys) (drop_read xs i x within is) ∙ given_here f x y (drop (i + 1) xs) gives)

pub nothing_at_all : {A B : Type 0} (f : A → Option B) (xs : List A) (i : ℕ) → length xs ≤ i → NothingBefore f xs i → first_given f xs ≡ None
nothing_at_all f xs i past nothing = nothing.rest ∙ ap (λ ys. first_given f ys) (drop_all i xs past)
