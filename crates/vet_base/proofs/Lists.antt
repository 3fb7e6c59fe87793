-- Lists by their indexes. The kit has `length-map`, `drop_all`, `get_or_default`, `nil_from_length` in
-- `Rattle.std.proofs.lemmas.List`, `fold-append` in `.List.Sums`, `list_any-append` in `.List.Folds`.
use Rattle.std.proofs.Common.{◌≡◌, ℕ, zero, suc, ◌+◌, ◌<◌, ◌≤◌, Bool, true, ◌||◌, List, [], ◌∷◌, ◌++◌, map, length, get_or, take, drop, drop-cons, add-one, Option, Some, None, slice_get, All, filter_map, refl, sym, ap, subst, ◌∙◌, arith}
use Rattle.std.specs.List.{list_any, list_all, cons_option}
use Rattle.std.proofs.lemmas.Bool.{and_parts}
use Rattle.std.proofs.lemmas.List.{get_or-map, take_more, map_push}
use Rattle.std.proofs.lemmas.List.Elements.{All-head, All-tail}
use Rattle.std.proofs.lemmas.Option.{none-some, same_Some, slice_get_within}

-- The element that a read at an index gives.
pub drop_read : {A : Type 0} (xs : List A) (i : ℕ) (x : A) → i < length xs → x ≡ get_or xs i x → drop i xs ≡ x ∷ drop (i + 1) xs
drop_read xs i x within is = rw (drop-cons xs i x, ← is, add-one) refl

pub get_or-map_read : {A B : Type 0} (f : A → B) (xs : List A) (i : ℕ) (x : A) → i < length xs → x ≡ get_or xs i x → f x ≡ get_or (map f xs) i (f x)
get_or-map_read f xs i x within is = ap f is ∙ sym (get_or-map f xs i x (f x) within)

pub map_more_read : {A B : Type 0} (f : A → B) (xs : List A) (i : ℕ) (x : A) → i < length xs → x ≡ get_or xs i x → map f (take (i + 1) xs) ≡ map f (take i xs) ++ f x ∷ []
map_more_read f xs i x within is =
    let front : take (i + 1) xs ≡ take i xs ++ x ∷ [] = take_more xs i x within ∙ ap (λ y. take i xs ++ y ∷ []) (sym is) in
    ap (map f) front ∙ map_push f (take i xs) x

pub element_at : {A : Type 0} (xs : List A) (i : ℕ) → i < length xs → (x : A) × (x ≡ get_or xs i x)
element_at [] i within = absurd (omega arith)
element_at (x ∷ xs) zero within = (x, refl)
element_at (x ∷ xs) (suc i) within = element_at xs i (omega arith)

-- The element that `get` gives.
pub slice_get-append : {A : Type 0} (xs ys : List A) (i : ℕ) (x : A) → slice_get xs i ≡ Some x → slice_get (xs ++ ys) i ≡ Some x
slice_get-append [] ys i x is = absurd (none-some x is)
slice_get-append (y ∷ xs) ys zero x is = is
slice_get-append (y ∷ xs) ys (suc i) x is = slice_get-append xs ys i x is

pub slice_get_push : {A : Type 0} (xs : List A) (x : A) → slice_get (xs ++ x ∷ []) (length xs) ≡ Some x
slice_get_push [] x = refl
slice_get_push (y ∷ xs) x = slice_get_push xs x

pub slice_get-take : {A : Type 0} (xs : List A) (n i : ℕ) (x : A) → i < n → slice_get xs i ≡ Some x → slice_get (take n xs) i ≡ Some x
slice_get-take xs zero i x below is = absurd (omega arith)
slice_get-take [] (suc n) i x below is = absurd (none-some x is)
slice_get-take (y ∷ xs) (suc n) zero x below is = is
slice_get-take (y ∷ xs) (suc n) (suc i) x below is = slice_get-take xs n i x (omega arith) is

pub slice_get-map_at : {A B : Type 0} (f : A → B) (xs : List A) (i : ℕ) (x : A) → slice_get xs i ≡ Some x → slice_get (map f xs) i ≡ Some (f x)
slice_get-map_at f [] i x is = absurd (none-some x is)
slice_get-map_at f (y ∷ xs) zero x is = ap (λ z. Some (f z)) (same_Some y x is)
slice_get-map_at f (y ∷ xs) (suc i) x is = slice_get-map_at f xs i x is

pub slice_get-none_there : {A : Type 0} (xs : List A) (i : ℕ) (x : A) → length xs ≡ 0 → slice_get xs i ≡ Some x → ⊥
slice_get-none_there xs i x none is = let lt : i < length xs = slice_get_within xs i x is in omega (arith, none, lt)

pub All-slice_get : {A : Type 0} (P : A → Type 0) (xs : List A) (i : ℕ) (x : A) → All P xs → slice_get xs i ≡ Some x → P x
All-slice_get P [] i x all is = absurd (none-some x is)
All-slice_get P (y ∷ xs) zero x all is = subst P (same_Some y x is) (All-head P y xs all)
All-slice_get P (y ∷ xs) (suc i) x all is = All-slice_get P xs i x (All-tail P y xs all) is

pub list_all-slice_get : {A : Type 0} (test : A → Bool) (xs : List A) (i : ℕ) (x : A) → list_all test xs ≡ true → slice_get xs i ≡ Some x → test x ≡ true
list_all-slice_get test [] i x all is = absurd (none-some x is)
list_all-slice_get test (y ∷ xs) zero x all is = ap test (sym (same_Some y x is)) ∙ (and_parts (test y) (list_all test xs) all).0
list_all-slice_get test (y ∷ xs) (suc i) x all is = list_all-slice_get test xs i x (and_parts (test y) (list_all test xs) all).1 is

-- also where the index is past the end
pub list_all-get_or : {A : Type 0} (test : A → Bool) (xs : List A) (i : ℕ) (d : A) → list_all test xs ≡ true → test d ≡ true → test (get_or xs i d) ≡ true
list_all-get_or test [] i d all one = one
list_all-get_or test (x ∷ xs) zero d all one = (and_parts (test x) (list_all test xs) all).0
list_all-get_or test (x ∷ xs) (suc i) d all one = list_all-get_or test xs i d (and_parts (test x) (list_all test xs) all).1 one

-- Lists that are empty.
pub map_nil : {A B : Type 0} (f : A → B) (xs : List A) → map f xs ≡ [] → xs ≡ []
map_nil f [] none = refl
map_nil f (x ∷ xs) none = absurd cc

pub append_nil_left : {A : Type 0} (xs ys : List A) → xs ++ ys ≡ [] → xs ≡ []
append_nil_left [] ys none = refl
append_nil_left (x ∷ xs) ys none = absurd cc

-- Functions and tests that agree.
pub map_agree : {A B : Type 0} (f g : A → B) → ((x : A) → f x ≡ g x) → (xs : List A) → map f xs ≡ map g xs
map_agree f g alike [] = refl
map_agree f g alike (x ∷ xs) = ap (λ y. y ∷ map f xs) (alike x) ∙ ap (λ ys. g x ∷ ys) (map_agree f g alike xs)

pub list_any_agree : {A : Type 0} (p q : A → Bool) → ((x : A) → p x ≡ q x) → (xs : List A) → list_any p xs ≡ list_any q xs
list_any_agree p q alike [] = refl
list_any_agree p q alike (x ∷ xs) = ap (λ b. b || list_any p xs) (alike x) ∙ ap (λ b. q x || b) (list_any_agree p q alike xs)

pub list_any-map : {A B : Type 0} (f : A → B) (p : B → Bool) (xs : List A) → list_any p (map f xs) ≡ list_any (λ x. p (f x)) xs
list_any-map f p [] = refl
list_any-map f p (x ∷ xs) = ap (λ b. p (f x) || b) (list_any-map f p xs)

-- Lengths.
pub length_maps : {A B C : Type 0} (f : A → C) (g : B → C) (xs : List A) (ys : List B) → map f xs ≡ map g ys → length xs ≡ length ys
length_maps f g [] [] e = refl
length_maps f g [] (y ∷ ys) e = absurd cc
length_maps f g (x ∷ xs) [] e = absurd cc
length_maps f g (x ∷ xs) (y ∷ ys) e = ap suc (length_maps f g xs ys cc)

pub length-filter_map : {A B : Type 0} (f : A → Option B) (xs : List A) → length (filter_map f xs) ≤ length xs
length-filter_map f [] = omega arith
length-filter_map {B = B} f (x ∷ xs) = by_head (f x) (length-filter_map f xs)
  where
    by_head : (o : Option B) → length (filter_map f xs) ≤ length xs → length (cons_option o (filter_map f xs)) ≤ suc (length xs)
    by_head None le = omega (arith, le)
    by_head (Some y) le = omega (arith, le)
