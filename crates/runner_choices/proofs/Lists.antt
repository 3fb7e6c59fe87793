-- Lists of what may come, one after the other.
use Rattle.std.proofs.Common.{◌≡◌, ℕ, zero, suc, ◌+◌, ◌<◌, ◌≤◌, List, [], ◌∷◌, ◌++◌, map, take, length, get_or, filter_map, Option, Some, None, option_map, slice_get, refl, sym, ap, ◌∙◌, arith, append_assoc}
use Rattle.std.specs.Prelude.{option_to_list}
use Rattle.std.specs.List.{cons_option}
use Rattle.std.proofs.lemmas.List.{map_push, take_all, take_more}
use Rattle.std.proofs.lemmas.List.Elements.{filter_map-append}
use Rattle.app_machine.specs.Summaries.{numbers_from}

module _ {A B C : Type 0} where
  pub filter_map-map : (g : B → Option C) (f : A → B) (xs : List A) → filter_map g (map f xs) ≡ filter_map (λ x. g (f x)) xs
  filter_map-map g f [] = refl
  filter_map-map g f (x ∷ xs) = ap (cons_option (g (f x))) (filter_map-map g f xs)

  pub map-filter_map : (g : B → C) (f : A → Option B) (xs : List A) → map g (filter_map f xs) ≡ filter_map (λ x. option_map g (f x)) xs
  map-filter_map g f [] = refl
  map-filter_map g f (x ∷ xs) = by_head (f x) (map-filter_map g f xs)
    where
      by_head : (o : Option B) → map g (filter_map f xs) ≡ filter_map (λ x. option_map g (f x)) xs → map g (cons_option o (filter_map f xs)) ≡ cons_option (option_map g o) (filter_map (λ x. option_map g (f x)) xs)
      by_head None later = later
      by_head (Some y) later = ap (λ ys. g y ∷ ys) later

  pub map-map : (g : B → C) (f : A → B) (xs : List A) → map g (map f xs) ≡ map (λ x. g (f x)) xs
  map-map g f [] = refl
  map-map g f (x ∷ xs) = ap (λ ys. g (f x) ∷ ys) (map-map g f xs)

one_option : {C : Type 0} (o : Option C) → cons_option o [] ≡ option_to_list o
one_option None = refl
one_option (Some y) = refl

module _ {A C : Type 0} where
  pub filter_map_agree : (f g : A → Option C) → ((x : A) → f x ≡ g x) → (xs : List A) → filter_map f xs ≡ filter_map g xs
  filter_map_agree f g alike [] = refl
  filter_map_agree f g alike (x ∷ xs) = ap (λ o. cons_option o (filter_map f xs)) (alike x) ∙ ap (cons_option (g x)) (filter_map_agree f g alike xs)

  pub filter_map_push : (g : A → Option C) (xs : List A) (x : A) → filter_map g (xs ++ x ∷ []) ≡ filter_map g xs ++ option_to_list (g x)
  filter_map_push g xs x = filter_map-append g xs (x ∷ []) ∙ ap (λ ys. filter_map g xs ++ ys) (one_option (g x))

  pub filter_map_next : (g : A → Option C) (xs : List A) (i : ℕ) (d : A) → i < length xs → filter_map g (take (i + 1) xs) ≡ filter_map g (take i xs) ++ option_to_list (g (get_or xs i d))
  filter_map_next g xs i d within = ap (filter_map g) (take_more xs i d within) ∙ filter_map_push g (take i xs) (get_or xs i d)

-- numbers in a row
pub numbers_end : (s n : ℕ) → numbers_from s (suc n) ≡ numbers_from s n ++ (s + n) ∷ []
numbers_end s zero = let same : s ≡ s + 0 = omega arith in ap (λ k. k ∷ []) same
numbers_end s (suc n) = let same : s + 1 + n ≡ s + suc n = omega arith in ap (λ ks. s ∷ ks) (numbers_end (s + 1) n ∙ ap (λ k. numbers_from (s + 1) n ++ k ∷ []) same)

pub numbers_next : (n : ℕ) → numbers_from 0 (n + 1) ≡ numbers_from 0 n ++ n ∷ []
numbers_next n =
    let next : n + 1 ≡ suc n = omega arith in
    let last : 0 + n ≡ n = omega arith in
    ap (numbers_from 0) next ∙ (numbers_end 0 n ∙ ap (λ k. numbers_from 0 n ++ k ∷ []) last)

module _ {C : Type 0} where
  numbers_up : (s n : ℕ) (g : ℕ → Option C) → filter_map g (numbers_from (suc s) n) ≡ filter_map (λ e. g (suc e)) (numbers_from s n)
  numbers_up s zero g = refl
  numbers_up s (suc n) g =
      let same : suc s + 1 ≡ suc (s + 1) = omega arith in
      ap (λ k. cons_option (g (suc s)) (filter_map g (numbers_from k n))) same ∙ ap (cons_option (g (suc s))) (numbers_up (s + 1) n g)

  pub by_index : {A : Type 0} (f : Option A → Option C) (xs : List A) → filter_map (λ e. f (slice_get xs e)) (numbers_from 0 (length xs)) ≡ filter_map (λ x. f (Some x)) xs
  by_index f [] = refl
  by_index f (x ∷ xs) = ap (cons_option (f (Some x))) (numbers_up 0 (length xs) (λ e. f (slice_get (x ∷ xs) e)) ∙ by_index f xs)

  pub number_more : (g : ℕ → Option C) (old ys new : List C) (n : ℕ) → new ≡ ys ++ option_to_list (g n) → ys ≡ old ++ filter_map g (numbers_from 0 n) → new ≡ old ++ filter_map g (numbers_from 0 (n + 1))
  number_more g old ys new n more so_far =
      more ∙ (ap (λ zs. zs ++ option_to_list (g n)) so_far
      ∙ (append_assoc old (filter_map g (numbers_from 0 n)) (option_to_list (g n))
      ∙ ap (λ zs. old ++ zs) (sym (ap (filter_map g) (numbers_next n) ∙ filter_map_push g (numbers_from 0 n) n))))

  pub numbers_all : (g : ℕ → Option C) (old ys : List C) (n k : ℕ) → n ≡ k → ys ≡ old ++ filter_map g (numbers_from 0 n) → ys ≡ old ++ filter_map g (numbers_from 0 k)
  numbers_all g old ys n k same so_far = so_far ∙ ap (λ m. old ++ filter_map g (numbers_from 0 m)) same

-- a list that grows by one for each item, or by what the item gives
module _ {A B : Type 0} (g : B → A) (xs : List B) where
  pub one_more : (ys new : List A) (i : ℕ) (d : B) (y : A) → i < length xs → y ≡ g (get_or xs i d) → new ≡ ys ++ y ∷ [] → ys ≡ map g (take i xs) → new ≡ map g (take (i + 1) xs)
  one_more ys new i d y within is more so_far =
      more ∙ (ap (λ zs. zs ++ y ∷ []) so_far ∙ (ap (λ z. map g (take i xs) ++ z ∷ []) is ∙ sym (ap (map g) (take_more xs i d within) ∙ map_push g (take i xs) (get_or xs i d))))

  pub all_there : (ys : List A) (i : ℕ) → length xs ≤ i → ys ≡ map g (take i xs) → ys ≡ map g xs
  all_there ys i past so_far = so_far ∙ ap (map g) (take_all i xs past)

module _ {B C : Type 0} (g : B → Option C) (xs : List B) where
  pub some_more : (ys new : List C) (i : ℕ) (d : B) → i < length xs → new ≡ ys ++ option_to_list (g (get_or xs i d)) → ys ≡ filter_map g (take i xs) → new ≡ filter_map g (take (i + 1) xs)
  some_more ys new i d within more so_far = more ∙ (ap (λ zs. zs ++ option_to_list (g (get_or xs i d))) so_far ∙ sym (filter_map_next g xs i d within))

  pub all_given : (ys : List C) (i : ℕ) → length xs ≤ i → ys ≡ filter_map g (take i xs) → ys ≡ filter_map g xs
  all_given ys i past so_far = so_far ∙ ap (filter_map g) (take_all i xs past)
