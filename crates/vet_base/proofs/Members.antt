-- Elements of lists: `In` beside the kit's `Contains` and `All`, and elements of lists that are made from others.
use Rattle.std.proofs.Common.{◌≡◌, ◌↔◌, ◌⊎◌, ℕ, zero, suc, ◌<◌, Bool, true, false, cond, List, [], ◌∷◌, ◌++◌, map, length, get_or, Option, Some, None, slice_get, All, Contains, find, filter, flat_map, filter_map, refl, sym, ap, subst, ◌∙◌, inl, inr, arith}
use Rattle.std.specs.List.{list_any, list_all, cons_option, AllByRecursion}
use Rattle.std.proofs.lemmas.Bool.{and_parts, or_cases, or_left, or_right}
use Rattle.std.proofs.lemmas.List.Elements.{All-contains}
use Rattle.std.proofs.lemmas.Option.{none-some, same_Some}
use Rattle.vet_base.specs.Members.{In}

module _ {A : Type 0} where
  in_at_place : (xs : List A) (k : ℕ) (x d : A) → k < length xs → get_or xs k d ≡ x → In x xs
  in_at_place [] k x d below is = absurd (omega arith)
  in_at_place (y ∷ xs) zero x d below is = inl (sym is)
  in_at_place (y ∷ xs) (suc k) x d below is = inr (in_at_place xs k x d (omega arith) is)

  place_of : (x : A) (xs : List A) → In x xs → Contains xs x
  place_of x [] is_in = absurd is_in
  place_of x (y ∷ xs) (inl same) = (0, omega arith, sym same)
  place_of x (y ∷ xs) (inr later) = let rest = place_of x xs later in (suc rest.0, omega (arith, rest.1), rest.2)

  -- the kit's `Contains` and `In` are one
  pub in_iff_contains : (x : A) (xs : List A) → In x xs ↔ Contains xs x
  in_iff_contains x xs = (place_of x xs, λ c. in_at_place xs c.0 x x c.1 c.2)

  -- the element that a read at an index gives
  pub in_read : (xs : List A) (i : ℕ) (x : A) → i < length xs → x ≡ get_or xs i x → In x xs
  in_read xs i x below is = in_at_place xs i x x below (sym is)

  pub in_get_or : (xs : List A) (i : ℕ) (d : A) → i < length xs → In (get_or xs i d) xs
  in_get_or xs i d below = in_at_place xs i (get_or xs i d) d below refl

  pub in_slice_get : (xs : List A) (i : ℕ) (x : A) → slice_get xs i ≡ Some x → In x xs
  in_slice_get [] i x is = absurd (none-some x is)
  in_slice_get (y ∷ xs) zero x is = inl (sym (same_Some y x is))
  in_slice_get (y ∷ xs) (suc i) x is = inr (in_slice_get xs i x is)

  pub in_found : (test : A → Bool) (xs : List A) (x : A) → find test xs ≡ Some x → In x xs
  in_found test [] x is = absurd (none-some x is)
  in_found test (y ∷ xs) x is = by_test (test y) (in_found test xs x) is
    where
      by_test : (b : Bool) → (find test xs ≡ Some x → In x xs) → cond b (Some y) (find test xs) ≡ Some x → In x (y ∷ xs)
      by_test true later e = inl (sym (same_Some y x e))
      by_test false later e = inr (later e)

  pub found_passes : (test : A → Bool) (xs : List A) (x : A) → find test xs ≡ Some x → test x ≡ true
  found_passes test [] x is = absurd (none-some x is)
  found_passes test (y ∷ xs) x is = by_test (test y) refl (found_passes test xs x) is
    where
      by_test : (b : Bool) → test y ≡ b → (find test xs ≡ Some x → test x ≡ true) → cond b (Some y) (find test xs) ≡ Some x → test x ≡ true
      by_test true passes later e = ap test (sym (same_Some y x e)) ∙ passes
      by_test false fails later e = later e

  -- one list behind another
  pub in_front : (x : A) (xs ys : List A) → In x xs → In x (xs ++ ys)
  in_front x [] ys is_in = absurd is_in
  in_front x (z ∷ xs) ys (inl same) = inl same
  in_front x (z ∷ xs) ys (inr later) = inr (in_front x xs ys later)

  pub in_back : (x : A) (xs ys : List A) → In x ys → In x (xs ++ ys)
  in_back x [] ys is_in = is_in
  in_back x (z ∷ xs) ys is_in = inr (in_back x xs ys is_in)

  pub in_either : (x : A) (xs ys : List A) → In x (xs ++ ys) → In x xs ⊎ In x ys
  in_either x [] ys is_in = inr is_in
  in_either x (z ∷ xs) ys (inl same) = inl (inl same)
  in_either x (z ∷ xs) ys (inr later) = elim (in_either x xs ys later) [ inl front ↦ inl (inr front) | inr back ↦ inr back ]

  -- perhaps one element more in front
  pub in_if : (b : Bool) (x y : A) (ys : List A) → In x (cond b [] (y ∷ []) ++ ys) → (x ≡ y) ⊎ In x ys
  in_if true x y ys is_in = inr is_in
  in_if false x y ys is_in = is_in

  pub none_in : (xs : List A) → ((x : A) → In x xs → ⊥) → xs ≡ []
  none_in [] none = refl
  none_in (x ∷ xs) none = absurd (none x (inl refl))

  -- what holds of each element
  pub all_in : (P : A → Type 0) (xs : List A) (x : A) → All P xs → In x xs → P x
  all_in P xs x all is_in = All-contains P xs x all (place_of x xs is_in)

  pub all_from_in : (P : A → Type 0) (xs : List A) → ((x : A) → In x xs → P x) → All P xs
  all_from_in P xs each k d below = each (get_or xs k d) (in_get_or xs k d below)

  pub each_in : (P : A → Type 0) (xs : List A) (x : A) → AllByRecursion P xs → In x xs → P x
  each_in P [] x all is_in = absurd is_in
  each_in P (y ∷ xs) x all (inl same) = subst P (sym same) all.0
  each_in P (y ∷ xs) x all (inr later) = each_in P xs x all.1 later

  pub each_from_in : (P : A → Type 0) (xs : List A) → ((x : A) → In x xs → P x) → AllByRecursion P xs
  each_from_in P [] each = tt
  each_from_in P (x ∷ xs) each = (each x (inl refl), each_from_in P xs (λ y k. each y (inr k)))

  pub list_all_in : (test : A → Bool) (xs : List A) (x : A) → list_all test xs ≡ true → In x xs → test x ≡ true
  list_all_in test [] x all is_in = absurd is_in
  list_all_in test (y ∷ xs) x all (inl same) = ap test same ∙ (and_parts (test y) (list_all test xs) all).0
  list_all_in test (y ∷ xs) x all (inr later) = list_all_in test xs x (and_parts (test y) (list_all test xs) all).1 later

  -- some element passes
  pub passes_if : (p : A → Bool) (xs : List A) (x : A) → In x xs → p x ≡ true → list_any p xs ≡ true
  passes_if p [] x is_in passes = absurd is_in
  passes_if p (z ∷ xs) x (inl same) passes = or_left (p z) (list_any p xs) (ap p (sym same) ∙ passes)
  passes_if p (z ∷ xs) x (inr later) passes = or_right (p z) (list_any p xs) (passes_if p xs x later passes)

  pub one_passes : (p : A → Bool) (xs : List A) → list_any p xs ≡ true → (x : A) × In x xs × (p x ≡ true)
  one_passes p [] some = absurd cc
  one_passes p (z ∷ xs) some = elim (or_cases (p z) (list_any p xs) some) [ inl here ↦ (z, inl refl, here) | inr later ↦ let rest = one_passes p xs later in (rest.0, inr rest.1, rest.2) ]

  pub none_kept : (p : A → Bool) (xs : List A) → filter p xs ≡ [] → (x : A) → In x xs → p x ≡ false
  none_kept p [] none x is_in = absurd is_in
  none_kept p (y ∷ xs) none x is_in = by_test (p y) refl (λ rest later. none_kept p xs rest x later) none is_in
    where
      by_test : (b : Bool) → p y ≡ b → (filter p xs ≡ [] → In x xs → p x ≡ false) → cond b (y ∷ filter p xs) (filter p xs) ≡ [] → In x (y ∷ xs) → p x ≡ false
      by_test true e beyond none is_in = absurd cc
      by_test false e beyond none (inl same) = ap p same ∙ e
      by_test false e beyond none (inr later) = beyond none later

module _ {A B : Type 0} (f : A → B) where
  pub in_map : (ys : List A) (y : A) → In y ys → In (f y) (map f ys)
  in_map [] y is_in = absurd is_in
  in_map (z ∷ ys) y (inl same) = inl (ap f same)
  in_map (z ∷ ys) y (inr later) = inr (in_map ys y later)

  pub from_map : (xs : List A) (y : B) → In y (map f xs) → (x : A) × In x xs × (y ≡ f x)
  from_map [] y is_in = absurd is_in
  from_map (x ∷ xs) y (inl same) = (x, inl refl, same)
  from_map (x ∷ xs) y (inr later) = let rest = from_map xs y later in (rest.0, inr rest.1, rest.2)

module _ {A B : Type 0} (f : A → List B) where
  pub in_flat : (ys : List A) (y : A) (x : B) → In y ys → In x (f y) → In x (flat_map f ys)
  in_flat [] y x is_in gives = absurd is_in
  in_flat (z ∷ ys) y x (inl same) gives = in_front x (f z) (flat_map f ys) (subst (λ w. In x (f w)) same gives)
  in_flat (z ∷ ys) y x (inr later) gives = in_back x (f z) (flat_map f ys) (in_flat ys y x later gives)

  pub from_flat : (ys : List A) (x : B) → In x (flat_map f ys) → (y : A) × In y ys × In x (f y)
  from_flat [] x is_in = absurd is_in
  from_flat (z ∷ ys) x is_in = elim (in_either x (f z) (flat_map f ys) is_in) [ inl here ↦ (z, inl refl, here) | inr later ↦ let rest = from_flat ys x later in (rest.0, inr rest.1, rest.2) ]

pub flat_map_agree : {A B : Type 0} (f g : A → List B) (xs : List A) → ((x : A) → In x xs → f x ≡ g x) → flat_map f xs ≡ flat_map g xs
flat_map_agree f g [] same = refl
flat_map_agree f g (x ∷ xs) same = ap (λ ys. ys ++ flat_map f xs) (same x (inl refl)) ∙ ap (λ ys. g x ++ ys) (flat_map_agree f g xs (λ y k. same y (inr k)))

module _ {A B : Type 0} (f : A → Option B) where
  pub in_filter_map : (xs : List A) (x : A) (y : B) → In x xs → f x ≡ Some y → In y (filter_map f xs)
  in_filter_map [] x y is_in gives = absurd is_in
  in_filter_map (z ∷ zs) x y (inl same) gives = subst (λ o. In y (cons_option o (filter_map f zs))) (sym (ap f (sym same) ∙ gives)) (inl refl)
  in_filter_map (z ∷ zs) x y (inr later) gives = by_head (f z) (in_filter_map zs x y later gives)
    where
      by_head : (o : Option B) → In y (filter_map f zs) → In y (cons_option o (filter_map f zs))
      by_head None h = h
      by_head (Some b) h = inr h

  pub from_filter_map : (xs : List A) (y : B) → In y (filter_map f xs) → (x : A) × In x xs × (f x ≡ Some y)
  from_filter_map [] y is_in = absurd is_in
  from_filter_map (z ∷ zs) y is_in = by_head (f z) refl (from_filter_map zs y) is_in
    where
      by_head : (o : Option B) → f z ≡ o → (In y (filter_map f zs) → (x : A) × In x zs × (f x ≡ Some y)) → In y (cons_option o (filter_map f zs)) → (x : A) × In x (z ∷ zs) × (f x ≡ Some y)
      by_head None e later h = let rest = later h in (rest.0, inr rest.1, rest.2)
      by_head (Some b) e later (inl same) = (z, inl refl, e ∙ ap (λ c. Some c) (sym same))
      by_head (Some b) e later (inr h) = let rest = later h in (rest.0, inr rest.1, rest.2)
