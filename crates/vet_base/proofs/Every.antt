-- What holds of each element of a list that is made from others, and who is in a list under a condition.
use Rattle.std.proofs.Common.{◌≡◌, Bool, true, false, cond, List, [], ◌∷◌, ◌++◌, map, flat_map, filter, refl, sym, ap, subst, ◌∙◌, inl, inr}
use Rattle.std.specs.List.{AllByRecursion}
use Rattle.vet_base.specs.Members.{In}

module _ {A : Type 0} where
  pub in_where : (x : A) (b : Bool) (xs : List A) → b ≡ true → In x xs → In x (cond b xs [])
  in_where x b xs e h = subst (λ z. In x (cond z xs [])) (sym e) h

  pub in_unless : (x : A) (b : Bool) (xs : List A) → b ≡ false → In x xs → In x (cond b [] xs)
  in_unless x b xs e h = subst (λ z. In x (cond z [] xs)) (sym e) h

  module _ (P : A → Type 0) where
    pub each_append : (xs ys : List A) → AllByRecursion P xs → AllByRecursion P ys → AllByRecursion P (xs ++ ys)
    each_append [] ys e f = f
    each_append (x ∷ xs) ys e f = (e.0, each_append xs ys e.1 f)

    pub each_where : (b : Bool) (xs : List A) → (b ≡ true → AllByRecursion P xs) → AllByRecursion P (cond b xs [])
    each_where true xs h = h refl
    each_where false xs h = tt

    pub each_unless : (b : Bool) (xs : List A) → (b ≡ false → AllByRecursion P xs) → AllByRecursion P (cond b [] xs)
    each_unless true xs h = tt
    each_unless false xs h = h refl

module _ {A B : Type 0} (P : B → Type 0) where
  pub each_map : (f : A → B) (xs : List A) → ((x : A) → In x xs → P (f x)) → AllByRecursion P (map f xs)
  each_map f [] h = tt
  each_map f (x ∷ xs) h = (h x (inl refl), each_map f xs (λ y k. h y (inr k)))

  pub each_flat : (f : A → List B) (xs : List A) → ((x : A) → In x xs → AllByRecursion P (f x)) → AllByRecursion P (flat_map f xs)
  each_flat f [] h = tt
  each_flat f (x ∷ xs) h = each_append P (f x) (flat_map f xs) (h x (inl refl)) (each_flat f xs (λ y k. h y (inr k)))

-- the elements that pass a test
module _ {A : Type 0} (p : A → Bool) where
  pub in_filter : (x : A) (xs : List A) → p x ≡ true → In x xs → In x (filter p xs)
  in_filter x [] e h = absurd h
  in_filter x (z ∷ xs) e (inl same) = let t : p z ≡ true = ap p (sym same) ∙ e in rw t (inl same)
  in_filter x (z ∷ xs) e (inr h) = elim (p z) as (λ b. In x (cond b (z ∷ filter p xs) (filter p xs))) [ true ↦ inr (in_filter x xs e h) | false ↦ in_filter x xs e h ]

  pub from_filter : (x : A) (xs : List A) → In x (filter p xs) → (p x ≡ true) × In x xs
  from_filter x [] h = absurd h
  from_filter x (z ∷ xs) h = by_test (p z) refl (from_filter x xs) h
    where
      by_test : (b : Bool) → p z ≡ b → (In x (filter p xs) → (p x ≡ true) × In x xs) → In x (cond b (z ∷ filter p xs) (filter p xs)) → (p x ≡ true) × In x (z ∷ xs)
      by_test true e later (inl same) = (ap p same ∙ e, inl same)
      by_test true e later (inr i) = let r = later i in (r.0, inr r.1)
      by_test false e later i = let r = later i in (r.0, inr r.1)

  pub filter_none : (xs : List A) → ((x : A) → In x xs → p x ≡ false) → filter p xs ≡ []
  filter_none [] h = refl
  filter_none (x ∷ xs) h = let e = h x (inl refl) in rw e (filter_none xs (λ y i. h y (inr i)))
