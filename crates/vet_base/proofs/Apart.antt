-- Lists in which no element stands twice are no longer than a list that has all their elements.
use Rattle.std.proofs.Common.{◌≡◌, suc, ◌≤◌, List, [], ◌∷◌, length, refl, sym, ◌∙◌, ap, subst, inl, inr, arith}
use Rattle.vet_base.specs.Apart.{Apart}
use Rattle.vet_base.specs.Members.{In}

module _ {A : Type 0} where
  -- the list without an element that it has
  without : (x : A) (ys : List A) → In x ys → List A
  without x [] is_in = []
  without x (y ∷ ys) (inl same) = ys
  without x (y ∷ ys) (inr later) = y ∷ without x ys later

  one_fewer : (x : A) (ys : List A) (is_in : In x ys) → length ys ≡ suc (length (without x ys is_in))
  unfolding without
  one_fewer x [] is_in = absurd is_in
  one_fewer x (y ∷ ys) (inl same) = refl
  one_fewer x (y ∷ ys) (inr later) = ap suc (one_fewer x ys later)

  still_in : (x z : A) (ys : List A) (is_in : In x ys) → In z ys → (z ≡ x → ⊥) → In z (without x ys is_in)
  unfolding without
  still_in x z [] is_in at differs = absurd at
  still_in x z (y ∷ ys) (inl same) (inl here) differs = absurd (differs (here ∙ sym same))
  still_in x z (y ∷ ys) (inl same) (inr there) differs = there
  still_in x z (y ∷ ys) (inr later) (inl here) differs = inl here
  still_in x z (y ∷ ys) (inr later) (inr there) differs = inr (still_in x z ys later there differs)

  -- elements of a list, each once, are no more than it has
  pub no_more : (xs ys : List A) → Apart xs → ((x : A) → In x xs → In x ys) → length xs ≤ length ys
  no_more [] ys apart within = omega arith
  no_more (x ∷ xs) ys apart within =
      let here : In x ys = within x (inl refl) in
      let fewer : length ys ≡ suc (length (without x ys here)) = one_fewer x ys here in
      let rest : length xs ≤ length (without x ys here) = no_more xs (without x ys here) apart.1 (λ z at. still_in x z ys here (within z (inr at)) (λ same. apart.0 (subst (λ w. In w xs) same at))) in
      omega arith
