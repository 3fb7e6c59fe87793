-- The last item of a list, changed where it was taken out.
use Rattle.std.proofs.Common.{◌≡◌, List, [], ◌∷◌, ◌++◌, refl, sym, ap, subst}
use Rattle.case_rules.specs.Cases.{change_last}

module _ {A : Type 0} (f : A → A) where
  change_last-push : (xs : List A) (x : A) → change_last f (xs ++ x ∷ []) ≡ xs ++ f x ∷ []
  change_last-push [] x = refl
  change_last-push (y ∷ []) x = refl
  change_last-push (y ∷ z ∷ xs) x = ap (λ (zs : List A). y ∷ zs) (change_last-push (z ∷ xs) x)

  pub changed_at_end : (xs ys : List A) (x : A) → ys ≡ xs ++ x ∷ [] → xs ++ f x ∷ [] ≡ change_last f ys
  changed_at_end xs ys x is = subst (λ (zs : List A). xs ++ f x ∷ [] ≡ change_last f zs) (sym is)
      (sym (change_last-push xs x))
