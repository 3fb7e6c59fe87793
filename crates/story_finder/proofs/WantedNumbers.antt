-- Numbers that are wanted.
use Rattle.std.proofs.Common.{◌≡◌, ◌↔◌, ◌⊎◌, ℕ, ◌<◌, true, false, true≢false, List, [], ◌∷◌, ◌++◌, length, All, Option, Some, None, is_some, IfSome, MatchOption, refl, sym, subst, ◌∙◌, inl, inr, arith}
use Rattle.std.specs.BTreeSet.{insert_key}
use Rattle.std.specs.Ordering.{match_ordering, nat_cmp}
use Rattle.std.specs.declared.cmp.Ordering.{Ordering}
use Rattle.std.specs.declared.cmp.Ordering.TheVariants.{Less, Equal, Greater}
use Rattle.std.proofs.lemmas.Map.Lookups.{exact_unsigned}
use Rattle.vet_base.specs.Members.{In}
use Rattle.vet_base.proofs.Members.{all_in, in_either, in_front, in_back}
use Rattle.story_finder.specs.Cutting.{HasMore, IsGreatest}
use Rattle.story_finder.proofs.Orders.{below_of}

-- a number that is put among others
put_there : (n : ℕ) (old : List ℕ) (x : ℕ) → In x (insert_key nat_cmp old n) → In x (n ∷ []) ⊎ In x old
put_there n [] x i = inl i
put_there n (y ∷ ys) x i = by_order (nat_cmp n y) i (put_there n ys x)
  where
    by_order : (o : Ordering) → In x (match_ordering o (n ∷ y ∷ ys) (y ∷ ys) (y ∷ insert_key nat_cmp ys n)) → (In x (insert_key nat_cmp ys n) → In x (n ∷ []) ⊎ In x ys) → In x (n ∷ []) ⊎ In x (y ∷ ys)
    by_order Less (inl same) later = inl (inl same)
    by_order Less (inr k) later = inr k
    by_order Equal k later = inr k
    by_order Greater (inl same) later = inr (inl same)
    by_order Greater (inr deep) later = elim (later deep) [ inl new ↦ inl new | inr k ↦ inr (inr k) ]

there_put : (n : ℕ) (old : List ℕ) (x : ℕ) → In x (n ∷ []) ⊎ In x old → In x (insert_key nat_cmp old n)
there_put n [] x (inl new) = new
there_put n [] x (inr none) = absurd none
there_put n (y ∷ ys) x i = by_order (nat_cmp n y) (exact_unsigned n y) (there_put n ys x) i
  where
    by_order : (o : Ordering) → (o ≡ Equal → n ≡ y) → (In x (n ∷ []) ⊎ In x ys → In x (insert_key nat_cmp ys n)) → In x (n ∷ []) ⊎ In x (y ∷ ys) → In x (match_ordering o (n ∷ y ∷ ys) (y ∷ ys) (y ∷ insert_key nat_cmp ys n))
    by_order Less tie later (inl (inl same)) = inl same
    by_order Less tie later (inl (inr none)) = absurd none
    by_order Less tie later (inr k) = inr k
    by_order Equal tie later (inl (inl same)) = inl (same ∙ tie refl)
    by_order Equal tie later (inl (inr none)) = absurd none
    by_order Equal tie later (inr k) = k
    by_order Greater tie later (inl new) = inr (later (inl new))
    by_order Greater tie later (inr (inl same)) = inl same
    by_order Greater tie later (inr (inr deep)) = inr (later (inr deep))

pub one_more : (n : ℕ) (old new : List ℕ) → new ≡ insert_key nat_cmp old n → HasMore (n ∷ []) old new
one_more n old new is = record { each = λ x. (λ i. put_there n old x (subst (λ z. In x z) is i), λ i. subst (λ z. In x z) (sym is) (there_put n old x i)) }

pub none_more : (old : List ℕ) → HasMore [] old old
none_more old = record { each = λ x. (λ i. inr i, λ i. elim i [ inl none ↦ absurd none | inr there ↦ there ]) }

pub more_on : (xs ys old mid new : List ℕ) → HasMore xs old mid → HasMore ys mid new → HasMore (xs ++ ys) old new
more_on xs ys old mid new f g = record {
  each = λ x. (
    λ i. elim ((g.each x).0 i) [
      | inl later ↦ inl (in_back x xs ys later)
      | inr before ↦ elim ((f.each x).0 before) [ inl first ↦ inl (in_front x xs ys first) | inr there ↦ inr there ]
    ],
    λ i. elim i [
      | inl new ↦ elim (in_either x xs ys new) [ inl first ↦ (g.each x).1 (inr ((f.each x).1 (inl first))) | inr later ↦ (g.each x).1 (inl later) ]
      | inr there ↦ (g.each x).1 (inr ((f.each x).1 (inr there)))
    ],
  );
}

-- what is taken from the end of a set
pub greatest_is : (o : Option ℕ) (old new : List ℕ) → (is_some o ≡ true) ↔ (0 < length old) → IfSome o (λ n. old ≡ new ++ n ∷ []) → IfSome o (λ n. All (λ m. nat_cmp m n ≡ Less) new) →
    MatchOption o (old ≡ []) (IsGreatest old new)
greatest_is None [] new some is below = refl
greatest_is None (x ∷ old) new some is below = let no : false ≡ true = some.1 (omega arith) in absurd (true≢false (sym no))
greatest_is (Some n) old new some is below = record { is = is; below = λ m i. below_of m n (all_in (λ m. nat_cmp m n ≡ Less) new m below i) }

pub more_from : (xs old new : List ℕ) → old ≡ [] → HasMore xs old new → HasMore xs [] new
more_from xs old new none m = subst (λ z. HasMore xs z new) none m
