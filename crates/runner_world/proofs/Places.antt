-- A place is handed once.
use Rattle.std.proofs.Common.{◌≡◌, ◌==◌, ◌⊎◌, inl, inr, ℕ, Bool, true, false, cond, List, [], ◌∷◌, ◌++◌, reverse, refl, sym, ap, ◌∙◌, subst, eqb-true, eq-eqb}
use Rattle.std.specs.BTreeSet.{BTreeSet, contains}
use Rattle.std.specs.Ordering.{is_eq, nat_cmp}
use Rattle.std.proofs.lemmas.List.{reverse-reverse}
use Rattle.vet_base.specs.Members.{In}
use Rattle.vet_base.proofs.Members.{in_front, in_back, in_either}
use Rattle.played_machine.specs.Ordered.{once}
use Rattle.played_machine.specs.Reading.{handed_places}
use Rattle.played_machine.proofs.Ordered.{false_true}
use Rattle.played_alike.proofs.Orders.{put_once, once_put, handed_next}
use Rattle.runner_heap.proofs.Under.{order_test}
use Rattle.runner_world.specs.Places.{AreEachOnce}

-- places that stand each once are those that were handed
pub each_handed : (places : List ℕ) → once places ≡ places → places ≡ handed_places (reverse places)
unfolding handed_places
each_handed places is = sym is ∙ ap once (sym (reverse-reverse places))

-- what was handed with one more
pub handed_more : (p : ℕ) (places new : List ℕ) → once places ≡ places → once new ≡ new → new ≡ put_once p places → handed_places (reverse new) ≡ handed_places (p ∷ reverse places)
handed_more p places new is still more =
    sym (each_handed new still)
    ∙ (more ∙ (ap (put_once p) (each_handed places is) ∙ sym (handed_next p (reverse places))))

-- a place that is there
pub put_there : (p : ℕ) (ys : List ℕ) → In p ys → ys ≡ put_once p ys
put_there p [] h = absurd h
put_there p (y ∷ ys) h = by_test (p == y) refl h (λ k. put_there p ys k)
  where
    by_test : (b : Bool) → (p == y) ≡ b → (p ≡ y) ⊎ In p ys → (In p ys → ys ≡ put_once p ys) → y ∷ ys ≡ cond b (y ∷ ys) (y ∷ put_once p ys)
    by_test true e h later = refl
    by_test false e (inl same) later = absurd (false_true (sym e ∙ eq-eqb p y same))
    by_test false e (inr k) later = ap (λ zs. y ∷ zs) (later k)

-- one that is not
pub put_new : (p : ℕ) (ys : List ℕ) → (In p ys → ⊥) → ys ++ p ∷ [] ≡ put_once p ys
put_new p [] none = refl
put_new p (y ∷ ys) none = by_test (p == y) refl (put_new p ys (λ h. none (inr h)))
  where
    by_test : (b : Bool) → (p == y) ≡ b → ys ++ p ∷ [] ≡ put_once p ys → y ∷ (ys ++ p ∷ []) ≡ cond b (y ∷ ys) (y ∷ put_once p ys)
    by_test true e later = absurd (none (inl (eqb-true p y e)))
    by_test false e later = ap (λ zs. y ∷ zs) later

pub once_more : (p : ℕ) (places : List ℕ) → once places ≡ places → (In p places → ⊥) → once (places ++ p ∷ []) ≡ places ++ p ∷ []
once_more p places is none = once_put places p ∙ (ap (put_once p) is ∙ sym (put_new p places none))

-- what is kept after one more is handed
module _ (places new_places : List ℕ) (there new : BTreeSet ℕ) (p : ℕ) (kept : AreEachOnce places there) (none : In p places → ⊥) (more : new_places ≡ places ++ p ∷ [])
    (updates : (q : ℕ) → contains nat_cmp new q ≡ cond (is_eq (nat_cmp p q)) true (contains nat_cmp there q)) where
  to_places : (q : ℕ) → contains nat_cmp new q ≡ true → In q (places ++ p ∷ [])
  to_places q h = by_test (is_eq (nat_cmp p q)) refl (sym (updates q) ∙ h)
    where
      by_test : (b : Bool) → is_eq (nat_cmp p q) ≡ b → cond b true (contains nat_cmp there q) ≡ true → In q (places ++ p ∷ [])
      by_test true e h = in_back q places (p ∷ []) (inl (sym (eqb-true p q (sym (order_test p q) ∙ e))))
      by_test false e h = in_front q places (p ∷ []) ((kept.same q).0 h)

  from_places : (q : ℕ) → In q (places ++ p ∷ []) → contains nat_cmp new q ≡ true
  from_places q h = updates q ∙ elim (in_either q places (p ∷ []) h) [
    | inl front ↦ either (is_eq (nat_cmp p q)) (contains nat_cmp there q) ((kept.same q).1 front)
    | inr back ↦ elim back [
      | inl same ↦ ap (λ b. cond b true (contains nat_cmp there q)) (order_test p q ∙ eq-eqb p q (sym same))
      | inr no_one ↦ absurd no_one
    ]
  ]
    where
      either : (b c : Bool) → c ≡ true → cond b true c ≡ true
      either true c e = refl
      either false c e = e

  pub each_more : AreEachOnce new_places new
  each_more = record {
    each_once = subst (λ xs. once xs ≡ xs) (sym more) (once_more p places kept.each_once none);
    same = λ q. (λ h. subst (In q) (sym more) (to_places q h), λ h. from_places q (subst (In q) more h));
  }

  pub now_handed : handed_places (reverse new_places) ≡ handed_places (p ∷ reverse places)
  now_handed = handed_more p places new_places kept.each_once (subst (λ xs. once xs ≡ xs) (sym more) (once_more p places kept.each_once none)) (more ∙ put_new p places none)

pub was_there : (p : ℕ) (places : List ℕ) → once places ≡ places → In p places → handed_places (reverse places) ≡ handed_places (p ∷ reverse places)
was_there p places is h = handed_more p places places is is (put_there p places h)
