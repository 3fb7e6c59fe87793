-- The labels of a joined result, position by position.
use Rattle.std.proofs.Common.{◌≡◌, ◌==◌, ◌⊎◌, inl, inr, ℕ, zero, suc, ◌+◌, ◌<◌, ◌≤◌, Bool, true, false, List, [], ◌∷◌, ◌++◌, length, flat_map, Option, Some, None, refl, sym, ap, ◌∙◌, subst, arith, eqb-true, eq-eqb, ltb-true, ltb-false}
use Rattle.std.specs.Prelude.{◌↔◌, option_to_list, nat_lt}
use Rattle.std.proofs.lemmas.Option.{none-some, same_Some}
use Rattle.vet_base.specs.Members.{In}
use Rattle.vet_base.proofs.Members.{in_front, in_back, in_either, in_flat, from_flat, passes_if, one_passes}
use Rattle.app_machine.specs.declared.summary.Gives.{Gives}
use Rattle.app_machine.specs.declared.summary.Gives.TheVariants as gives
use Rattle.app_machine.specs.Heap.{Value, Object, blank}
use Rattle.app_machine.specs.State.{value_or_blank}
use Rattle.app_parts.specs.Views.{joined_from}
use Rattle.played_machine.specs.Reading.{labels_behind, reached}
use Rattle.played_machine.proofs.Ordered.{false_true, from_ascending}
use Rattle.runner_library.specs.Over.{joined_by}
use Rattle.runner_state.specs.declared.labels.Labels.{Labels}
use Rattle.runner_state.specs.Shown.{labels_of}
use Rattle.runner_state.proofs.Marks.{labels_ascend}

-- a blank reaches nothing
nothing_behind : (n : ℕ) (heap : List Object) → labels_behind n heap None ≡ []
nothing_behind zero heap = refl
nothing_behind (suc n) heap = refl

blank_reaches : (heap : List Object) (l : ℕ) → In l (reached heap blank) → ⊥
unfolding reached
blank_reaches heap l h = subst (In l) (nothing_behind (length heap) heap) (from_ascending (labels_behind (length heap) heap None) l h)

blank_past : (vs : List Value) (i : ℕ) → length vs ≤ i → value_or_blank vs i ≡ blank
blank_past [] i past = refl
blank_past (v ∷ vs) zero past = absurd (omega (arith, past))
blank_past (v ∷ vs) (suc i) past = blank_past vs i (omega (arith, past))

module _ (heap : List Object) (vs : List Value) (result : Gives) (source : Option ℕ) where
  -- the label is the row's, or is reached from a position below i that joins
  abbrev pub IsFrom : ℕ → ℕ → Type 0
  IsFrom i l = (source ≡ Some l) ⊎ ((j : ℕ) × (j < i) × (joined_from result j ≡ true) × In l (reached heap (value_or_blank vs j)))

  abbrev pub HasFrom : Labels → ℕ → Type 0
  HasFrom labels i = (l : ℕ) → In l (labels_of labels) ↔ IsFrom i l

  pub from_source : (labels : Labels) → ((l : ℕ) → In l (labels_of labels) ↔ (source ≡ Some l)) → HasFrom labels 0
  from_source labels has l = (λ h. inl ((has l).0 h), back)
    where
      back : IsFrom 0 l → In l (labels_of labels)
      back (inl own) = (has l).1 own
      back (inr at) = absurd (omega (arith, at.1))

  pub from_more : (old new : Labels) (i : ℕ) (joins : Bool) (v : Value) → joins ≡ joined_from result i → v ≡ value_or_blank vs i →
      ((l : ℕ) → In l (labels_of new) ↔ (In l (labels_of old) ⊎ ((joins ≡ true) × In l (reached heap v)))) → HasFrom old i → HasFrom new (i + 1)
  from_more old new i joins v is same joined has l = (λ h. to ((joined l).0 h), back)
    where
      further : IsFrom i l → IsFrom (i + 1) l
      further (inl own) = inl own
      further (inr at) = inr (at.0, omega (arith, at.1), at.2, at.3)

      to : In l (labels_of old) ⊎ ((joins ≡ true) × In l (reached heap v)) → IsFrom (i + 1) l
      to (inl before) = further ((has l).0 before)
      to (inr now) = inr (i, omega arith, sym is ∙ now.0, subst (λ w. In l (reached heap w)) same now.1)

      here : (j : ℕ) → (j == i) ≡ true → (joined_from result j ≡ true) → In l (reached heap (value_or_blank vs j)) → In l (labels_of new)
      here j e joins_there reaches =
          let at : j ≡ i = eqb-true j i e in
          (joined l).1 (inr (is ∙ (ap (joined_from result) (sym at) ∙ joins_there), subst (λ w. In l (reached heap w)) (ap (value_or_blank vs) at ∙ sym same) reaches))

      by_index : (j : ℕ) → j < i + 1 → joined_from result j ≡ true → In l (reached heap (value_or_blank vs j)) → (b : Bool) → (j == i) ≡ b → In l (labels_of new)
      by_index j below joins_there reaches true e = here j e joins_there reaches
      by_index j below joins_there reaches false e =
          let other : j ≡ i → ⊥ = λ at. false_true (sym e ∙ eq-eqb j i at) in
          (joined l).1 (inl ((has l).1 (inr (j, omega (arith, below, other), joins_there, reaches))))

      back : IsFrom (i + 1) l → In l (labels_of new)
      back (inl own) = (joined l).1 (inl ((has l).1 (inl own)))
      back (inr at) = by_index at.0 at.1 at.2 at.3 (at.0 == i) refl

  pub from_all : (labels : Labels) (from : List ℕ) (i : ℕ) → result ≡ gives.Joined from → length vs ≤ i → HasFrom labels i → labels_of labels ≡ joined_by heap vs from source
  unfolding joined_by
  from_all labels from i is past has = labels_ascend labels (option_to_list source ++ flat_map (λ j. reached heap (value_or_blank vs j)) from) (λ l h. to l ((has l).0 h)) (λ l h. (has l).1 (back l (in_either l (option_to_list source) (flat_map (λ j. reached heap (value_or_blank vs j)) from) h)))
    where
      own_in : (l : ℕ) (o : Option ℕ) → o ≡ Some l → In l (option_to_list o)
      own_in l None e = absurd (none-some l e)
      own_in l (Some k) e = inl (sym (same_Some k l e))

      own_out : (l : ℕ) (o : Option ℕ) → In l (option_to_list o) → o ≡ Some l
      own_out l None h = absurd h
      own_out l (Some k) (inl e) = ap (λ z. Some z) (sym e)
      own_out l (Some k) (inr none) = absurd none

      among : (j : ℕ) → joined_from result j ≡ true → In j from
      among j joins =
          let at = one_passes (λ d. j == d) from (sym (ap (λ g. joined_from g j) is) ∙ joins) in
          subst (λ k. In k from) (sym (eqb-true j at.0 at.2)) at.1

      to : (l : ℕ) → IsFrom i l → In l (option_to_list source ++ flat_map (λ j. reached heap (value_or_blank vs j)) from)
      to l (inl own) = in_front l (option_to_list source) (flat_map (λ j. reached heap (value_or_blank vs j)) from) (own_in l source own)
      to l (inr at) = in_back l (option_to_list source) (flat_map (λ j. reached heap (value_or_blank vs j)) from) (in_flat (λ j. reached heap (value_or_blank vs j)) from at.0 l (among at.0 at.2) at.3)

      by_length : (l j : ℕ) → In j from → In l (reached heap (value_or_blank vs j)) → (b : Bool) → nat_lt j i ≡ b → IsFrom i l
      by_length l j is_in reaches true e = inr (j, ltb-true j i e, ap (λ g. joined_from g j) is ∙ passes_if (λ d. j == d) from j is_in (eq-eqb j j refl), reaches)
      by_length l j is_in reaches false e = absurd (blank_reaches heap l (subst (λ w. In l (reached heap w)) (blank_past vs j (let far : i ≤ j = ltb-false j i e in omega (arith, past, far))) reaches))

      back : (l : ℕ) → In l (option_to_list source) ⊎ In l (flat_map (λ j. reached heap (value_or_blank vs j)) from) → IsFrom i l
      back l (inl own) = inl (own_out l source own)
      back l (inr h) = let at = from_flat (λ j. reached heap (value_or_blank vs j)) from l h in by_length l at.0 at.1 at.2 (nat_lt at.0 i) refl

-- the label of the row
pub one_source : (labels : Labels) (category l : ℕ) (source : Option ℕ) → Some category ≡ source → In l (labels_of labels) ↔ (l ≡ category) → In l (labels_of labels) ↔ (source ≡ Some l)
one_source labels category l source is has = (λ h. sym is ∙ ap (λ k. Some k) (sym (has.0 h)), λ e. has.1 (sym (same_Some category l (is ∙ e))))

pub no_source : (labels : Labels) (l : ℕ) (source : Option ℕ) → None ≡ source → labels_of labels ≡ [] → In l (labels_of labels) ↔ (source ≡ Some l)
no_source labels l source is none = (λ h. absurd (subst (In l) none h), λ e. absurd (none-some l (is ∙ e)))

-- with all that a value reaches, where it joins
module _ (heap : List Object) (v : Value) (labels : Labels) where
  pub joins_none : (l : ℕ) (joins : Bool) → joins ≡ false → In l (labels_of labels) ↔ (In l (labels_of labels) ⊎ ((joins ≡ true) × In l (reached heap v)))
  joins_none l joins fails = (λ h. inl h, λ h. elim h [ inl own ↦ own | inr more ↦ absurd (false_true (sym fails ∙ more.0)) ])

  pub joins_reached : (more all : Labels) (l : ℕ) (joins : Bool) → joins ≡ true → labels_of more ≡ reached heap v → In l (labels_of all) ↔ (In l (labels_of labels) ⊎ In l (labels_of more)) →
      In l (labels_of all) ↔ (In l (labels_of labels) ⊎ ((joins ≡ true) × In l (reached heap v)))
  joins_reached more all l joins holds reaches has = (
    λ h. elim (has.0 h) [ inl own ↦ inl own | inr new ↦ inr (holds, subst (In l) reaches new) ],
    λ h. elim h [ inl own ↦ has.1 (inl own) | inr new ↦ has.1 (inr (subst (In l) (sym reaches) new.1)) ],
  )
