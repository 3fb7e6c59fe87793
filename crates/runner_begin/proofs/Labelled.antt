-- The labels of a position, source by source.
use Rattle.std.proofs.Common.{◌≡◌, ◌⊎◌, inl, inr, ℕ, ◌+◌, ◌<◌, ◌≤◌, Bool, true, false, cond, List, [], ◌∷◌, ◌++◌, take, length, get_or, Option, Some, None, refl, sym, subst, arith}
use Rattle.std.specs.Prelude.{◌↔◌, ◌==◌, option_to_list}
use Rattle.std.proofs.lemmas.Bool.{cases_eq}
use Rattle.std.proofs.lemmas.List.{take_all}
use Rattle.vet_base.specs.Members.{In}
use Rattle.vet_base.proofs.Members.{in_back, in_either, in_front}
use Rattle.app_machine.specs.Events.{labels_at}
use Rattle.played_machine.specs.Ordered.{ascending}
use Rattle.runner_choices.proofs.Lists.{filter_map_next}
use Rattle.runner_state.specs.declared.labels.Labels.{Labels}
use Rattle.runner_state.specs.Shown.{labels_of}
use Rattle.runner_state.proofs.Marks.{label_of, labels_ascend}

-- a label more, or none
module _ (labels new : Labels) (category : ℕ) (b : Bool) where
  pub with_label : (one : Labels) → b ≡ true → ((l : ℕ) → In l (labels_of new) ↔ (In l (labels_of labels) ⊎ In l (labels_of one))) → ((l : ℕ) → In l (labels_of one) ↔ (l ≡ category)) →
      (l : ℕ) → In l (labels_of new) ↔ (In l (labels_of labels) ⊎ In l (option_to_list (cond b (Some category) None)))
  with_label one is joined single l =
      subst (λ t. In l (labels_of new) ↔ (In l (labels_of labels) ⊎ In l (option_to_list (cond t (Some category) None)))) (sym is) (
        λ h. elim ((joined l).0 h) [ inl before ↦ inl before | inr last ↦ inr (inl ((single l).0 last)) ],
        λ h. (joined l).1 (elim h [ inl before ↦ inl before | inr last ↦ inr ((single l).1 (elim last [ inl same ↦ same | inr none ↦ absurd none ])) ]),
      )

  pub without_label : b ≡ false → (l : ℕ) → In l (labels_of labels) ↔ (In l (labels_of labels) ⊎ In l (option_to_list (cond b (Some category) None)))
  without_label is l =
      subst (λ t. In l (labels_of labels) ↔ (In l (labels_of labels) ⊎ In l (option_to_list (cond t (Some category) None)))) (sym is)
      (λ h. inl h, λ h. elim h [ inl before ↦ before | inr none ↦ absurd none ])

-- the labels of the first so many sources
pub record HasLabels (sources : List (ℕ × ℕ)) (position : ℕ) (labels : Labels) (i : ℕ) : Type 0 where
  pub has : (l : ℕ) → In l (labels_of labels) ↔ In l (labels_at (take i sources) position)

module _ (sources : List (ℕ × ℕ)) (position : ℕ) where
  abbrev of : ℕ × ℕ → Option ℕ
  of s = cond (s.0 == position) (Some s.1) None

  pub no_labels : (labels : Labels) → labels_of labels ≡ [] → HasLabels sources position labels 0
  no_labels labels none = record { has = λ l. (λ h. subst (In l) none h, λ h. absurd h) }

  pub one_label : (labels new : Labels) (i : ℕ) (d : ℕ × ℕ) → i < length sources → ((l : ℕ) → In l (labels_of new) ↔ (In l (labels_of labels) ⊎ In l (option_to_list (of (get_or sources i d))))) → HasLabels sources position labels i → HasLabels sources position new (i + 1)
  one_label labels new i d within adds so_far =
      let next : labels_at (take (i + 1) sources) position ≡ labels_at (take i sources) position ++ option_to_list (of (get_or sources i d)) = filter_map_next of sources i d within in
      record {
        has = λ l. (
          λ h. subst (In l) (sym next) (elim ((adds l).0 h) [ inl before ↦ in_front l (labels_at (take i sources) position) (option_to_list (of (get_or sources i d))) ((so_far.has l).0 before) | inr last ↦ in_back l (labels_at (take i sources) position) (option_to_list (of (get_or sources i d))) last ]),
          λ h. (adds l).1 (elim (in_either l (labels_at (take i sources) position) (option_to_list (of (get_or sources i d))) (subst (In l) next h)) [ inl before ↦ inl ((so_far.has l).1 before) | inr last ↦ inr last ]),
        );
      }

  pub all_labels : (labels : Labels) (i : ℕ) → length sources ≤ i → HasLabels sources position labels i → labels_of labels ≡ ascending (labels_at sources position)
  all_labels labels i past so_far =
      let all = take_all i sources past in
      labels_ascend labels (labels_at sources position) (λ l h. subst (λ xs. In l (labels_at xs position)) all ((so_far.has l).0 h)) (λ l h. (so_far.has l).1 (subst (λ xs. In l (labels_at xs position)) (sym all) h))

-- none of the first so many categories is there
pub record NoneBelow (labels : Labels) (i : ℕ) : Type 0 where
  pub none : (l : ℕ) → l < i → In l (labels_of labels) → ⊥

module _ (labels : Labels) where
  pub none_yet : NoneBelow labels 0
  none_yet = record { none = λ l below. absurd (omega (arith, below)) }

  pub none_more : (i : ℕ) → (In i (labels_of labels) → ⊥) → NoneBelow labels i → NoneBelow labels (i + 1)
  none_more i other so_far = record { none = λ l below. by_place l (cases_eq l i) below }
    where
      by_place : (l : ℕ) → (l ≡ i) ⊎ (l ≡ i → ⊥) → l < i + 1 → In l (labels_of labels) → ⊥
      by_place l (inl same) below h = other (subst (λ k. In k (labels_of labels)) same h)
      by_place l (inr apart) below h = so_far.none l (omega (arith, below, apart)) h

  pub none_at_all : (i : ℕ) → 256 ≤ i → NoneBelow labels i → labels_of labels ≡ []
  none_at_all i past so_far = by_list (labels_of labels) (λ l h. h)
    where
      by_list : (xs : List ℕ) → ((l : ℕ) → In l xs → In l (labels_of labels)) → xs ≡ []
      by_list [] all = refl
      by_list (x ∷ xs) all =
          let h = all x (inl refl) in
          let few = (label_of labels x h).0 in
          absurd (so_far.none x (omega (arith, few, past)) h)

  pub one_there : (l : ℕ) → In l (labels_of labels) → labels_of labels ≡ [] → ⊥
  one_there l h none = subst (In l) none h
