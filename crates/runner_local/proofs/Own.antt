-- What is read of registers one after the other, and of a static.
use Rattle.std.proofs.Common.{◌≡◌, ◌<◌, ◌≤◌, ◌+◌, ◌⊎◌, inl, inr, ℕ, zero, suc, List, [], ◌∷◌, ◌++◌, map, length, take, get_or, flat_map, Some, refl, sym, ap, ◌∙◌, subst, arith}
use Rattle.std.specs.Prelude.{◌↔◌, option_to_list}
use Rattle.std.proofs.lemmas.List.{take_more, map-append}
use Rattle.vet_base.specs.Members.{In}
use Rattle.vet_base.proofs.Members.{in_front, in_back, in_either, in_flat, from_flat}
use Rattle.app_machine.specs.declared.app.App.{App}
use Rattle.app_machine.specs.declared.lists.Lists.{Lists}
use Rattle.app_machine.specs.Heap.{Value}
use Rattle.app_machine.specs.State.{World}
use Rattle.app_machine.specs.Summaries.{static_source}
use Rattle.played_alike.specs.Alike.{AlikeValue}
use Rattle.played_machine.specs.Local.{static_read}
use Rattle.runner_local.specs.Changed.{labels_in}
use Rattle.runner_state.specs.declared.labels.Labels.{Labels}
use Rattle.runner_state.specs.declared.value.Held.{Held}
use Rattle.runner_state.specs.Shown.{labels_of, value_of}
use Rattle.runner_state.proofs.Marks.{labels_ascend}

take_past : {A : Type 0} (xs : List A) (i : ℕ) → length xs ≤ i → take i xs ≡ xs
take_past [] zero past = refl
take_past [] (suc i) past = refl
take_past (x ∷ xs) zero past = absurd (omega (arith, past))
take_past (x ∷ xs) (suc i) past = ap (λ ys. x ∷ ys) (take_past xs i (omega (arith, past)))

-- the labels are these
abbrev pub HasLabels : Labels → List ℕ → Type 0
HasLabels labels xs = (l : ℕ) → In l (labels_of labels) ↔ In l xs

module _ (registers : ℕ → Value) where
  abbrev pub labels_until : List ℕ → List ℕ
  labels_until xs = flat_map (λ x. (registers x).labels) xs

  pub own_none : (labels : Labels) → labels_of labels ≡ [] → HasLabels labels (labels_until [])
  own_none labels none l = (λ h. subst (In l) none h, λ h. absurd h)

  pub own_more : (from : List ℕ) (i : ℕ) (old new : Labels) (held : Held) → i < length from → value_of held ≡ registers (get_or from i 0) → ((l : ℕ) → In l (labels_of new) ↔ (In l (labels_of old) ⊎ In l (labels_of held.labels))) →
      HasLabels old (labels_until (take i from)) → HasLabels new (labels_until (take (i + 1) from))
  own_more from i old new held within is joins has l = subst (λ xs. In l (labels_of new) ↔ In l (labels_until xs)) (sym (take_more from i 0 within)) (to, back)
    where
      d : ℕ
      d = get_or from i 0

      all : List ℕ
      all = take i from ++ d ∷ []

      to : In l (labels_of new) → In l (flat_map (λ x. (registers x).labels) (take i from ++ get_or from i 0 ∷ []))
      to h = elim ((joins l).0 h) [
        | inl before ↦ let at = from_flat (λ x. (registers x).labels) (take i from) l ((has l).0 before) in in_flat (λ x. (registers x).labels) (take i from ++ get_or from i 0 ∷ []) at.0 l (in_front at.0 (take i from) (get_or from i 0 ∷ []) at.1) at.2
        | inr own ↦ in_flat (λ x. (registers x).labels) (take i from ++ get_or from i 0 ∷ []) (get_or from i 0) l (in_back (get_or from i 0) (take i from) (get_or from i 0 ∷ []) (inl refl)) (subst (In l) (ap (λ (v : Value). v.labels) is) own)
      ]

      back : In l (flat_map (λ x. (registers x).labels) (take i from ++ get_or from i 0 ∷ [])) → In l (labels_of new)
      back h =
          let at = from_flat (λ x. (registers x).labels) (take i from ++ get_or from i 0 ∷ []) l h in
          elim (in_either at.0 (take i from) (get_or from i 0 ∷ []) at.1) [
            | inl before ↦ (joins l).1 (inl ((has l).1 (in_flat (λ x. (registers x).labels) (take i from) at.0 l before at.2)))
            | inr now ↦ elim now [
              | inl same ↦ (joins l).1 (inr (subst (In l) (sym (ap (λ (v : Value). v.labels) is)) (subst (λ x. In l (registers x).labels) same at.2)))
              | inr no_one ↦ absurd no_one
            ]
          ]

  pub own_all : (from : List ℕ) (i : ℕ) (labels : Labels) → length from ≤ i → HasLabels labels (labels_until (take i from)) → labels_of labels ≡ labels_in registers from
  own_all from i labels past has =
      labels_ascend labels (labels_until from) (λ l h. subst (λ xs. In l (labels_until xs)) (take_past from i past) ((has l).0 h)) (λ l h. (has l).1 (subst (λ xs. In l (labels_until xs)) (sym (take_past from i past)) h))

  -- the values of registers
  pub value_more : (from : List ℕ) (i : ℕ) (values new : List Held) (held : Held) → i < length from → value_of held ≡ registers (get_or from i 0) → new ≡ values ++ held ∷ [] → map value_of values ≡ map registers (take i from) → map value_of new ≡ map registers (take (i + 1) from)
  value_more from i values new held within is more so_far =
      ap (map value_of) more
      ∙ (map-append value_of values (held ∷ [])
      ∙ (ap (λ vs. vs ++ value_of held ∷ []) so_far
      ∙ (ap (λ v. map registers (take i from) ++ v ∷ []) is
      ∙ (sym (map-append registers (take i from) (get_or from i 0 ∷ [])) ∙ ap (map registers) (sym (take_more from i 0 within))))))

  pub value_all : (from : List ℕ) (i : ℕ) (values : List Held) → length from ≤ i → map value_of values ≡ map registers (take i from) → map value_of values ≡ map registers from
  value_all from i values past so_far = so_far ∙ ap (map registers) (take_past from i past)

-- a static with a label
pub static_labelled : (app : App) (lists : Lists) (w : World) (g : ℕ) (held : Held) (one all : Labels) (label : ℕ) → value_of held ≡ w.statics g → static_source app lists g ≡ Some label → ((l : ℕ) → In l (labels_of one) ↔ (l ≡ label)) →
    ((l : ℕ) → In l (labels_of all) ↔ (In l (labels_of one) ⊎ In l (labels_of held.labels))) → AlikeValue (static_read app lists w g) (value_of (record { place = held.place; labels = all }))
static_labelled app lists w g held one all label is source only joins = record { place = sym (ap (λ (v : Value). v.place) is); labels = λ l. (to l, back l) }
  where
    same : labels_of held.labels ≡ (w.statics g).labels
    same = ap (λ (v : Value). v.labels) is

    to : (l : ℕ) → In l (option_to_list (static_source app lists g) ++ (w.statics g).labels) → In l (labels_of all)
    to l h = elim (in_either l (label ∷ []) (w.statics g).labels (subst (λ o. In l (option_to_list o ++ (w.statics g).labels)) source h)) [
      | inl own ↦ elim own [ inl this ↦ (joins l).1 (inl ((only l).1 this)) | inr no_one ↦ absurd no_one ]
      | inr old ↦ (joins l).1 (inr (subst (In l) (sym (ap (λ (v : Value). v.labels) is)) old))
    ]

    back : (l : ℕ) → In l (labels_of all) → In l (option_to_list (static_source app lists g) ++ (w.statics g).labels)
    back l h = subst (λ o. In l (option_to_list o ++ (w.statics g).labels)) (sym source) (elim ((joins l).0 h) [
      | inl new ↦ in_front l (label ∷ []) (w.statics g).labels (inl ((only l).0 new))
      | inr old ↦ in_back l (label ∷ []) (w.statics g).labels (subst (In l) (ap (λ (v : Value). v.labels) is) old)
    ])
