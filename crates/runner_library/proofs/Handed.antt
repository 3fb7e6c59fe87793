-- Places that are handed one after the other.
use Rattle.std.proofs.Common.{◌≡◌, ℕ, ◌+◌, ◌<◌, ◌≤◌, List, [], ◌∷◌, ◌++◌, map, take, length, get_or, reverse, Option, Some, None, refl, sym, ap, ◌∙◌}
use Rattle.std.proofs.lemmas.List.{map-append, take_more, take_all}
use Rattle.app_machine.specs.Calls.{hand}
use Rattle.app_machine.specs.Heap.{Value}
use Rattle.played_machine.specs.Reading.{handed_places}
use Rattle.played_alike.proofs.Orders.{put_once, handed_next}
use Rattle.runner_library.specs.Over.{hand_each}
use Rattle.runner_state.specs.declared.value.Held.{Held}
use Rattle.runner_state.specs.Shown.{value_of}

handed_same : (o : Option ℕ) (one other : List ℕ) → handed_places one ≡ handed_places other → handed_places (hand o one) ≡ handed_places (hand o other)
handed_same None one other same = same
handed_same (Some p) one other same = handed_next p one ∙ (ap (put_once p) same ∙ sym (handed_next p other))

hand_last : (vs : List Value) (v : Value) (handed : List ℕ) → hand_each (vs ++ v ∷ []) handed ≡ hand v.place (hand_each vs handed)
hand_last [] v handed = refl
hand_last (w ∷ vs) v handed = hand_last vs v (hand w.place handed)

module _ (values : List Held) (old : List ℕ) where
  abbrev pub AreHanded : List ℕ → ℕ → Type 0
  AreHanded new i = handed_places (reverse new) ≡ handed_places (hand_each (map value_of (take i values)) (reverse old))

  pub one_handed : (new newer : List ℕ) (i : ℕ) (d : Held) → i < length values → handed_places (reverse newer) ≡ handed_places (hand (get_or values i d).place (reverse new)) → AreHanded new i → AreHanded newer (i + 1)
  one_handed new newer i d within more so_far =
      let v : Held = get_or values i d in
      more
      ∙ (handed_same v.place (reverse new) (hand_each (map value_of (take i values)) (reverse old)) so_far
      ∙ ap handed_places (sym (hand_last (map value_of (take i values)) (value_of v) (reverse old))
      ∙ ap (λ vs. hand_each vs (reverse old)) (sym (map-append value_of (take i values) (v ∷ [])) ∙ ap (map value_of) (sym (take_more values i d within)))))

  pub all_handed : (new : List ℕ) (i : ℕ) → length values ≤ i → AreHanded new i → handed_places (reverse new) ≡ handed_places (hand_each (map value_of values) (reverse old))
  all_handed new i past so_far = so_far ∙ ap (λ vs. handed_places (hand_each (map value_of vs) (reverse old))) (take_all i values past)
