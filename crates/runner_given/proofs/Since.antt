-- Places that are handed behind others.
use Rattle.std.proofs.Common.{◌≡◌, ◌==◌, ◌+◌, ◌⊎◌, inl, inr, ℕ, Bool, true, false, List, [], ◌∷◌, ◌++◌, map, take, length, get_or, ◌<◌, ◌≤◌, refl, sym, ap, ◌∙◌, subst, append_assoc, eqb-true, eq-eqb}
use Rattle.std.specs.Prelude.{◌↔◌}
use Rattle.std.specs.List.{list_any}
use Rattle.std.proofs.lemmas.List.{append-nil, map_push, take_all, take_more}
use Rattle.vet_base.specs.Members.{In}
use Rattle.vet_base.proofs.Members.{in_either, in_back, in_front, one_passes, passes_if}
use Rattle.app_machine.specs.Calls.{hand}
use Rattle.app_machine.specs.Heap.{Value}
use Rattle.played_alike.proofs.Orders.{put_once, handed_next}
use Rattle.played_machine.specs.Reading.{handed_places}
use Rattle.played_machine.proofs.Ordered.{false_true}
use Rattle.runner_given.specs.Given.{IsHandedSince}
use Rattle.runner_library.specs.Over.{hand_each}
use Rattle.runner_state.specs.declared.value.Held.{Held}
use Rattle.runner_state.specs.Shown.{value_of}
use Rattle.runner_world.proofs.Places.{put_new, put_there}

-- one place
module _ (before new all : List ℕ) (p : ℕ) (is : IsHandedSince before new all) where
  more : handed_places (p ∷ all) ≡ put_once p (before ++ new)
  more = handed_next p all ∙ ap (put_once p) is

  again : In p (before ++ new) → IsHandedSince before new (p ∷ all)
  again h = more ∙ sym (put_there p (before ++ new) h)

  pub was_before : In p before → IsHandedSince before new (p ∷ all)
  was_before h = again (in_front p before new h)

  pub was_new : In p new → IsHandedSince before new (p ∷ all)
  was_new h = again (in_back p before new h)

  pub is_new : (further : List ℕ) → further ≡ new ++ p ∷ [] → (In p before → ⊥) → (In p new → ⊥) → IsHandedSince before further (p ∷ all)
  is_new further has none_before none_new =
      more ∙ (sym (put_new p (before ++ new) neither) ∙ (append_assoc before new (p ∷ []) ∙ ap (λ ys. before ++ ys) (sym has)))
    where
      neither : In p (before ++ new) → ⊥
      neither h = by_part (in_either p before new h)
        where
          by_part : In p before ⊎ In p new → ⊥
          by_part (inl old) = none_before old
          by_part (inr later) = none_new later

-- whether it is among these
pub among : (p : ℕ) (xs : List ℕ) (b : Bool) → b ≡ list_any (λ y. y == p) xs → b ≡ true → In p xs
among p xs b is holds = let found = one_passes (λ y. y == p) xs (sym is ∙ holds) in subst (λ y. In y xs) (eqb-true found.0 p found.2) found.1

pub not_among : (p : ℕ) (xs : List ℕ) (b : Bool) → b ≡ list_any (λ y. y == p) xs → b ≡ false → In p xs → ⊥
not_among p xs b is fails h = false_true (sym fails ∙ (is ∙ passes_if (λ y. y == p) xs p h (eq-eqb p p refl)))

pub not_there : (p : ℕ) (xs : List ℕ) (b : Bool) → (b ≡ true) ↔ In p xs → b ≡ false → In p xs → ⊥
not_there p xs b is fails h = false_true (sym fails ∙ is.1 h)

-- each of several values
hand_end : (vs : List Value) (v : Value) (all : List ℕ) → hand_each (vs ++ v ∷ []) all ≡ hand v.place (hand_each vs all)
hand_end [] v all = refl
hand_end (w ∷ vs) v all = hand_end vs v (hand w.place all)

module _ (before all : List ℕ) (values : List Held) where
  -- the first of them were handed
  abbrev pub AreHanded : ℕ → List ℕ → Type 0
  AreHanded i new = IsHandedSince before new (hand_each (map value_of (take i values)) all)

  pub none_handed : (new : List ℕ) → new ≡ [] → handed_places all ≡ before → AreHanded 0 new
  none_handed new none is = is ∙ (sym (append-nil before) ∙ ap (λ ys. before ++ ys) (sym none))

  pub one_handed : (i : ℕ) (d : Held) (new further : List ℕ) → i < length values → ((hs : List ℕ) → IsHandedSince before new hs → IsHandedSince before further (hand (get_or values i d).place hs)) → AreHanded i new → AreHanded (i + 1) further
  one_handed i d new further within step so_far =
      subst (λ hs. IsHandedSince before further hs)
      (sym (ap (λ vs. hand_each (map value_of vs) all) (take_more values i d within)
      ∙ (ap (λ vs. hand_each vs all) (map_push value_of (take i values) (get_or values i d)) ∙ hand_end (map value_of (take i values)) (value_of (get_or values i d)) all)))
      (step (hand_each (map value_of (take i values)) all) so_far)

  pub all_handed : (i : ℕ) (new : List ℕ) → length values ≤ i → AreHanded i new → IsHandedSince before new (hand_each (map value_of values) all)
  all_handed i new every so_far = subst (λ vs. IsHandedSince before new (hand_each (map value_of vs) all)) (take_all i values every) so_far
