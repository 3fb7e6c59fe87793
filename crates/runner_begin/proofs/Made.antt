-- Objects that are made one after the other.
use Rattle.std.proofs.Common.{◌≡◌, ℕ, ◌+◌, ◌<◌, ◌≤◌, List, [], ◌∷◌, ◌++◌, map, reverse, take, length, get_or, refl, sym, ap, ◌∙◌, append_assoc, append-nil}
use Rattle.std.proofs.lemmas.List.{map_push, take_all, take_more}
use Rattle.app_machine.specs.Events.{labelled_element}
use Rattle.app_machine.specs.Heap.{Object, Value, labelled}
use Rattle.app_machine.specs.Lookups.{elem_key}
use Rattle.runner_begin.specs.declared.drawing.Fresh.{Fresh}
use Rattle.runner_begin.specs.Parameters.{object_in, planned_in}
use Rattle.runner_heap.specs.Shown.{element_of}
use Rattle.runner_state.specs.declared.value.Held.{Held}
use Rattle.runner_state.specs.Shown.{labels_of, value_of}

module _ (old : List Object) (fresh : List Fresh) where
  -- the first i are there
  abbrev pub MadeFirst : List Object → ℕ → Type 0
  MadeFirst heap i = heap ≡ planned_in old (take i fresh)

  pub none_made : MadeFirst old 0
  none_made = sym (append-nil old)

  pub one_made : (heap new : List Object) (i : ℕ) (one : Fresh) → i < length fresh → one ≡ get_or fresh i one → new ≡ heap ++ object_in one ∷ [] → MadeFirst heap i → MadeFirst new (i + 1)
  one_made heap new i one within is more so_far =
      more
      ∙ (ap (λ (o : Fresh). heap ++ object_in o ∷ []) is
      ∙ (ap (λ os. os ++ object_in (get_or fresh i one) ∷ []) so_far
      ∙ (append_assoc old (map object_in (take i fresh)) (object_in (get_or fresh i one) ∷ [])
      ∙ ap (λ os. old ++ os) (sym (ap (map object_in) (take_more fresh i one within) ∙ map_push object_in (take i fresh) (get_or fresh i one))))))

  pub all_made : (heap : List Object) (i : ℕ) → length fresh ≤ i → MadeFirst heap i → heap ≡ planned_in old fresh
  all_made heap i past so_far = so_far ∙ ap (planned_in old) (take_all i fresh past)

-- an element, where there are labels
labelled_one : (labels : List ℕ) → (labels ≡ [] → ⊥) → (elem_key, labelled labels) ∷ [] ≡ labelled_element labels
labelled_one [] some = absurd (some refl)
labelled_one (l ∷ ls) some = refl

pub with_labels : (labels : List ℕ) (before elements : List Held) (held : Held) → before ≡ [] → elements ≡ before ++ held ∷ [] → value_of held ≡ labelled labels → (labels ≡ [] → ⊥) → map element_of (reverse elements) ≡ labelled_element labels
with_labels labels before elements held none more is some =
    ap (λ (es : List Held). map element_of (reverse es)) (more ∙ ap (λ (es : List Held). es ++ held ∷ []) none)
    ∙ (ap (λ (v : Value). (elem_key, v) ∷ []) is ∙ labelled_one labels some)

pub without_labels : (labels : List ℕ) → labels ≡ [] → [] ≡ labelled_element labels
without_labels labels none = ap labelled_element (sym none)

-- an object as it is to be made
pub object_is : (o : Object) (one : Fresh) → o.class ≡ one.class.now → o.entries ≡ labelled_element (labels_of one.labels) → o ≡ object_in one
object_is o one same are = ap {B = Object} (λ c. record { class = c; entries = o.entries }) same ∙ ap {B = Object} (λ es. record { class = one.class.now; entries = es }) are
