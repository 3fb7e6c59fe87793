-- Results of a call.
use Rattle.std.proofs.Common.{◌≡◌, ℕ, true, false, cond, List, [], ◌∷◌, ◌++◌, map, reverse, length, Some, sym, ap, ◌∙◌}
use Rattle.vet_base.specs.declared.key_id.KeyId.{KeyId}
use Rattle.app_machine.specs.declared.app.App.{App}
use Rattle.app_machine.specs.Heap.{Value, Object, blank, labelled}
use Rattle.app_machine.specs.Library.{joined_object}
use Rattle.app_machine.specs.Lookups.{elem_key}
use Rattle.app_machine.specs.Names.{Name, is_reference, is_void}
use Rattle.app_machine.specs.State.{new_object}
use Rattle.app_parts.specs.declared.summary_view.CallResult.{CallResult}
use Rattle.played_machine.specs.Librarian.{joined_value}
use Rattle.runner_heap.specs.Shown.{element_of}
use Rattle.runner_library.specs.declared.giving.Known.{Known}
use Rattle.runner_library.specs.Over.{result_by, resulted}
use Rattle.runner_state.specs.declared.value.Held.{Held}
use Rattle.runner_state.specs.Shown.{value_of}

-- an object with these elements
pub object_is : (o : Object) (class : Name) (elements : List Held) (entries : List (KeyId × Value)) → o.class ≡ class → o.entries ≡ map element_of (reverse elements) → map element_of (reverse elements) ≡ entries → o ≡ record { class = class; entries = entries }
object_is o class elements entries same are is =
    ap {B = Object} (λ c. record { class = c; entries = o.entries }) same ∙ ap {B = Object} (λ es. record { class = class; entries = es }) (are ∙ is)

pub fresh_is : (o : Object) (class : Name) (elements : List Held) → o.class ≡ class → o.entries ≡ map element_of (reverse elements) → elements ≡ [] → o ≡ new_object class
fresh_is o class elements same are none = object_is o class elements [] same are (ap (λ es. map element_of (reverse es)) none)

module _ (ret : Name) (heap : List Object) (labels : List ℕ) where
  pub plain_is : (v : Value) → is_reference ret ≡ false → v ≡ labelled labels → (heap, v) ≡ joined_value ret heap labels
  plain_is v plain is =
      ap (λ (w : Value). (heap, w)) is ∙ sym (ap (λ b. cond b (heap ++ joined_object ret labels ∷ [], record { place = Some (length heap); labels = labels }) (heap, labelled labels)) plain)

  pub joined_is : (new : List Object) (o : Object) (place : ℕ) → is_reference ret ≡ true → place ≡ length heap → new ≡ heap ++ o ∷ [] → o ≡ joined_object ret labels → (new, record { place = Some place; labels = labels }) ≡ joined_value ret heap labels
  joined_is new o place class at more is =
      let v : Value = record { place = Some place; labels = labels } in
      ap (λ (h : List Object). (h, v)) (more ∙ ap (λ x. heap ++ x ∷ []) is)
      ∙ (ap (λ (n : ℕ). (let w : Value = record { place = Some n; labels = labels } in (heap ++ joined_object ret labels ∷ [], w))) at
      ∙ sym (ap (λ b. cond b (heap ++ joined_object ret labels ∷ [], record { place = Some (length heap); labels = labels }) (heap, labelled labels)) class))

module _ (app : App) (vs : List Value) (ret : Name) (statics : ℕ → Value) (heap : List Object) (known : Known) where
  pub of_void : (v : Value) (kind : CallResult) → is_void ret ≡ true → v ≡ blank → (heap, v) ≡ result_by app vs ret statics heap known kind
  of_void v kind void is = ap (λ (w : Value). (heap, w)) is ∙ sym (ap (λ b. cond b (heap, blank) (resulted app vs ret statics heap known kind)) void)

  pub of_kind : (given : List Object × Value) (kind one : CallResult) → is_void ret ≡ false → kind ≡ one → given ≡ resulted app vs ret statics heap known one → given ≡ result_by app vs ret statics heap known kind
  of_kind given kind one some is gives = gives ∙ (ap (resulted app vs ret statics heap known) (sym is) ∙ sym (ap (λ b. cond b (heap, blank) (resulted app vs ret statics heap known kind)) some))

-- one element alone
pub one_element : (elements before : List Held) (held : Held) (labels : List ℕ) → elements ≡ before ++ held ∷ [] → before ≡ [] → value_of held ≡ labelled labels → map element_of (reverse elements) ≡ (elem_key, labelled labels) ∷ []
one_element elements before held labels more none is =
    ap (λ es. map element_of (reverse es)) (more ∙ ap (λ es. es ++ held ∷ []) none) ∙ ap (λ v. (elem_key, v) ∷ []) is

abbrev pub beside : List Object → Value → List Object × Value
beside heap v = (heap, v)

pub same_value : (heap : List Object) {v w : Value} → v ≡ w → beside heap v ≡ beside heap w
same_value heap same = ap (beside heap) same
