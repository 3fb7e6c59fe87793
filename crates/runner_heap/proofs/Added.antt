-- The values of all entries of an object.
use Rattle.std.proofs.Common.{◌≡◌, ℕ, zero, suc, Bool, true, false, cond, List, [], ◌∷◌, ◌++◌, reverse, Option, Some, None, option_map, inl, inr, refl, sym, ap, ◌∙◌, subst, add-one, append_assoc}
use Rattle.std.specs.Prelude.{option_to_list}
use Rattle.std.specs.Ordering.{nat_cmp}
use Rattle.std.specs.BTreeMap.{is_at}
use Rattle.std.specs.Map.{lookup, values_of}
use Rattle.std.specs.List.{All}
use Rattle.std.proofs.lemmas.List.{append-nil}
use Rattle.std.proofs.lemmas.Option.{same_Some, none-some}
use Rattle.vet_base.specs.declared.key_id.KeyId.{KeyId}
use Rattle.vet_base.specs.Members.{In}
use Rattle.vet_base.proofs.Members.{all_in, in_front, in_back, in_either, in_map, from_map}
use Rattle.app_machine.specs.Heap.{Value}
use Rattle.app_machine.specs.Lookups.{elem_key}
use Rattle.played_machine.proofs.Ordered.{in_reverse, from_reverse}
use Rattle.played_alike.specs.Alike.{values_under}
use Rattle.runner_heap.specs.Shown.{field_key, entries_by, AddsValues}
use Rattle.runner_heap.proofs.Under.{elements_under, field_under, field_in}
use Rattle.runner_state.specs.declared.value.Held.{Held}
use Rattle.runner_state.specs.Shown.{value_of}

-- a value that a look-up finds is one of the entries'
found_value : (test : ℕ → Bool) (es : List (ℕ × Held)) (v : Held) → lookup test es ≡ Some v → In v (values_of es)
found_value test [] v is = absurd (none-some v is)
found_value test (e ∷ es) v is = by_test (test e.0) (found_value test es v) is
  where
    by_test : (b : Bool) → (lookup test es ≡ Some v → In v (values_of es)) → cond b (Some e.1) (lookup test es) ≡ Some v → In v (values_of (e ∷ es))
    by_test true later is = inl (sym (same_Some e.1 v is))
    by_test false later is = inr (later is)

-- of at most one value
one_of_option : (o : Option Held) (w : Value) → In w (option_to_list (option_map value_of o)) → (v : Held) × (o ≡ Some v) × (value_of v ≡ w)
one_of_option None w h = absurd h
one_of_option (Some v) w (inl same) = (v, refl, sym same)
one_of_option (Some v) w (inr h) = absurd h

module _ (elements : List Held) (fields : List (ℕ × Held)) where
  abbrev under_key : KeyId → List Value
  under_key k = reverse (values_under k (entries_by elements fields))

  element_stands : (v : Held) → In v elements → (k : KeyId) × In (value_of v) (under_key k)
  element_stands v h = (elem_key, in_reverse (values_under elem_key (entries_by elements fields)) (value_of v) (subst (In (value_of v)) (sym (elements_under elements fields)) (in_map value_of (reverse elements) v (in_reverse elements v h))))

  field_stands : All (λ e. field_in e.0 fields ≡ Some e.1) fields → (v : Held) → In v (values_of fields) → (k : KeyId) × In (value_of v) (under_key k)
  field_stands found v h =
      let at = from_map (λ (e : ℕ × Held). e.1) fields v h in
      let is : field_in at.0.0 fields ≡ Some v = all_in (λ e. field_in e.0 fields ≡ Some e.1) fields at.0 found at.1 ∙ ap (λ z. Some z) (sym at.2) in
      (field_key at.0.0, in_reverse (values_under (field_key at.0.0) (entries_by elements fields)) (value_of v) (subst (In (value_of v)) (sym (field_under at.0.0 elements fields ∙ ap (λ o. option_to_list (option_map value_of o)) is)) (inl refl)))

  element_is : (w : Value) → In w (under_key elem_key) → (v : Held) × In v (elements ++ values_of fields) × (value_of v ≡ w)
  element_is w h =
      let at = from_map value_of (reverse elements) w (subst (In w) (elements_under elements fields) (from_reverse (values_under elem_key (entries_by elements fields)) w h)) in
      (at.0, in_front at.0 elements (values_of fields) (from_reverse elements at.0 at.1), sym at.2)

  field_is : (n : ℕ) (w : Value) → In w (under_key (field_key n)) → (v : Held) × In v (elements ++ values_of fields) × (value_of v ≡ w)
  field_is n w h =
      let at = one_of_option (field_in n fields) w (subst (In w) (field_under n elements fields) (from_reverse (values_under (field_key n) (entries_by elements fields)) w h)) in
      (at.0, in_back at.0 elements (values_of fields) (found_value (is_at (nat_cmp n)) fields at.0 at.1), at.2)

  all_are : (k : ℕ) (w : Value) → In w (under_key (record { 0 = k })) → (v : Held) × In v (elements ++ values_of fields) × (value_of v ≡ w)
  all_are zero w h = element_is w h
  all_are (suc n) w h = field_is n w (subst (λ k. In w (under_key (record { 0 = k }))) (sym (add-one n)) h)

  pub adds_values : All (λ e. field_in e.0 fields ≡ Some e.1) fields → (old middle new : List Held) → middle ≡ old ++ elements → new ≡ middle ++ values_of fields → AddsValues under_key old new
  adds_values found old middle new first second = record {
    added = elements ++ values_of fields;
    behind = second ∙ (ap (λ xs. xs ++ values_of fields) first ∙ append_assoc old elements (values_of fields));
    stand = λ v h. elim (in_either v elements (values_of fields) h) [ inl front ↦ element_stands v front | inr back ↦ field_stands found v back ];
    all = λ k w h. all_are k.0 w h;
  }

-- of no object
pub adds_none : (under : KeyId → List Value) → ((k : KeyId) → under k ≡ []) → (old new : List Held) → new ≡ old → AddsValues under old new
adds_none under none old new same = record {
  added = [];
  behind = same ∙ sym (append-nil old);
  stand = λ v h. absurd h;
  all = λ k w h. absurd (subst (In w) (none k) h);
}
