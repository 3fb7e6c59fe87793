-- The label arrives through what the library keeps.
use Rattle.std.proofs.Common.{◌≡◌, [], ◌∷◌, ◌⊎◌, inl, inr, refl, ap}
use Rattle.vet_base.specs.declared.key_id.KeyId.{KeyId}
use Rattle.app_machine.specs.declared.call.CallKind.TheVariants.{Static}
use Rattle.app_machine.specs.declared.method.Act.TheVariants.{Call}
use Rattle.app_machine.specs.Lookups.{elem_key, step_at, method_with, body_named, find_body, method_of, up}
use Rattle.app_machine.specs.Heap.{Value, entry_of}
use Rattle.machine_witness.specs.Apps.{step}
use Rattle.machine_witness.specs.Flows.{own_box, add, tries, by_library_put, by_library_copy, by_library_store, by_library_raise, by_handed_result, ArrivesAt, FlowsThroughTheLibrary, activity_of}
use Rattle.machine_witness.proofs.Flowing.{by_take, by_new, by_get, by_id, by_post, knows, the_label}
use Rattle.machine_witness.proofs.Boxing.{by_add, by_add_and_raise, by_pour, by_keep, by_open, by_first}
use Rattle.machine_witness.proofs.GivingBack.{by_find}
use Rattle.machine_witness.proofs.Beginning.{created_run}
use Rattle.machine_witness.proofs.Arriving.{arrives_at}

put : ArrivesAt (activity_of by_library_put) 0 6
unfolding activity_of step_at body_named method_with up find_body method_of
put =
    let boxed = by_new (by_take (by_id (created_run by_library_put refl) (knows by_library_put) 1 refl) (0 ∷ []) 2 refl) 1 own_box 3 refl in
    let added = by_add by_library_put boxed 1 0 1 (step 3 (Call Static add (1 ∷ 0 ∷ [])) (4 ∷ [])) 4 refl refl refl refl (inl refl) in
    let taken = by_first by_library_put added 1 1 the_label 5 refl refl refl (inl refl) refl in
    arrives_at (by_post (by_take taken (2 ∷ []) 6 refl) (knows by_library_put) 2 7 refl refl) (inl refl)

-- the first box holds the label alone
holds_label_alone : (u : Value) → (◌≡◌ {A = KeyId × Value} (elem_key, u) (elem_key, the_label)) ⊎ ⊥ → u ≡ the_label
holds_label_alone u (inl e) = ap (λ (x : KeyId × Value). x.1) e
holds_label_alone u (inr none) = absurd none

copy : ArrivesAt (activity_of by_library_copy) 0 7
unfolding activity_of step_at body_named method_with up
copy =
    let boxed = by_new (by_take (by_id (created_run by_library_copy refl) (knows by_library_copy) 1 refl) (0 ∷ []) 2 refl) 1 own_box 3 refl in
    let added = by_add by_library_copy boxed 1 0 1 (step 3 (Call Static add (1 ∷ 0 ∷ [])) (4 ∷ [])) 4 refl refl refl refl (inl refl) in
    let second = by_new added 2 own_box 5 refl in
    let poured = by_pour by_library_copy second 1 2 1 2 the_label 6 refl refl (inl refl) holds_label_alone refl in
    arrives_at (by_post (by_get poured 0 2 elem_key the_label 7 refl (entry_of refl (inl refl))) (knows by_library_copy) 0 8 refl refl) (inl refl)

store : ArrivesAt (activity_of by_library_store) 0 6
unfolding activity_of step_at body_named method_with up
store =
    let labelled = by_take (by_id (created_run by_library_store refl) (knows by_library_store) 1 refl) (0 ∷ []) 2 refl in
    let kept = by_keep by_library_store labelled 0 3 refl refl refl refl in
    let opened = by_take (by_open by_library_store kept 1 4 refl refl) (1 ∷ []) 5 refl in
    arrives_at (by_post (by_get opened 2 1 elem_key the_label 6 refl (entry_of refl (inl refl))) (knows by_library_store) 2 7 refl refl) (inl refl)

raise : ArrivesAt (activity_of by_library_raise) 0 5
unfolding activity_of step_at body_named method_with up
raise =
    let boxed = by_new (by_take (by_id (created_run by_library_raise refl) (knows by_library_raise) 1 refl) (0 ∷ []) 2 refl) 1 own_box 3 refl in
    let caught = by_add_and_raise by_library_raise boxed 1 0 1 (tries 3 (Call Static add (1 ∷ 0 ∷ [])) (6 ∷ []) (4 ∷ [])) 4 refl refl refl refl (inl refl) in
    arrives_at (by_post (by_get caught 2 1 elem_key the_label 5 refl (entry_of refl (inl refl))) (knows by_library_raise) 2 6 refl refl) (inl refl)

given_back : ArrivesAt (activity_of by_handed_result) 0 7
unfolding activity_of step_at body_named method_with up
given_back =
    let boxed = by_new (by_take (by_id (created_run by_handed_result refl) (knows by_handed_result) 1 refl) (0 ∷ []) 2 refl) 1 own_box 3 refl in
    let added = by_add by_handed_result boxed 1 0 1 (step 3 (Call Static add (1 ∷ 0 ∷ [])) (4 ∷ [])) 4 refl refl refl refl (inl refl) in
    let found = by_take (by_find by_handed_result added 1 5 (inl refl) refl refl) (2 ∷ []) 6 refl in
    arrives_at (by_post (by_get found 0 2 elem_key the_label 7 refl (entry_of refl (inl refl))) (knows by_handed_result) 0 8 refl refl) (inl refl)

pub through_the_library : FlowsThroughTheLibrary
through_the_library = record { put = put; copy = copy; store = store; raise = raise; given_back = given_back }
