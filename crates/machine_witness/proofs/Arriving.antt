-- The label arrives on each way within `onCreate`, and by another method.
use Rattle.std.proofs.Common.{ℕ, List, [], ◌∷◌, inl, Some, None, refl}
use Rattle.app_machine.specs.declared.call.CallKind.TheVariants.{Static}
use Rattle.app_machine.specs.declared.method.Act.TheVariants.{New, PutStatic, Call, Return, Throw}
use Rattle.app_machine.specs.declared.app.App.{App}
use Rattle.vet_base.specs.Members.{In}
use Rattle.app_machine.specs.Lookups.{Body, HasCode, Initialises, elem_key, step_at, target, find_body, method_of, class_named, is_by_receiver, method_with, body_named, up, initialisers, class_initialised, initialisers_from, initialiser_of}
use Rattle.app_machine.specs.Names.{initialiser_name, initialiser_proto}
use Rattle.app_machine.specs.Summaries.{listed_static, static_source}
use Rattle.app_machine.specs.Heap.{Object, entry_of}
use Rattle.app_machine.specs.State.{World, Frame}
use Rattle.app_machine.specs.Calls.{CallsTo, by_name}
use Rattle.app_machine.specs.Run.{Run}
use Rattle.machine_witness.specs.Apps.{step}
use Rattle.machine_witness.specs.Acts.{field_key, ints}
use Rattle.machine_witness.specs.Flows.{box_lists, own_box, with_id, tries, helper, read_id, initialiser, by_static, by_source, by_field, by_element, by_filled, by_size, by_result, by_exception, by_initialiser, ArrivesAt, FlowsWithinOnCreate, FlowsByOtherMethods, activity_of}
use Rattle.machine_witness.proofs.Flowing.{by_take, by_exception_of, by_new, by_sized, by_join, by_get, by_put_of, by_get_static, by_put_static, by_fill, by_call, by_initialiser_of, by_return, by_throw, by_initialised, by_id, by_post, knows, the_label}
use Rattle.machine_witness.proofs.Beginning.{created_run}

pub arrives_at : {app : App} {w : World} {fs : List Frame} {method pc : ℕ} → Run app box_lists w fs → In (record { label = 0; sink = 1; method = method; pc = pc }) w.arrivals → ArrivesAt app method pc
arrives_at {w = w} {fs = fs} run there = record { world = w; frames = fs; run = run; arrives = there }

static : ArrivesAt (activity_of by_static) 0 4
unfolding activity_of box_lists static_source listed_static step_at body_named method_with up
static = arrives_at (by_post (by_get_static (by_put_static (by_take (by_id (created_run by_static refl) (knows by_static) 1 refl) (0 ∷ []) 2 refl) 0 0 3 refl) 1 0 4 refl) (knows by_static) 1 5 refl refl) (inl refl)

source : ArrivesAt (activity_of by_source) 0 1
unfolding activity_of box_lists static_source listed_static step_at body_named method_with up
source = arrives_at (by_post (by_get_static (created_run by_source refl) 0 1 1 refl) (knows by_source) 0 2 refl refl) (inl refl)

field : ArrivesAt (activity_of by_field) 0 5
unfolding activity_of step_at body_named method_with up
field = arrives_at (by_post (by_get (by_put_of (by_new (by_take (by_id (created_run by_field refl) (knows by_field) 1 refl) (0 ∷ []) 2 refl) 1 own_box 3 refl) 1 field_key 0 4 refl) 2 1 field_key the_label 5 refl (entry_of refl (inl refl))) (knows by_field) 2 6 refl refl) (inl refl)

element : ArrivesAt (activity_of by_element) 0 5
unfolding activity_of step_at body_named method_with up
element = arrives_at (by_post (by_get (by_put_of (by_new (by_take (by_id (created_run by_element refl) (knows by_element) 1 refl) (0 ∷ []) 2 refl) 1 ints 3 refl) 1 elem_key 0 4 refl) 2 1 elem_key the_label 5 refl (entry_of refl (inl refl))) (knows by_element) 2 6 refl refl) (inl refl)

filled : ArrivesAt (activity_of by_filled) 0 5
unfolding activity_of step_at body_named method_with up
filled = arrives_at (by_post (by_get (by_take (by_fill (by_take (by_id (created_run by_filled refl) (knows by_filled) 1 refl) (0 ∷ []) 2 refl) 0 ints 3 refl) (1 ∷ []) 4 refl) 2 1 elem_key the_label 5 refl (entry_of refl (inl refl))) (knows by_filled) 2 6 refl refl) (inl refl)

size : ArrivesAt (activity_of by_size) 0 4
unfolding activity_of step_at body_named method_with up
size = arrives_at (by_post (by_join (by_sized (by_take (by_id (created_run by_size refl) (knows by_size) 1 refl) (0 ∷ []) 2 refl) 1 ints 0 3 refl) 2 1 4 refl) (knows by_size) 2 5 refl refl) (inl refl)

pub within_on_create : FlowsWithinOnCreate
within_on_create = record { static = static; source = source; field = field; element = element; filled = filled; size = size }

-- the helper method is the second
result_code : HasCode (activity_of by_result) 1 (helper read_id (with_id (step 2 (Return (Some 0)) [] ∷ [])))
unfolding activity_of
result_code = record { there = refl; code = refl }

result_called : (heap : List Object) (f : Frame) → CallsTo (activity_of by_result) heap f Static read_id [] (Body 1)
unfolding activity_of target find_body up method_of class_named is_by_receiver
result_called heap f = by_name refl refl

result : ArrivesAt (activity_of by_result) 0 2
unfolding activity_of step_at body_named method_with up
result =
    let entered = by_call (created_run by_result refl) (step 0 (Call Static read_id []) (1 ∷ [])) read_id 1 (helper read_id (with_id (step 2 (Return (Some 0)) [] ∷ []))) refl refl (result_called _ _) result_code in
    let labelled = by_take (by_id entered (knows by_result) 1 refl) (0 ∷ []) 2 refl in
    let back = by_return labelled 0 (step 0 (Call Static read_id []) (1 ∷ [])) 1 refl refl refl (inl refl) in
    arrives_at (by_post (by_take back (0 ∷ []) 2 refl) (knows by_result) 0 3 refl refl) (inl refl)

exception_code : HasCode (activity_of by_exception) 1 (helper read_id (with_id (step 2 (Throw 0) [] ∷ [])))
unfolding activity_of
exception_code = record { there = refl; code = refl }

exception_called : (heap : List Object) (f : Frame) → CallsTo (activity_of by_exception) heap f Static read_id [] (Body 1)
unfolding activity_of target find_body up method_of class_named is_by_receiver
exception_called heap f = by_name refl refl

exception : ArrivesAt (activity_of by_exception) 0 2
unfolding activity_of step_at body_named method_with up
exception =
    let entered = by_call (created_run by_exception refl) (tries 0 (Call Static read_id []) (3 ∷ []) (1 ∷ [])) read_id 1 (helper read_id (with_id (step 2 (Throw 0) [] ∷ []))) refl refl (exception_called _ _) exception_code in
    let labelled = by_take (by_id entered (knows by_exception) 1 refl) (0 ∷ []) 2 refl in
    let caught = by_throw labelled 0 (tries 0 (Call Static read_id []) (3 ∷ []) (1 ∷ [])) 1 refl refl (inl refl) in
    arrives_at (by_post (by_exception_of caught 0 2 refl) (knows by_exception) 0 3 refl refl) (inl refl)

initialiser_code : HasCode (activity_of by_initialiser) 1 (helper initialiser (with_id (step 2 (PutStatic 0 0) (3 ∷ []) ∷ step 3 (Return None) [] ∷ [])))
unfolding activity_of
initialiser_code = record { there = refl; code = refl }

-- before the new object
runs_first : Initialises (activity_of by_initialiser) 0 0 1
unfolding activity_of step_at initialisers class_initialised initialisers_from initialiser_of initialiser_name initialiser_proto up method_of
runs_first = record { act = New 1 own_box None; at = record { step = _; there = refl; same = refl }; is_one = inl refl }

by_init : ArrivesAt (activity_of by_initialiser) 0 2
unfolding activity_of box_lists static_source listed_static step_at body_named method_with up
by_init =
    let entered = by_initialiser_of (created_run by_initialiser refl) 1 (helper initialiser (with_id (step 2 (PutStatic 0 0) (3 ∷ []) ∷ step 3 (Return None) [] ∷ []))) runs_first initialiser_code in
    let put = by_put_static (by_take (by_id entered (knows by_initialiser) 1 refl) (0 ∷ []) 2 refl) 0 0 3 refl in
    let back = by_initialised put refl refl in
    arrives_at (by_post (by_get_static (by_new back 1 own_box 1 refl) 0 0 2 refl) (knows by_initialiser) 0 3 refl refl) (inl refl)

pub by_other_methods : FlowsByOtherMethods
by_other_methods = record { result = result; exception = exception; initialiser = by_init }
