-- The label arrives from one event to another.
use Rattle.std.proofs.Common.{◌≡◌, ◌≢◌, ◌==◌, ℕ, zero, suc, List, [], ◌∷◌, false, cond, inl, inr, Some, None, refl, sym, subst, arith}
use Rattle.std.specs.Prelude.{codes, map, length, ◌++◌, IsTrue}
use Rattle.app_machine.specs.declared.call.MethodRef.{MethodRef}
use Rattle.app_machine.specs.declared.call.CallKind.TheVariants.{Static}
use Rattle.app_machine.specs.declared.method.Step.{Step}
use Rattle.app_machine.specs.declared.method.Method.{Method}
use Rattle.app_machine.specs.declared.method.Act.TheVariants.{Call, Get, GetStatic, PutStatic, Return}
use Rattle.app_machine.specs.declared.component.Kind.TheVariants.{Application, Activity}
use Rattle.app_machine.specs.declared.lists.SummaryId.TheVariants.{Row}
use Rattle.app_machine.specs.Names.{descriptor_of, click_descriptor, is_reference, is_wide, is_array}
use Rattle.app_machine.specs.Lookups.{HasCode, elem_key, step_at, target, find_body, method_of, method_with, body_named, class_named, up, is_by_receiver}
use Rattle.app_machine.specs.Summaries.{listed_static, static_source, Below, is_same, is_through, of_class, library_key, summary, row_walk, library_classes, listed_above, listed_class, row_of}
use Rattle.app_machine.specs.Heap.{Value, Object, blank, entry_of}
use Rattle.app_machine.specs.State.{World, entered, object_at, new_object}
use Rattle.app_machine.specs.Calls.{by_name}
use Rattle.app_machine.specs.LifeEvents.{LifeEvent, life_events}
use Rattle.app_machine.specs.Events.{IsApplication, LifeEventAt, CallbackAt, ClickAt, MayBegin, lives, is_born, calls_back, is_clicked, labels_at, layout, Parameters, one_more, no_more, is_blank, is_fresh, is_given, set_component}
use Rattle.app_machine.specs.Run.{Run, frame_of, passes, no_body, begins, start_world, starts, then}
use Rattle.machine_witness.specs.Apps.{main_class, device_class, net_class, on_create, step, one_class}
use Rattle.machine_witness.specs.Flows.{box_lists, box_class, own_box, own_box_class, add, first_class, on_number, on_told, on_given, callback_of, created_by, handler, tap, with_id, and_post, by_callback, by_click, by_fresh_parameter, by_handed_parameter, by_application, ArrivesAt, FlowsFromEventToEvent, Scene, activity_of}
use Rattle.machine_witness.proofs.Flowing.{by_take, by_new, by_get, by_get_static, by_put_static, by_end, by_id, by_post, Knows, knows, the_label}
use Rattle.machine_witness.proofs.Boxing.{by_add}
use Rattle.machine_witness.proofs.Beginning.{made, made_run, created_run}
use Rattle.machine_witness.proofs.Arriving.{arrives_at}

-- the values of an event's body: the activity, and the parameter
abbrev values : Value → ℕ → Value
values v i = cond (i == 0) (object_at (Some 0)) v

abbrev at_handler : MethodRef → List Step → Value → ℕ → Value
at_handler at steps v = entered (handler at steps) (map (values v) (layout at.proto.params))

-- An event begins the second method on the activity.
module _ (s : Scene) {w : World} (run : Run (activity_of s) box_lists w []) where
  by_callback_of : (q : ℕ) (at : MethodRef) (sources : List (ℕ × ℕ)) (steps : List Step) (v : Value) (heap : List Object) → CallbackAt (activity_of s) box_lists 0 q sources 1 → (w.components 0).state ≢ 0 → HasCode (activity_of s) 1 (handler at steps)
      → values v 0 ≡ record { place = (w.components 0).place; labels = labels_at sources 0 } → Parameters (activity_of s) box_lists w.handed sources (values v) 1 at.proto.params w.heap heap
      → Run (activity_of s) box_lists (record w { heap = heap }) (frame_of 1 (handler at steps) (map (values v) (layout at.proto.params)) false ∷ [])
  by_callback_of q at sources steps v heap here alive code receiver parameters = then run (begins (calls_back here alive) code receiver parameters)

  by_click_of : (at : MethodRef) (steps : List Step) (v : Value) (heap : List Object) → ClickAt (activity_of s) 0 0 1 → (w.components 0).state ≢ 0 → HasCode (activity_of s) 1 (handler at steps)
      → values v 0 ≡ record { place = (w.components 0).place; labels = [] } → Parameters (activity_of s) box_lists w.handed [] (values v) 1 at.proto.params w.heap heap
      → Run (activity_of s) box_lists (record w { heap = heap }) (frame_of 1 (handler at steps) (map (values v) (layout at.proto.params)) false ∷ [])
  by_click_of at steps v heap here alive code receiver parameters = then run (begins (is_clicked here alive) code receiver parameters)

not_zero : (n : ℕ) → suc n ≢ 0
not_zero n e = let none : ⊥ = omega arith in none

-- a callback that brings a number
number_code : HasCode (activity_of by_callback) 1 (handler on_number (and_post 0 2))
unfolding activity_of
number_code = record { there = refl; code = refl }

number_comes : CallbackAt (activity_of by_callback) box_lists 0 0 ((1, 0) ∷ []) 1
unfolding activity_of box_lists class_named find_body method_of up
number_comes = record { component = record { kind = Activity; class = main_class }; callback = callback_of on_number ((1, 0) ∷ []); there = record { there = refl }; is_row = record { there = refl }; same_sources = refl; is_below = of_class (is_through one_class refl (inl refl) is_same); is_body = refl }

callback : ArrivesAt (activity_of by_callback) 1 0
unfolding activity_of step_at body_named method_with up layout is_wide
callback =
    let told = by_callback_of by_callback (made_run by_callback refl) 0 on_number ((1, 0) ∷ []) (and_post 0 2) the_label (new_object main_class ∷ []) number_comes (not_zero 0) number_code refl (one_more is_blank no_more) in
    arrives_at (by_post told (knows by_callback) 2 1 refl refl) (inl refl)

-- a click, after `onCreate` put the label into the static
tap_code : HasCode (activity_of by_click) 1 (handler tap (step 0 (GetStatic (0 ∷ []) 0) (1 ∷ []) ∷ and_post 1 0))
unfolding activity_of
tap_code = record { there = refl; code = refl }

tap_comes : ClickAt (activity_of by_click) 0 0 1
unfolding activity_of body_named method_with up descriptor_of click_descriptor
tap_comes = record { component = record { kind = Activity; class = main_class }; name = codes "tap"; there = record { there = refl }; is_click = record { there = refl }; is_activity = refl; is_body = refl }

click : ArrivesAt (activity_of by_click) 1 1
unfolding activity_of box_lists static_source listed_static step_at body_named method_with up layout is_wide
click =
    let kept = by_end (by_put_static (by_take (by_id (created_run by_click refl) (knows by_click) 1 refl) (0 ∷ []) 2 refl) 0 0 3 refl) refl in
    let tapped = by_click_of by_click kept tap (step 0 (GetStatic (0 ∷ []) 0) (1 ∷ []) ∷ and_post 1 0) blank (new_object main_class ∷ []) tap_comes (not_zero 1) tap_code refl (one_more is_blank no_more) in
    arrives_at (by_post (by_get_static tapped 0 0 1 refl) (knows by_click) 0 2 refl refl) (inl refl)

-- a callback that brings a fresh box: it holds its label as an element
told_code : HasCode (activity_of by_fresh_parameter) 1 (handler on_told (step 0 (Get (0 ∷ []) 2 elem_key) (1 ∷ []) ∷ and_post 1 0))
unfolding activity_of
told_code = record { there = refl; code = refl }

told_comes : CallbackAt (activity_of by_fresh_parameter) box_lists 0 1 ((1, 0) ∷ []) 1
unfolding activity_of box_lists class_named find_body method_of up
told_comes = record { component = record { kind = Activity; class = main_class }; callback = callback_of on_told ((1, 0) ∷ []); there = record { there = refl }; is_row = record { there = refl }; same_sources = refl; is_below = of_class (is_through one_class refl (inl refl) is_same); is_body = refl }

box_is_reference : IsTrue (is_reference box_class)
unfolding is_reference
box_is_reference = refl

fresh_parameter : ArrivesAt (activity_of by_fresh_parameter) 1 1
unfolding activity_of step_at body_named method_with up layout is_wide
fresh_parameter =
    let told = by_callback_of by_fresh_parameter (made_run by_fresh_parameter refl) 1 on_told ((1, 0) ∷ []) (step 0 (Get (0 ∷ []) 2 elem_key) (1 ∷ []) ∷ and_post 1 0) (record { place = Some 1; labels = 0 ∷ [] }) (new_object main_class ∷ record { class = box_class; entries = (elem_key, the_label) ∷ [] } ∷ []) told_comes (not_zero 0) told_code refl (one_more (is_fresh box_is_reference) no_more) in
    arrives_at (by_post (by_get told 0 2 elem_key the_label 1 refl (entry_of refl (inl refl))) (knows by_fresh_parameter) 0 2 refl refl) (inl refl)

-- a callback that brings back a box which was handed
given_code : HasCode (activity_of by_handed_parameter) 1 (handler on_given (step 0 (Get (0 ∷ []) 2 elem_key) (1 ∷ []) ∷ and_post 1 0))
unfolding activity_of
given_code = record { there = refl; code = refl }

given_comes : CallbackAt (activity_of by_handed_parameter) box_lists 0 2 [] 1
unfolding activity_of box_lists class_named find_body method_of up
given_comes = record { component = record { kind = Activity; class = main_class }; callback = callback_of on_given []; there = record { there = refl }; is_row = record { there = refl }; same_sources = refl; is_below = of_class (is_through one_class refl (inl refl) is_same); is_body = refl }

own_is_box : Below (activity_of by_handed_parameter) box_lists own_box box_class
unfolding activity_of class_named
own_is_box = of_class (is_through own_box_class refl (inl refl) is_same)

handed_parameter : ArrivesAt (activity_of by_handed_parameter) 1 1
unfolding activity_of step_at body_named method_with up layout is_wide
handed_parameter =
    let boxed = by_new (by_take (by_id (created_run by_handed_parameter refl) (knows by_handed_parameter) 1 refl) (0 ∷ []) 2 refl) 1 own_box 3 refl in
    let handed = by_end (by_add by_handed_parameter boxed 1 0 1 (step 3 (Call Static add (1 ∷ 0 ∷ [])) (4 ∷ [])) 4 refl refl refl refl (inl refl)) refl in
    let given = by_callback_of by_handed_parameter handed 2 on_given [] (step 0 (Get (0 ∷ []) 2 elem_key) (1 ∷ []) ∷ and_post 1 0) (object_at (Some 1)) (new_object main_class ∷ record { class = own_box; entries = (elem_key, the_label) ∷ [] } ∷ []) given_comes (not_zero 1) given_code refl (one_more (is_given box_is_reference (inl refl) refl own_is_box) no_more) in
    arrives_at (by_post (by_get given 0 2 elem_key the_label 1 refl (entry_of refl (inl refl))) (knows by_handed_parameter) 0 2 refl refl) (inl refl)

-- The application is made and created, and then the activity.
app_created : LifeEvent
app_created = record { from = 1; name = codes "onCreate"; descriptor = codes "()V"; to = 2 }

created_activity : LifeEvent
created_activity = record { from = 1; name = codes "onCreate"; descriptor = codes "(Landroid/os/Bundle;)V"; to = 2 }

app_made_at : LifeEventAt by_application 0 0 first_class made None
unfolding by_application life_events body_named method_with up descriptor_of
app_made_at = record { component = record { kind = Application; class = first_class }; there = record { there = refl }; of_class = refl; is_event = record { there = refl }; is_body = refl }

app_created_at : LifeEventAt by_application 0 1 first_class app_created (Some 0)
unfolding by_application life_events body_named method_with up descriptor_of app_created
app_created_at = record { component = record { kind = Application; class = first_class }; there = record { there = refl }; of_class = refl; is_event = record { there = refl }; is_body = refl }

activity_made_at : LifeEventAt by_application 1 0 main_class made None
unfolding by_application life_events body_named method_with up descriptor_of
activity_made_at = record { component = record { kind = Activity; class = main_class }; there = record { there = refl }; of_class = refl; is_event = record { there = refl }; is_body = refl }

activity_created_at : LifeEventAt by_application 1 1 main_class created_activity (Some 1)
unfolding by_application life_events body_named method_with up descriptor_of created_activity
activity_created_at = record { component = record { kind = Activity; class = main_class }; there = record { there = refl }; of_class = refl; is_event = record { there = refl }; is_body = refl }

the_application : (a : ℕ) → IsApplication by_application a → a ≡ 0
unfolding by_application
the_application zero is = refl
the_application (suc zero) is = let same = is.there.there in let kind = is.kind in let none : ⊥ = cc in absurd none
the_application (suc (suc a)) is = let same = is.there.there in let none : ⊥ = cc in absurd none

application_knows : Knows by_application box_lists
unfolding by_application box_lists target find_body up method_of is_by_receiver library_key summary row_walk library_classes class_named listed_above listed_class row_of is_array
application_knows = record {
  id_used = λ heap f. record { class = device_class; goes = by_name refl refl; key = Row 0; is_key = refl; is_row = refl; plain = refl };
  post_used = λ heap f x. record { class = net_class; goes = by_name refl refl; key = Row 1; is_key = refl; is_row = refl; plain = refl };
}

abbrev app_body : Method
app_body = record { at = record { class = first_class; name = codes "onCreate"; proto = record { params = []; ret = codes "V" } }; is_static = false; is_native = false; registers = 2; ins = 1; steps = with_id (step 2 (PutStatic 0 0) (3 ∷ []) ∷ step 3 (Return None) [] ∷ []) }

abbrev main_body : Method
main_body = created_by (step 0 (GetStatic (0 ∷ []) 0) (1 ∷ []) ∷ and_post 1 0)

app_code : HasCode by_application 0 app_body
unfolding by_application
app_code = record { there = refl; code = refl }

main_code : HasCode by_application 1 main_body
unfolding by_application
main_code = record { there = refl; code = refl }

app_begins : Run by_application box_lists (record start_world { heap = new_object first_class ∷ []; components = set_component (set_component start_world.components 0 (record { state = 1; place = Some 0 })) 0 (record { state = 2; place = Some 0 }) }) (frame_of 0 app_body (map (values blank) (layout [])) false ∷ [])
unfolding app_created
app_begins =
    let born = then starts (passes (is_born app_made_at refl refl (λ a is. inl (the_application a is))) no_body) in
    then born (begins (lives app_created_at refl (not_zero 0)) app_code refl no_more)

application_done : (w : World) → (w.components 0).state ≡ 2 → MayBegin by_application w 1
application_done w e a is = inr (subst (λ x. (w.components x).state ≡ 2) (sym (the_application a is)) e)

module _ {w : World} (run : Run by_application box_lists w []) where
  activity_born : (w.components 0).state ≡ 2 → (w.components 1).state ≡ 0
      → Run by_application box_lists (record w { heap = w.heap ++ new_object main_class ∷ []; components = set_component w.components 1 (record { state = 1; place = Some (length w.heap) }) }) []
  activity_born first absent = then run (passes (is_born activity_made_at absent refl (application_done w first)) no_body)

  activity_begins : (v : Value) → (w.components 1).state ≡ 1 → v ≡ object_at (w.components 1).place
      → Run by_application box_lists (record w { components = set_component w.components 1 (record { state = 2; place = (w.components 1).place }) }) (frame_of 1 main_body (map (λ (i : ℕ). cond (i == 0) v blank) (layout on_create.proto.params)) false ∷ [])
  unfolding created_activity
  activity_begins v state receiver = then run (begins (lives activity_created_at state (not_zero 0)) main_code receiver (one_more is_blank no_more))

application : ArrivesAt by_application 1 1
unfolding by_application box_lists static_source listed_static step_at layout is_wide
application =
    let kept = by_end (by_put_static (by_take (by_id app_begins application_knows 1 refl) (0 ∷ []) 2 refl) 0 0 3 refl) refl in
    let begun = activity_begins (activity_born kept refl refl) (object_at (Some 1)) refl refl in
    arrives_at (by_post (by_get_static begun 0 0 1 refl) application_knows 0 2 refl refl) (inl refl)

pub from_event_to_event : FlowsFromEventToEvent
from_event_to_event = record { callback = callback; click = click; fresh_parameter = fresh_parameter; handed_parameter = handed_parameter; application = application }
