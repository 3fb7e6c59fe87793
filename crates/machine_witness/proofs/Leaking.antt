-- A run of the small app that leaks: the activity is made and created, and its `onCreate` posts the id.
use Rattle.std.proofs.Common.{◌≡◌, ◌==◌, ℕ, zero, suc, List, [], ◌∷◌, true, false, cond, ◌⊎◌, inl, inr, Option, Some, None, refl, ap, sym, subst, arith}
use Rattle.std.specs.Prelude.{codes, map}
use Rattle.vet_base.specs.declared.key_id.KeyId.{KeyId}
use Rattle.app_machine.specs.declared.call.CallKind.TheVariants.{Static}
use Rattle.app_machine.specs.declared.method.Method.{Method}
use Rattle.app_machine.specs.declared.method.Act.TheVariants.{Call, TakeResult}
use Rattle.app_machine.specs.declared.component.Kind.TheVariants.{Activity}
use Rattle.app_machine.specs.declared.summary.Gives.TheVariants.{Joined, Blank}
use Rattle.app_machine.specs.declared.summary.Summary.{Summary}
use Rattle.app_machine.specs.declared.lists.SummaryId.TheVariants.{Row}
use Rattle.vet_base.specs.Members.{In}
use Rattle.app_machine.specs.Names.{is_void, is_reference, is_wide, is_array, descriptor_of}
use Rattle.app_machine.specs.Lookups.{ActAt, Goes, HasCode, step_at, target, find_body, up, method_of, method_with, body_named, class_named, is_by_receiver}
use Rattle.app_machine.specs.Summaries.{library_key, summary, row_walk, library_classes, listed_above, listed_class, row_of}
use Rattle.app_machine.specs.Heap.{Value, Object, blank, labelled, Reaches}
use Rattle.app_machine.specs.State.{result_register, write, write_all, Arrival, World, Frame, entered, object_at, new_object}
use Rattle.app_machine.specs.Local.{takes_result}
use Rattle.app_machine.specs.Calls.{by_name}
use Rattle.app_machine.specs.Library.{positions, value_at, AtSink, all_there, of_void, as_labels, Adds, by_put, by_store, by_copy, CallsLibrary, UsesRow}
use Rattle.app_machine.specs.LifeEvents.{LifeEvent, life_events}
use Rattle.app_machine.specs.Events.{IsApplication, LifeEventAt, lives, is_born, set_component, layout, one_more, no_more, is_blank}
use Rattle.app_machine.specs.Run.{Steps, goes_on, calls_library, passes, no_body, begins, start_world, starts, then}
use Rattle.machine_witness.specs.Apps.{main_class, device_class, net_class, on_create, id, post, step, leaking_steps, leaking_app, small_lists, Leaks}
use Rattle.std.proofs.lemmas.Option.{none-some}

-- the two events
made : LifeEvent
made = record { from = 0; name = codes "<init>"; descriptor = codes "()V"; to = 1 }

created : LifeEvent
created = record { from = 1; name = codes "onCreate"; descriptor = codes "(Landroid/os/Bundle;)V"; to = 2 }

is_made : LifeEventAt leaking_app 0 0 main_class made None
unfolding leaking_app life_events body_named method_with up descriptor_of made
is_made = record { component = record { kind = Activity; class = main_class }; there = record { there = refl }; of_class = refl; is_event = record { there = refl }; is_body = refl }

is_created : LifeEventAt leaking_app 0 1 main_class created (Some 0)
unfolding leaking_app life_events body_named method_with up descriptor_of created
is_created = record { component = record { kind = Activity; class = main_class }; there = record { there = refl }; of_class = refl; is_event = record { there = refl }; is_body = refl }

no_application : (a : ℕ) → IsApplication leaking_app a → ⊥
unfolding leaking_app
no_application zero is = let same = is.there.there in let kind = is.kind in let none : ⊥ = cc in none
no_application (suc a) is = let same = is.there.there in let none : ⊥ = cc in none

-- the worlds in which the activity is made, and created
abbrev world_made : World
world_made = record start_world { heap = new_object main_class ∷ []; components = set_component start_world.components 0 (record { state = 1; place = Some 0 }) }

abbrev world_created : World
world_created = record world_made { components = set_component world_made.components 0 (record { state = 2; place = Some 0 }) }

first_step : Steps leaking_app small_lists start_world [] world_made []
unfolding made
first_step = passes (is_born is_made refl refl (λ a is. absurd (no_application a is))) no_body

-- the body and its frame
abbrev body : Method
body = record { at = on_create; is_static = false; is_native = false; registers = 3; ins = 2; steps = leaking_steps }

has_code : HasCode leaking_app 0 body
unfolding leaking_app
has_code = record { there = refl; code = refl }

abbrev value : ℕ → Value
value i = cond (i == 0) (object_at (Some 0)) blank

abbrev frame_at : ℕ → (ℕ → Value) → Frame
frame_at pc registers = record { method = 0; pc = pc; registers = registers; initialises = false }

abbrev at_entry : ℕ → Value
at_entry = entered body (map value (layout on_create.proto.params))

second_step : Steps leaking_app small_lists world_made [] world_created (frame_at 0 at_entry ∷ [])
unfolding created
second_step = begins (lives is_created refl (λ e. let none : ⊥ = omega arith in none)) has_code refl (one_more is_blank no_more)

-- the call of the source
abbrev pub source_row : Summary
source_row = record { class = device_class; name = codes "id"; proto = id.proto; is_static = true; gives = Joined []; puts = []; stores = []; copies = []; source = Some 0; sink = None; reflective = false }

abbrev pub sink_row : Summary
sink_row = record { class = net_class; name = codes "post"; proto = post.proto; is_static = true; gives = Blank; puts = []; stores = []; copies = []; source = None; sink = Some (1, 0 ∷ []); reflective = false }

at_source : ActAt leaking_app 0 0 (Call Static id [])
unfolding leaking_app step_at
at_source = record { step = _; there = refl; same = refl }

after_source : Goes leaking_app 0 0 3
unfolding leaking_app step_at
after_source = record { step = step 0 (Call Static id []) (3 ∷ []); there = refl; next = inl refl }

uses_source : (heap : List Object) (f : Frame) → UsesRow leaking_app small_lists heap f Static id [] source_row
unfolding leaking_app small_lists target find_body up method_of is_by_receiver library_key summary row_walk library_classes class_named listed_above listed_class row_of is_array
uses_source heap f = record { class = device_class; goes = by_name refl refl; key = Row 0; is_key = refl; is_row = refl; plain = refl }

call_source : (w : World) (f : Frame) → CallsLibrary leaking_app small_lists w f (positions Static id []) id.proto.ret source_row w (labelled (0 ∷ []))
unfolding positions is_void is_reference
call_source w f = record {
  with_shared = w.heap;
  with_result = w.heap;
  added = [];
  handed = λ p. (λ h. inl h, elim [ inl h ↦ h | inr hands ↦ absurd (none-some p hands.place) ]);
  arrivals = λ a. (λ h. inl h, elim [ inl h ↦ h | inr s ↦ let e = s.is_sink.1 in let none : ⊥ = cc in absurd none ]);
  shared = all_there;
  results = as_labels refl refl (λ l. (label l, joined l));
  adds = λ a. (λ h. absurd h, no_adds a);
  heap = refl;
  components = refl;
}
  where
    label : (l : ℕ) → (l ≡ 0) ⊎ ⊥ → (◌≡◌ {A = Option ℕ} (Some 0) (Some l)) ⊎ ((i : ℕ) × In i [] × ((ks : List KeyId) × Reaches w.heap (value_at f [] i) ks l))
    label l (inl e) = inl (ap (λ x. Some x) (sym e))
    label l (inr none) = absurd none

    joined : (l : ℕ) → (◌≡◌ {A = Option ℕ} (Some 0) (Some l)) ⊎ ((i : ℕ) × In i [] × ((ks : List KeyId) × Reaches w.heap (value_at f [] i) ks l)) → (l ≡ 0) ⊎ ⊥
    joined l (inl e) = inl (let same : l ≡ 0 = cc in same)
    joined l (inr h) = absurd h.1

    no_adds : (a : ℕ × Value) → Adds leaking_app w.heap f [] w.statics source_row a → ⊥
    no_adds a (by_put i j h there) = h
    no_adds a (by_store i s h there) = h
    no_adds a (by_copy i j q h source found there) = h

abbrev after_id : ℕ → Value
after_id = write at_entry result_register (labelled (0 ∷ []))

third_step : Steps leaking_app small_lists world_created (frame_at 0 at_entry ∷ []) world_created (frame_at 3 after_id ∷ [])
third_step = calls_library at_source after_source (uses_source world_created.heap (frame_at 0 at_entry)) (call_source world_created (frame_at 0 at_entry))

at_take : ActAt leaking_app 0 3 (TakeResult (0 ∷ []))
unfolding leaking_app step_at
at_take = record { step = _; there = refl; same = refl }

after_take : Goes leaking_app 0 3 4
unfolding leaking_app step_at
after_take = record { step = step 3 (TakeResult (0 ∷ [])) (4 ∷ []); there = refl; next = inl refl }

abbrev with_label : ℕ → Value
with_label = write_all after_id (0 ∷ []) (after_id result_register)

fourth_step : Steps leaking_app small_lists world_created (frame_at 3 after_id ∷ []) world_created (frame_at 4 with_label ∷ [])
fourth_step = goes_on (takes_result at_take after_take)

-- the call of the sink
at_sink : ActAt leaking_app 0 4 (Call Static post (0 ∷ []))
unfolding leaking_app step_at
at_sink = record { step = _; there = refl; same = refl }

after_sink : Goes leaking_app 0 4 7
unfolding leaking_app step_at
after_sink = record { step = step 4 (Call Static post (0 ∷ [])) (7 ∷ []); there = refl; next = inl refl }

uses_sink : (heap : List Object) (f : Frame) → UsesRow leaking_app small_lists heap f Static post (0 ∷ []) sink_row
unfolding leaking_app small_lists target find_body up method_of is_by_receiver library_key summary row_walk library_classes class_named listed_above listed_class row_of is_array
uses_sink heap f = record { class = net_class; goes = by_name refl refl; key = Row 1; is_key = refl; is_row = refl; plain = refl }

abbrev arrived : Arrival
arrived = record { label = 0; sink = 1; method = 0; pc = 4 }

abbrev world_after : World
world_after = record world_created { arrivals = arrived ∷ [] }

-- the one position is register 0, which holds the label
its_positions : positions Static post (0 ∷ []) ≡ 0 ∷ []
unfolding positions is_wide
its_positions = refl

arrives : AtSink world_created.heap (frame_at 4 with_label) (0 ∷ []) sink_row arrived
arrives = record { at = 0; is_sink = (0 ∷ [], refl, inl refl); keys = []; walk = inl refl; method = refl; pc = refl }

only_arrives : (a : Arrival) → AtSink world_created.heap (frame_at 4 with_label) (0 ∷ []) sink_row a → a ≡ arrived
only_arrives a s = same s.at s.is_sink s.keys s.walk
  where
    the_label : (at : ℕ) → at ≡ 0 → (ks : List KeyId) → Reaches world_created.heap (value_at (frame_at 4 with_label) (0 ∷ []) at) ks a.label → a.label ≡ 0
    the_label zero e [] (inl same) = same
    the_label zero e [] (inr none) = absurd none
    the_label zero e (k ∷ ks) walk = absurd (none-some walk.0 walk.1)
    the_label (suc at) e ks walk = absurd (omega arith)

    position : (at : ℕ) (is : List ℕ) → is ≡ 0 ∷ [] → In at is → at ≡ 0
    position at is e h = elim (subst (λ x. In at x) e h) [ inl first ↦ first | inr none ↦ absurd none ]

    same : (at : ℕ) → (is : List ℕ) × (◌≡◌ {A = Option (ℕ × List ℕ)} (Some (1, 0 ∷ [])) (Some (a.sink, is))) × In at is → (ks : List KeyId) → Reaches world_created.heap (value_at (frame_at 4 with_label) (0 ∷ []) at) ks a.label → a ≡ arrived
    same at (is, e, h) ks walk =
        let pair : ◌≡◌ {A = ℕ × List ℕ} (1, 0 ∷ []) (a.sink, is) = cc in
        let sink : a.sink ≡ 1 = ap (λ (x : ℕ × List ℕ). x.0) (sym pair) in
        let list : is ≡ 0 ∷ [] = ap (λ (x : ℕ × List ℕ). x.1) (sym pair) in
        let label : a.label ≡ 0 = the_label at (position at is list h) ks walk in
        λ i. record { label = label i; sink = sink i; method = s.method i; pc = s.pc i }

call_sink : CallsLibrary leaking_app small_lists world_created (frame_at 4 with_label) (0 ∷ []) post.proto.ret sink_row world_after blank
unfolding is_void
call_sink = record {
  with_shared = world_created.heap;
  with_result = world_created.heap;
  added = [];
  handed = λ p. (λ h. inl h, elim [ inl h ↦ h | inr hands ↦ not_handed p hands.at hands.place ]);
  arrivals = λ a. (elim [ inl e ↦ inr (subst (λ x. AtSink world_created.heap (frame_at 4 with_label) (0 ∷ []) sink_row x) (sym e) arrives) | inr none ↦ absurd none ], elim [ inl none ↦ absurd none | inr s ↦ inl (only_arrives a s) ]);
  shared = all_there;
  results = of_void refl;
  adds = λ a. (λ h. absurd h, no_adds a);
  heap = refl;
  components = refl;
}
  where
    not_handed : {A : Type 0} (p at : ℕ) → (value_at (frame_at 4 with_label) (0 ∷ []) at).place ≡ Some p → A
    not_handed p zero e = absurd (none-some p e)
    not_handed p (suc at) e = absurd (none-some p e)

    no_adds : (a : ℕ × Value) → Adds leaking_app world_created.heap (frame_at 4 with_label) (0 ∷ []) world_created.statics sink_row a → ⊥
    no_adds a (by_put i j h there) = h
    no_adds a (by_store i s h there) = h
    no_adds a (by_copy i j q h source found there) = h

fifth_step : Steps leaking_app small_lists world_created (frame_at 4 with_label ∷ []) world_after (frame_at 7 (write with_label result_register blank) ∷ [])
fifth_step = calls_library at_sink after_sink (uses_sink world_created.heap (frame_at 4 with_label)) (subst (λ places. CallsLibrary leaking_app small_lists world_created (frame_at 4 with_label) places post.proto.ret sink_row world_after blank) (sym its_positions) call_sink)

pub leaks : Leaks
leaks = record {
  world = world_after;
  frames = frame_at 7 (write with_label result_register blank) ∷ [];
  run = then (then (then (then (then starts first_step) second_step) third_step) fourth_step) fifth_step;
  arrives = inl refl;
}
