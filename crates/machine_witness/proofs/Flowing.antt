-- How a run goes on by each act and library call of the apps with one flow, whatever the app.
use Rattle.std.proofs.Common.{◌≡◌, ℕ, zero, suc, List, [], ◌∷◌, true, false, ◌⊎◌, ◌↔◌, inl, inr, Option, Some, None, refl, ap, sym, ◌∙◌, subst, arith}
use Rattle.std.specs.Prelude.{length, ◌++◌, option_to_list}
use Rattle.vet_base.specs.declared.key_id.KeyId.{KeyId}
use Rattle.app_machine.specs.declared.call.MethodRef.{MethodRef}
use Rattle.app_machine.specs.declared.call.CallKind.TheVariants.{Static}
use Rattle.app_machine.specs.declared.method.Step.{Step}
use Rattle.app_machine.specs.declared.method.Method.{Method}
use Rattle.app_machine.specs.declared.method.Act.TheVariants.{Join, Blank, New, Fill, Get, Put, GetStatic, PutStatic, Call, Return, Throw, TakeResult, TakeException}
use Rattle.app_machine.specs.declared.app.App.{App}
use Rattle.app_machine.specs.declared.lists.Lists.{Lists}
use Rattle.app_machine.specs.declared.summary.Summary.{Summary}
use Rattle.app_machine.specs.declared.lists.SummaryId.TheVariants.{Row}
use Rattle.vet_base.specs.Members.{In}
use Rattle.app_machine.specs.Names.{Name, is_void, is_reference, is_wide, is_array}
use Rattle.app_machine.specs.Lookups.{Body, HasCode, Initialises, elem_key, step_at, target, find_body, up, method_of, class_named, is_by_receiver}
use Rattle.app_machine.specs.Summaries.{static_source, library_key, summary, row_walk, library_classes, listed_above, listed_class, row_of}
use Rattle.app_machine.specs.Heap.{Value, Object, blank, labelled, Reaches, put_to, Gets}
use Rattle.app_machine.specs.State.{result_register, exception_register, write, write_all, Arrival, World, Frame, object_at, new_object}
use Rattle.app_machine.specs.Local.{blanks, takes_result, takes_exception, joins, makes, fills, gets, puts, gets_static, puts_static}
use Rattle.app_machine.specs.Calls.{CallsTo, by_name, is_caught, unwinds}
use Rattle.app_machine.specs.Library.{positions, value_at, AtSink, all_there, of_void, as_labels, Joins, Adds, by_put, by_store, by_copy, CallsLibrary, UsesRow}
use Rattle.app_machine.specs.Run.{Run, frame_of, goes_on, throws, calls, calls_library, returns, initialises, has_initialised, ends, then}
use Rattle.machine_witness.specs.Apps.{device_class, net_class, id, post, step}
use Rattle.machine_witness.specs.Flows.{box_lists, id_row, post_row, Scene, activity_of}
use Rattle.machine_witness.proofs.Acting.{act_of, next_of, own_labels, no_labels, elements}
use Rattle.std.proofs.lemmas.Option.{none-some}

-- Local steps: the frame's step goes on to one pc.
module _ {app : App} {lists : Lists} {w : World} {f : Frame} {fs : List Frame} (run : Run app lists w (f ∷ fs)) where
  pub by_take : (ds : List ℕ) (to : ℕ) → step_at app f.method f.pc ≡ Some (step f.pc (TakeResult ds) (to ∷ []))
      → Run app lists w (record f { pc = to; registers = write_all f.registers ds (f.registers result_register) } ∷ fs)
  by_take ds to e = then run (goes_on (takes_result (act_of _ e) (next_of _ e (inl refl))))

  pub by_exception_of : (d to : ℕ) → step_at app f.method f.pc ≡ Some (step f.pc (TakeException d) (to ∷ []))
      → Run app lists w (record f { pc = to; registers = write f.registers d (f.registers exception_register) } ∷ fs)
  by_exception_of d to e = then run (goes_on (takes_exception (act_of _ e) (next_of _ e (inl refl))))

  pub by_blank : (ds : List ℕ) (to : ℕ) → step_at app f.method f.pc ≡ Some (step f.pc (Blank ds) (to ∷ []))
      → Run app lists w (record f { pc = to; registers = write_all f.registers ds blank } ∷ fs)
  by_blank ds to e = then run (goes_on (blanks (act_of _ e) (next_of _ e (inl refl))))

  pub by_new : (d : ℕ) (class : Name) (to : ℕ) → step_at app f.method f.pc ≡ Some (step f.pc (New d class None) (to ∷ []))
      → Run app lists (record w { heap = w.heap ++ new_object class ∷ [] }) (record f { pc = to; registers = write f.registers d (object_at (Some (length w.heap))) } ∷ fs)
  by_new d class to e = then run (goes_on (makes [] (act_of _ e) (next_of _ e (inl refl)) (no_labels f)))

  pub by_sized : (d : ℕ) (class : Name) (x to : ℕ) → step_at app f.method f.pc ≡ Some (step f.pc (New d class (Some x)) (to ∷ []))
      → Run app lists (record w { heap = w.heap ++ new_object class ∷ [] }) (record f { pc = to; registers = write f.registers d (record { place = Some (length w.heap); labels = (f.registers x).labels }) } ∷ fs)
  by_sized d class x to e = then run (goes_on (makes (f.registers x).labels (act_of _ e) (next_of _ e (inl refl)) (own_labels f x)))

  pub by_join : (d x to : ℕ) → step_at app f.method f.pc ≡ Some (step f.pc (Join (d ∷ []) (x ∷ [])) (to ∷ []))
      → Run app lists w (record f { pc = to; registers = write_all f.registers (d ∷ []) (labelled (f.registers x).labels) } ∷ fs)
  by_join d x to e = then run (goes_on (joins (f.registers x).labels (act_of _ e) (next_of _ e (inl refl)) (own_labels f x)))

  pub by_get : (d o : ℕ) (k : KeyId) (v : Value) (to : ℕ) → step_at app f.method f.pc ≡ Some (step f.pc (Get (d ∷ []) o k) (to ∷ [])) → Gets w.heap (f.registers o) k v
      → Run app lists w (record f { pc = to; registers = write_all f.registers (d ∷ []) v } ∷ fs)
  by_get d o k v to e found = then run (goes_on (gets (act_of _ e) (next_of _ e (inl refl)) found))

  pub by_put_of : (o : ℕ) (k : KeyId) (x to : ℕ) → step_at app f.method f.pc ≡ Some (step f.pc (Put o k x) (to ∷ []))
      → Run app lists (record w { heap = put_to w.heap (f.registers o).place k (f.registers x) }) (record f { pc = to } ∷ fs)
  by_put_of o k x to e = then run (goes_on (puts (act_of _ e) (next_of _ e (inl refl))))

  pub by_get_static : (d g to : ℕ) → step_at app f.method f.pc ≡ Some (step f.pc (GetStatic (d ∷ []) g) (to ∷ []))
      → Run app lists w (record f { pc = to; registers = write_all f.registers (d ∷ []) (record { place = (w.statics g).place; labels = option_to_list (static_source app lists g) ++ (w.statics g).labels }) } ∷ fs)
  by_get_static d g to e = then run (goes_on (gets_static (act_of _ e) (next_of _ e (inl refl))))

  pub by_put_static : (g x to : ℕ) → step_at app f.method f.pc ≡ Some (step f.pc (PutStatic g x) (to ∷ []))
      → Run app lists (record w { statics = write w.statics g (f.registers x) }) (record f { pc = to } ∷ fs)
  by_put_static g x to e = then run (goes_on (puts_static (act_of _ e) (next_of _ e (inl refl))))

  pub by_fill : (x : ℕ) (class : Name) (to : ℕ) → step_at app f.method f.pc ≡ Some (step f.pc (Fill (x ∷ []) class) (to ∷ []))
      → Run app lists (record w { heap = w.heap ++ record { class = class; entries = (elem_key, f.registers x) ∷ [] } ∷ [] }) (record f { pc = to; registers = write f.registers result_register (object_at (Some (length w.heap))) } ∷ fs)
  by_fill x class to e = then run (goes_on (fills ((elem_key, f.registers x) ∷ []) (act_of _ e) (next_of _ e (inl refl)) (elements f x)))

  -- a method of the app without arguments is entered, and an initialiser
  pub by_call : (s : Step) (at : MethodRef) (body : ℕ) (m : Method) → step_at app f.method f.pc ≡ Some s → s.act ≡ Call Static at [] → CallsTo app w.heap f Static at [] (Body body) → HasCode app body m
      → Run app lists w (frame_of body m [] false ∷ f ∷ fs)
  by_call s at body m e same to code = then run (calls (record { step = s; there = e; same = same }) to code)

  pub by_initialiser_of : (body : ℕ) (m : Method) → Initialises app f.method f.pc body → HasCode app body m → Run app lists w (frame_of body m [] true ∷ f ∷ fs)
  by_initialiser_of body m is_one code = then run (initialises is_one code)

-- The running frame is left: a value is returned or thrown to the frame below, or an initialiser ends.
module _ {app : App} {lists : Lists} {w : World} {f g : Frame} {fs : List Frame} (run : Run app lists w (f ∷ g ∷ fs)) where
  pub by_return : (x : ℕ) (s : Step) (to : ℕ) → f.initialises ≡ false → step_at app f.method f.pc ≡ Some (step f.pc (Return (Some x)) []) → step_at app g.method g.pc ≡ Some s → In to s.next
      → Run app lists w (record g { pc = to; registers = write g.registers result_register (f.registers x) } ∷ fs)
  by_return x s to plain e below next = then run (returns plain (act_of _ e) (next_of s below next))

  pub by_throw : (x : ℕ) (s : Step) (to : ℕ) → step_at app f.method f.pc ≡ Some (step f.pc (Throw x) []) → step_at app g.method g.pc ≡ Some s → In to s.catches
      → Run app lists w (record g { pc = to; registers = write g.registers exception_register (f.registers x) } ∷ fs)
  by_throw x s to e below catch = then run (throws (act_of _ e) (unwinds (is_caught (record { step = s; there = below; catch = catch }))))

  pub by_initialised : f.initialises ≡ true → step_at app f.method f.pc ≡ Some (step f.pc (Return None) []) → Run app lists w (g ∷ fs)
  by_initialised own e = then run (has_initialised own (act_of _ e))

-- the last frame returns nothing, and the event ends
pub by_end : {app : App} {lists : Lists} {w : World} {f : Frame} → Run app lists w (f ∷ []) → step_at app f.method f.pc ≡ Some (step f.pc (Return None) []) → Run app lists w []
by_end run e = then run (ends (act_of _ e))

-- what a row without a part does not do
pub no_sink : {heap : List Object} {f : Frame} {places : List ℕ} {row : Summary} {a : Arrival} → row.sink ≡ None → AtSink heap f places row a → ⊥
no_sink {a = a} none s = none-some (a.sink, s.is_sink.0) (sym none ∙ s.is_sink.1)

pub same_arrivals : {heap : List Object} {f : Frame} {places : List ℕ} {row : Summary} (arrivals : List Arrival) → row.sink ≡ None → (a : Arrival) → In a arrivals ↔ (In a arrivals ⊎ AtSink heap f places row a)
same_arrivals arrivals none a = (λ h. inl h, elim [ inl h ↦ h | inr s ↦ absurd (no_sink none s) ])

pub no_adds : {app : App} {heap : List Object} {f : Frame} {places : List ℕ} {statics : ℕ → Value} {row : Summary} {a : ℕ × Value} → row.puts ≡ [] → row.stores ≡ [] → row.copies ≡ [] → Adds app heap f places statics row a → ⊥
no_adds no_puts no_stores no_copies (by_put i j h there) = subst (λ x. In (i, j) x) no_puts h
no_adds no_puts no_stores no_copies (by_store i s h there) = subst (λ x. In (i, s) x) no_stores h
no_adds no_puts no_stores no_copies (by_copy i j q h source found there) = subst (λ x. In (i, j) x) no_copies h

-- The calls of the source and of the sink, in an app that has neither class.
pub record Knows (app : App) (lists : Lists) : Type 0 where
  pub id_used : (heap : List Object) (f : Frame) → UsesRow app lists heap f Static id [] id_row
  pub post_used : (heap : List Object) (f : Frame) (x : ℕ) → UsesRow app lists heap f Static post (x ∷ []) post_row

pub knows : (s : Scene) → Knows (activity_of s) box_lists
unfolding activity_of box_lists target find_body up method_of is_by_receiver library_key summary row_walk library_classes class_named listed_above listed_class row_of is_array
knows s = record {
  id_used = λ heap f. record { class = device_class; goes = by_name refl refl; key = Row 0; is_key = refl; is_row = refl; plain = refl };
  post_used = λ heap f x. record { class = net_class; goes = by_name refl refl; key = Row 1; is_key = refl; is_row = refl; plain = refl };
}

abbrev pub the_label : Value
the_label = labelled (0 ∷ [])

call_id : (app : App) (lists : Lists) (w : World) (f : Frame) → CallsLibrary app lists w f [] id.proto.ret id_row w the_label
unfolding is_void is_reference
call_id app lists w f = record {
  with_shared = w.heap;
  with_result = w.heap;
  added = [];
  handed = λ p. (λ h. inl h, elim [ inl h ↦ h | inr hands ↦ absurd (none-some p hands.place) ]);
  arrivals = same_arrivals w.arrivals refl;
  shared = all_there;
  results = as_labels refl refl (λ l. (label l, joined l));
  adds = λ a. (λ h. absurd h, no_adds refl refl refl);
  heap = refl;
  components = refl;
}
  where
    label : (l : ℕ) → (l ≡ 0) ⊎ ⊥ → Joins w.heap f [] [] (Some 0) l
    label l (inl e) = inl (ap (λ x. Some x) (sym e))
    label l (inr none) = absurd none

    joined : (l : ℕ) → Joins w.heap f [] [] (Some 0) l → (l ≡ 0) ⊎ ⊥
    joined l (inl e) = inl (let same : l ≡ 0 = cc in same)
    joined l (inr h) = absurd h.1

no_positions : positions Static id [] ≡ []
unfolding positions
no_positions = refl

one_position : (x : ℕ) → positions Static post (x ∷ []) ≡ x ∷ []
unfolding positions is_wide
one_position x = refl

abbrev pub arrival_at : Frame → Arrival
arrival_at f = record { label = 0; sink = 1; method = f.method; pc = f.pc }

-- A register with the label alone: it hands nothing, and the label arrives, but no other.
module _ (f : Frame) (x : ℕ) (labels : f.registers x ≡ the_label) where
  no_place : {p : ℕ} → (f.registers x).place ≡ Some p → ⊥
  no_place {p} e = none-some p (ap (λ (v : Value). v.place) (sym labels) ∙ e)

  one_arrives : (heap : List Object) → AtSink heap f (x ∷ []) post_row (arrival_at f)
  one_arrives heap = record { at = 0; is_sink = (0 ∷ [], refl, inl refl); keys = []; walk = subst (λ (v : Value). In 0 v.labels) (sym labels) (inl refl); method = refl; pc = refl }

  its_label : (heap : List Object) (ks : List KeyId) (l at : ℕ) → Reaches heap (value_at f (x ∷ []) at) ks l → at ≡ 0 → l ≡ 0
  its_label heap [] l zero walk e = elim (subst (λ (v : Value). In l v.labels) labels walk) [ inl same ↦ same | inr none ↦ absurd none ]
  its_label heap (k ∷ ks) l zero walk e = absurd (no_place walk.1)
  its_label heap ks l (suc at) walk e = absurd (omega arith)

  first_position : (at : ℕ) (is : List ℕ) → is ≡ 0 ∷ [] → In at is → at ≡ 0
  first_position at is e h = elim (subst (λ xs. In at xs) e h) [ inl first ↦ first | inr none ↦ absurd none ]

  only_arrives : {heap : List Object} (a : Arrival) → AtSink heap f (x ∷ []) post_row a → a ≡ arrival_at f
  only_arrives {heap} a s = same s.at s.is_sink s.keys s.walk
    where
      same : (at : ℕ) → (is : List ℕ) × (◌≡◌ {A = Option (ℕ × List ℕ)} (Some (1, 0 ∷ [])) (Some (a.sink, is))) × In at is → (ks : List KeyId) → Reaches heap (value_at f (x ∷ []) at) ks a.label → a ≡ arrival_at f
      same at (is, e, h) ks walk =
          let pair : ◌≡◌ {A = ℕ × List ℕ} (1, 0 ∷ []) (a.sink, is) = cc in
          let sink : a.sink ≡ 1 = ap (λ (y : ℕ × List ℕ). y.0) (sym pair) in
          let list : is ≡ 0 ∷ [] = ap (λ (y : ℕ × List ℕ). y.1) (sym pair) in
          let label : a.label ≡ 0 = its_label heap ks a.label at walk (first_position at is list h) in
          λ i. record { label = label i; sink = sink i; method = s.method i; pc = s.pc i }

  not_handed : (p at : ℕ) → (value_at f (x ∷ []) at).place ≡ Some p → ⊥
  not_handed p zero e = no_place e
  not_handed p (suc at) e = none-some p e

  call_post : (app : App) (lists : Lists) (w : World) → CallsLibrary app lists w f (x ∷ []) post.proto.ret post_row (record w { arrivals = arrival_at f ∷ w.arrivals }) blank
  unfolding is_void
  call_post app lists w = record {
    with_shared = w.heap;
    with_result = w.heap;
    added = [];
    handed = λ p. (λ h. inl h, elim [ inl h ↦ h | inr hands ↦ absurd (not_handed p hands.at hands.place) ]);
    arrivals = λ a. (elim [ inl e ↦ inr (subst (λ y. AtSink w.heap f (x ∷ []) post_row y) (sym e) (one_arrives w.heap)) | inr h ↦ inl h ], elim [ inl h ↦ inr h | inr s ↦ inl (only_arrives a s) ]);
    shared = all_there;
    results = of_void refl;
    adds = λ a. (λ h. absurd h, no_adds refl refl refl);
    heap = refl;
    components = refl;
  }

-- A blank register brings nothing to the sink.
module _ (f : Frame) (x : ℕ) (empty : f.registers x ≡ blank) where
  no_place_in : (p at : ℕ) → (value_at f (x ∷ []) at).place ≡ Some p → ⊥
  no_place_in p zero e = none-some p (ap (λ (v : Value). v.place) (sym empty) ∙ e)
  no_place_in p (suc at) e = none-some p e

  nothing_reached : (heap : List Object) (ks : List KeyId) (l at : ℕ) → Reaches heap (value_at f (x ∷ []) at) ks l → ⊥
  nothing_reached heap [] l zero walk = subst (λ (v : Value). In l v.labels) empty walk
  nothing_reached heap [] l (suc at) walk = walk
  nothing_reached heap (k ∷ ks) l at walk = no_place_in walk.0 at walk.1

  call_post_of_blank : (app : App) (lists : Lists) (w : World) → CallsLibrary app lists w f (x ∷ []) post.proto.ret post_row w blank
  unfolding is_void
  call_post_of_blank app lists w = record {
    with_shared = w.heap;
    with_result = w.heap;
    added = [];
    handed = λ p. (λ h. inl h, elim [ inl h ↦ h | inr hands ↦ absurd (no_place_in p hands.at hands.place) ]);
    arrivals = λ a. (λ h. inl h, elim [ inl h ↦ h | inr s ↦ absurd (nothing_reached w.heap s.keys a.label s.at s.walk) ]);
    shared = all_there;
    results = of_void refl;
    adds = λ a. (λ h. absurd h, no_adds refl refl refl);
    heap = refl;
    components = refl;
  }

module _ {app : App} {lists : Lists} {w : World} {f : Frame} {fs : List Frame} (run : Run app lists w (f ∷ fs)) (known : Knows app lists) where
  pub by_id : (to : ℕ) → step_at app f.method f.pc ≡ Some (step f.pc (Call Static id []) (to ∷ []))
      → Run app lists w (record f { pc = to; registers = write f.registers result_register the_label } ∷ fs)
  by_id to e = then run (calls_library (act_of _ e) (next_of _ e (inl refl)) (known.id_used w.heap f) (subst (λ places. CallsLibrary app lists w f places id.proto.ret id_row w the_label) (sym no_positions) (call_id app lists w f)))

  pub by_post : (x to : ℕ) → step_at app f.method f.pc ≡ Some (step f.pc (Call Static post (x ∷ [])) (to ∷ [])) → f.registers x ≡ the_label
      → Run app lists (record w { arrivals = arrival_at f ∷ w.arrivals }) (record f { pc = to; registers = write f.registers result_register blank } ∷ fs)
  by_post x to e labels = then run (calls_library (act_of _ e) (next_of _ e (inl refl)) (known.post_used w.heap f x) (subst (λ places. CallsLibrary app lists w f places post.proto.ret post_row (record w { arrivals = arrival_at f ∷ w.arrivals }) blank) (sym (one_position x)) (call_post f x labels app lists w)))

  pub by_post_of_blank : (x to : ℕ) → step_at app f.method f.pc ≡ Some (step f.pc (Call Static post (x ∷ [])) (to ∷ [])) → f.registers x ≡ blank
      → Run app lists w (record f { pc = to; registers = write f.registers result_register blank } ∷ fs)
  by_post_of_blank x to e empty = then run (calls_library (act_of _ e) (next_of _ e (inl refl)) (known.post_used w.heap f x) (subst (λ places. CallsLibrary app lists w f places post.proto.ret post_row w blank) (sym (one_position x)) (call_post_of_blank f x empty app lists w)))
