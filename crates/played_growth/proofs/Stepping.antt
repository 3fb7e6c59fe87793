-- Whatever a step draws, the world grows.
use Rattle.std.proofs.Common.{◌≡◌, ◌==◌, ◌⊎◌, inl, inr, ℕ, ◌+◌, Bool, true, false, cond, List, [], ◌∷◌, ◌++◌, map, length, Option, Some, None, slice_get, refl, sym, ap, subst}
use Rattle.std.specs.Prelude.{◌%◌, filter, flat_map, option_to_list}
use Rattle.std.proofs.lemmas.Option.{none-some, same_Some}
use Rattle.vet_base.specs.Members.{In}
use Rattle.vet_base.proofs.Members.{in_either, in_slice_get, from_flat, from_filter_map, from_map}
use Rattle.app_machine.specs.declared.app.App.{App}
use Rattle.app_machine.specs.declared.call.CallKind.{CallKind}
use Rattle.app_machine.specs.declared.call.MethodRef.{MethodRef}
use Rattle.app_machine.specs.declared.lists.Lists.{Lists}
use Rattle.app_machine.specs.declared.method.Act.{Act}
use Rattle.app_machine.specs.declared.method.Act.TheVariants.{Skip, Join, Move, Blank, New, Fill, Get, Put, GetStatic, PutStatic, Call, Return, Throw, TakeResult, TakeException, Go}
use Rattle.app_machine.specs.declared.method.Method.{Method}
use Rattle.app_machine.specs.declared.method.Step.{Step}
use Rattle.app_machine.specs.declared.summary.Gives.{Gives}
use Rattle.app_machine.specs.declared.summary.Gives.TheVariants as gives
use Rattle.app_machine.specs.declared.summary.Summary.{Summary}
use Rattle.app_machine.specs.Calls.{returned, hand}
use Rattle.app_machine.specs.Events.{labels_at}
use Rattle.app_machine.specs.Heap.{Value, Object, blank, labelled, put_to, add_all}
use Rattle.app_machine.specs.Library.{joined_object, positions, shared_class, shared_named, value_at}
use Rattle.app_machine.specs.LifeEvents.{LifeEvent}
use Rattle.app_machine.specs.Lookups.{Target, Body, Library, Nothing, elem_key, step_at}
use Rattle.app_machine.specs.Names.{Name, is_reference, is_void}
use Rattle.app_machine.specs.State.{World, Frame, new_object, object_at, result_register, shared_static, write, write_all}
use Rattle.app_machine.specs.Summaries.{numbers_from}
use Rattle.app_model.specs.EventBodies.{life_event, component_callback, click, handed_callback}
use Rattle.app_model.specs.Initialisers.{component_initialisers}
use Rattle.played_alike.specs.Alike.{AlikeWorld}
use Rattle.played_machine.specs.Calling.{code_of, call_target, called_row}
use Rattle.played_machine.specs.Coming.{Event, Receives, Initialiser, may_begin, lived, born, life_coming, callback_coming, click_coming, life_count, lives, callbacks, clicks, initialisations, component_events, handed_coming, handed_events, events, fresh_object, parameter_values, parameter, parameters, receiver, event_frame, begins_with, initialises_with, begun}
use Rattle.played_machine.specs.Drawing.{Drawing, give, continue, ◌>>=◌, draw, given, one_of}
use Rattle.played_machine.specs.Drawn.{drawn_step}
use Rattle.played_machine.specs.Librarian.{added, after_call, given_back, given_result, hand_all, joined_labels, joined_value, library_call, result, shared_there, with_shared}
use Rattle.played_machine.specs.Local.{Playing, playing, catches_of, elements, next_of, moved, got, local, raised_to, raised, with_object}
use Rattle.played_machine.specs.Reading.{class_at, handed_places, is_of_type}
use Rattle.played_machine.specs.Step as stepping
use Rattle.played_machine.specs.Step.{where_next, acts, resumes, resumes_or_raises, calls_body, calls_row, calls_target, does, enters, initialisers_at, step_there, ways, step}
use Rattle.played_growth.specs.Growth.{Extends, classes_of, Grows}
use Rattle.played_growth.proofs.Growing.{extends_itself, extends_on, extends_same, one_more, classes_put_to, classes_add, hand_extends, grown, stays, grows_on, grows_alike}

-- whatever is drawn has the property
abbrev Draws : {A : Type 0} → (A → Type 0) → Drawing A → Type 0
Draws {A} P d = (bytes : List ℕ) (x : A) (rest : List ℕ) → d bytes ≡ Some (x, rest) → P x

give_has : {A : Type 0} (P : A → Type 0) (x : A) → P x → Draws P (give x)
give_has {A} P x has bytes y rest is = subst P (ap (λ (p : A × List ℕ). p.0) (same_Some (x, bytes) (y, rest) is)) has

follows : {A B : Type 0} (Q : A → Type 0) (P : B → Type 0) (first : Drawing A) (next : A → Drawing B) → Draws Q first → ((x : A) → Q x → Draws P (next x)) → Draws P (first >>= next)
follows {A} {B} Q P first next one others bytes y rest is = by_first (first bytes) refl is
  where
    by_first : (o : Option (A × List ℕ)) → first bytes ≡ o → continue next o ≡ Some (y, rest) → P y
    by_first None e is = absurd (none-some (y, rest) is)
    by_first (Some p) e is = others p.0 (one bytes p.0 p.1 e) p.1 y rest is

-- nothing is asked of what is drawn
abbrev Any : {A : Type 0} → A → Type 0
Any x = Unit {0}

any : {A : Type 0} (d : Drawing A) → Draws Any d
any d bytes x rest is = tt

one_has : {A : Type 0} (P : A → Type 0) (xs : List A) → ((x : A) → In x xs → P x) → Draws P (one_of xs)
unfolding one_of
one_has P xs each [] x rest is = absurd (none-some (x, rest) is)
one_has {A} P xs each (b ∷ bytes) x rest is = by_element (slice_get xs (b % length xs)) refl is
  where
    by_element : (o : Option A) → slice_get xs (b % length xs) ≡ o → given o bytes ≡ Some (x, rest) → P x
    by_element None e is = absurd (none-some (x, rest) is)
    by_element (Some y) e is = subst P (ap (λ (p : A × List ℕ). p.0) (same_Some (y, bytes) (x, rest) is)) (each y (in_slice_get xs (b % length xs) y e))

if_has : {A : Type 0} (P : A → Type 0) (b : Bool) (one other : Drawing A) → Draws P one → Draws P other → Draws P (cond b one other)
if_has P true one other k l = k
if_has P false one other k l = l

-- the world, of a state and of what has one
abbrev In_world : (World → Type 0) → Playing → Type 0
In_world P t = P t.world

abbrev Of_world : {A : Type 0} → (World → Type 0) → World × A → Type 0
Of_world P d = P d.0

-- the heap, of what has one
abbrev Heap_grows : {A : Type 0} → List Object → List Object × A → Type 0
Heap_grows heap d = Extends (classes_of heap) (classes_of d.0)

abbrev Then_heap_grows : {A : Type 0} → List Object → A × List Object → Type 0
Then_heap_grows heap d = Extends (classes_of heap) (classes_of d.1)

-- a world whose heap has grown, and else differs in statics, components and arrivals alone
by_heap : (w u : World) → Extends (classes_of w.heap) (classes_of u.heap) → handed_places u.handed ≡ handed_places w.handed → Grows w u
by_heap w u heap same = grown w u heap (extends_same (handed_places w.handed) (handed_places w.handed) (handed_places u.handed) (extends_itself (handed_places w.handed)) (sym same))

-- instructions
module _ (app : App) (lists : Lists) (w : World) (f : Frame) where
  abbrev Local_grows : World × (ℕ → Value) → Type 0
  Local_grows d = Grows w d.0

  stays_with : (registers : ℕ → Value) → Draws Local_grows (give (w, registers))
  stays_with registers = give_has Local_grows (w, registers) (stays w)

  local_grows : (act : Act) → Draws Local_grows (local app lists w f act)
  unfolding local
  local_grows (Join ds xs) = stays_with _
  local_grows (Move ds x) = stays_with _
  local_grows (Blank ds) = stays_with _
  local_grows (New d class size) = give_has Local_grows _ (by_heap w (with_object w (new_object class)) (one_more w.heap (new_object class)) refl)
  local_grows (Fill xs class) = give_has Local_grows _ (by_heap w (with_object w (record { class = class; entries = elements f xs })) (one_more w.heap (record { class = class; entries = elements f xs })) refl)
  local_grows (Get ds o k) = follows Any Local_grows (got w.heap (f.registers o) k) (λ v. give (w, write_all f.registers ds v)) (any (got w.heap (f.registers o) k)) (λ v h. stays_with (write_all f.registers ds v))
  local_grows (Put o k x) =
      give_has Local_grows _ (by_heap w (record w { heap = put_to w.heap (f.registers o).place k (f.registers x) })
      (extends_same (classes_of w.heap) (classes_of w.heap) (classes_of (put_to w.heap (f.registers o).place k (f.registers x))) (extends_itself (classes_of w.heap)) (sym (classes_put_to w.heap (f.registers o).place k (f.registers x)))) refl)
  local_grows (GetStatic ds g) = stays_with _
  local_grows (PutStatic g x) = give_has Local_grows _ (by_heap w (record w { statics = write w.statics g (f.registers x) }) (extends_itself (classes_of w.heap)) refl)
  local_grows (TakeResult ds) = stays_with _
  local_grows (TakeException d) = stays_with _
  local_grows Skip = stays_with _
  local_grows Go = stays_with _
  local_grows (Call kind at args) = stays_with _
  local_grows (Return x) = stays_with _
  local_grows (Throw x) = stays_with _

raised_has : (P : World → Type 0) (app : App) (v : Value) (w : World) (fs : List Frame) → P w → Draws (In_world P) (raised app v w fs)
raised_has P app v w [] has = give_has (In_world P) (playing w []) has
raised_has P app v w (f ∷ fs) has =
    follows Any (In_world P) (one_of (map (λ pc. Some pc) (catches_of (step_at app f.method f.pc)) ++ None ∷ [])) (raised_to app v w f fs (raised app v w fs))
    (any (one_of (map (λ pc. Some pc) (catches_of (step_at app f.method f.pc)) ++ None ∷ []))) (λ to h. by_choice (raised_has P app v w fs has) to)
  where
    by_choice : Draws (In_world P) (raised app v w fs) → (to : Option ℕ) → Draws (In_world P) (raised_to app v w f fs (raised app v w fs) to)
    by_choice upward (Some pc) = give_has (In_world P) _ has
    by_choice upward None = upward

resumes_has : (P : World → Type 0) (w : World) (v : Value) (f : Frame) (fs : List Frame) (next : List ℕ) → P w → Draws (In_world P) (resumes w v f fs next)
resumes_has P w v f fs next has =
    follows Any (In_world P) (one_of next) (λ pc. give (playing w (moved f pc (write f.registers result_register v) ∷ fs))) (any (one_of next))
    (λ pc h. give_has (In_world P) (playing w (moved f pc (write f.registers result_register v) ∷ fs)) has)

-- events
abbrev Event_grows : World → Event → Type 0
Event_grows w (Receives body place sources new) = Grows w new
Event_grows w (Initialiser body) = Unit {0}

module _ (app : App) (lists : Lists) (w : World) where
  lived_grows : (c : ℕ) (life : LifeEvent) (body : Option ℕ) → Event_grows w (lived w c life body)
  lived_grows c life body = by_heap w _ (extends_itself (classes_of w.heap)) refl

  born_grows : (c : ℕ) (class : Name) (life : LifeEvent) (body : Option ℕ) → Event_grows w (born w c class life body)
  born_grows c class life body = by_heap w _ (one_more w.heap (new_object class)) refl

  is_event : (one event : Event) → Event_grows w one → Some one ≡ Some event → Event_grows w event
  is_event one event grows is = subst (Event_grows w) (same_Some one event is) grows

  life_grows : (c : ℕ) (o : Option (Name × LifeEvent × Option ℕ)) (event : Event) → life_coming app w c o ≡ Some event → Event_grows w event
  life_grows c None event is = absurd (none-some event is)
  life_grows c (Some found) event is = by_state (found.1.from == (w.components c).state) (found.1.from == 0) (may_begin app w c) is
    where
      by_state : (here absent begins : Bool) → cond here (cond absent (cond begins (Some (born w c found.0 found.1 found.2)) None) (Some (lived w c found.1 found.2))) None ≡ Some event → Event_grows w event
      by_state true true true is = is_event (born w c found.0 found.1 found.2) event (born_grows c found.0 found.1 found.2) is
      by_state true true false is = absurd (none-some event is)
      by_state true false begins is = is_event (lived w c found.1 found.2) event (lived_grows c found.1 found.2) is
      by_state false absent begins is = absurd (none-some event is)

  callback_grows : (place : Option ℕ) (o : Option (List (ℕ × ℕ) × ℕ)) (event : Event) → callback_coming w place o ≡ Some event → Event_grows w event
  callback_grows place None event is = absurd (none-some event is)
  callback_grows place (Some called) event is = is_event (Receives (Some called.1) place called.0 w) event (stays w) is

  click_grows : (place : Option ℕ) (o : Option ℕ) (event : Event) → click_coming w place o ≡ Some event → Event_grows w event
  click_grows place None event is = absurd (none-some event is)
  click_grows place (Some body) event is = is_event (Receives (Some body) place [] w) event (stays w) is

  handed_grows : (q p : ℕ) (o : Option Name) (event : Event) → handed_coming app lists w q p o ≡ Some event → Event_grows w event
  handed_grows q p None event is = absurd (none-some event is)
  handed_grows q p (Some class) event is = callback_grows (Some p) (handed_callback app lists q class) event is

  in_lives : (c : ℕ) (event : Event) → In event (lives app w c) → Event_grows w event
  in_lives c event h =
      let at = from_filter_map (λ e. life_coming app w c (life_event app c e)) (numbers_from 0 (life_count (slice_get app.components c))) event h in
      life_grows c (life_event app c at.0) event at.2

  in_callbacks : (c : ℕ) (event : Event) → In event (callbacks app lists w c) → Event_grows w event
  in_callbacks c event h =
      let at = from_filter_map (λ q. callback_coming w (w.components c).place (component_callback app lists c q)) (numbers_from 0 (length lists.callbacks)) event h in
      callback_grows (w.components c).place (component_callback app lists c at.0) event at.2

  in_clicks : (c : ℕ) (event : Event) → In event (clicks app w c) → Event_grows w event
  in_clicks c event h =
      let at = from_filter_map (λ i. click_coming w (w.components c).place (click app c i)) (numbers_from 0 (length app.clicks)) event h in
      click_grows (w.components c).place (click app c at.0) event at.2

  in_initialisers : (c : ℕ) (begins : Bool) (event : Event) → In event (cond begins (map (λ body. Initialiser body) (component_initialisers app c)) []) → Event_grows w event
  in_initialisers c true event h = let at = from_map (λ body. Initialiser body) (component_initialisers app c) event h in subst (Event_grows w) (sym at.2) tt
  in_initialisers c false event h = absurd h

  in_others : (c : ℕ) (absent : Bool) (event : Event) → In event (cond absent (initialisations app w c) (callbacks app lists w c ++ clicks app w c)) → Event_grows w event
  in_others c true event h = in_initialisers c (may_begin app w c) event h
  in_others c false event h = elim (in_either event (callbacks app lists w c) (clicks app w c) h) [ inl called ↦ in_callbacks c event called | inr clicked ↦ in_clicks c event clicked ]

  in_component : (c : ℕ) (event : Event) → In event (component_events app lists w c) → Event_grows w event
  unfolding component_events
  in_component c event h =
      elim (in_either event (lives app w c) (cond ((w.components c).state == 0) (initialisations app w c) (callbacks app lists w c ++ clicks app w c)) h) [
        | inl life ↦ in_lives c event life
        | inr other ↦ in_others c ((w.components c).state == 0) event other
      ]

  in_handed : (q : ℕ) (event : Event) → In event (handed_events app lists w q) → Event_grows w event
  unfolding handed_events
  in_handed q event h =
      let at = from_filter_map (λ p. handed_coming app lists w q p (class_at w.heap p)) (handed_places w.handed) event h in
      handed_grows q at.0 (class_at w.heap at.0) event at.2

  in_events : (event : Event) → In event (events app lists w) → Event_grows w event
  unfolding events
  in_events event h =
      elim (in_either event (flat_map (component_events app lists w) (numbers_from 0 (length app.components))) (flat_map (handed_events app lists w) (numbers_from 0 (length lists.callbacks))) h) [
        | inl one ↦ (let at = from_flat (component_events app lists w) (numbers_from 0 (length app.components)) event one in in_component at.0 event at.2)
        | inr one ↦ (let at = from_flat (handed_events app lists w) (numbers_from 0 (length lists.callbacks)) event one in in_handed at.0 event at.2)
      ]

-- parameters
module _ (app : App) (lists : Lists) (handed : List ℕ) where
  abbrev First_grows : List Object → Value × List Object → Type 0
  First_grows heap d = Extends (classes_of heap) (classes_of d.1)

  abbrev Others_grow : List Object → List Value × List Object → Type 0
  Others_grow heap d = Extends (classes_of heap) (classes_of d.1)

  in_values : (labels : List ℕ) (type : Name) (heap : List Object) (x : Value × List Object) → In x (parameter_values app lists handed labels type heap) → First_grows heap x
  in_values labels type heap x (inl same) = subst (First_grows heap) (sym same) (extends_itself (classes_of heap))
  in_values labels type heap x (inr (inl same)) = subst (First_grows heap) (sym same) (one_more heap (fresh_object type labels))
  in_values labels type heap x (inr (inr later)) =
      let at = from_map (λ p. (record { place = Some p; labels = labels }, heap)) (filter (λ p. is_of_type app lists type (class_at heap p)) (handed_places handed)) x later in
      subst (First_grows heap) (sym at.2) (extends_itself (classes_of heap))

  parameter_grows : (labels : List ℕ) (type : Name) (heap : List Object) → Draws (First_grows heap) (parameter app lists handed labels type heap)
  parameter_grows labels type heap =
      if_has (First_grows heap) (is_reference type) (one_of (parameter_values app lists handed labels type heap)) (give (labelled labels, heap))
      (one_has (First_grows heap) (parameter_values app lists handed labels type heap) (in_values labels type heap)) (give_has (First_grows heap) (labelled labels, heap) (extends_itself (classes_of heap)))

  abbrev with_others : Value × List Object → List Value × List Object → Drawing (List Value × List Object)
  with_others first others = give (first.0 ∷ others.0, others.1)

  abbrev others_after : List (ℕ × ℕ) → ℕ → List Name → Value × List Object → Drawing (List Value × List Object)
  others_after sources i types first = parameters app lists handed sources (i + 1) types first.1 >>= with_others first

  parameters_grow : (sources : List (ℕ × ℕ)) (i : ℕ) (types : List Name) (heap : List Object) → Draws (Others_grow heap) (parameters app lists handed sources i types heap)
  parameters_grow sources i [] heap = give_has (Others_grow heap) ([], heap) (extends_itself (classes_of heap))
  parameters_grow sources i (type ∷ types) heap =
      follows (First_grows heap) (Others_grow heap) (parameter app lists handed (labels_at sources i) type heap) (others_after sources i types) (parameter_grows (labels_at sources i) type heap)
      (λ first one. follows (Others_grow first.1) (Others_grow heap) (parameters app lists handed sources (i + 1) types first.1) (with_others first) (parameters_grow sources (i + 1) types first.1)
      (λ others more. give_has (Others_grow heap) (first.0 ∷ others.0, others.1) (extends_on (classes_of heap) (classes_of first.1) (classes_of others.1) one more)))

module _ (app : App) (lists : Lists) (w : World) where
  abbrev Grown : Playing → Type 0
  Grown t = Grows w t.world

  begun_grows : (event : Event) → Event_grows w event → Draws Grown (begun app lists w event)
  unfolding begun
  begun_grows (Receives None place sources new) grows = give_has Grown (playing new []) grows
  begun_grows (Receives (Some body) place sources new) grows = by_code (code_of app body)
    where
      by_code : (o : Option Method) → Draws Grown (begins_with app lists body place sources new o)
      by_code None = give_has Grown (playing new []) grows
      by_code (Some m) =
          follows (Others_grow app lists new.handed new.heap) Grown (parameters app lists new.handed sources 1 m.at.proto.params new.heap)
          (λ (drawn : List Value × List Object). give (playing (record new { heap = drawn.1 }) (event_frame body m (receiver place sources ∷ drawn.0) ∷ [])))
          (parameters_grow app lists new.handed sources 1 m.at.proto.params new.heap)
          (λ drawn more. give_has Grown _ (grows_on w new (record new { heap = drawn.1 }) grows (by_heap new (record new { heap = drawn.1 }) more refl)))
  begun_grows (Initialiser body) grows = give_has Grown (initialises_with body w (code_of app body)) (by_code (code_of app body))
    where
      by_code : (o : Option Method) → Grown (initialises_with body w o)
      by_code None = stays w
      by_code (Some m) = stays w

-- library calls
module _ (app : App) (lists : Lists) where
  shared_grows : (is : List ℕ) (heap : List Object) (statics : ℕ → Value) → Extends (classes_of heap) (classes_of (with_shared app lists is heap statics).0)
  shared_grows [] heap statics = extends_itself (classes_of heap)
  shared_grows (i ∷ more) heap statics = by_place (statics (shared_static app i)).place (shared_class lists i) (shared_grows more)
    where
      by_place : (o : Option ℕ) (c : Option Name) → ((h : List Object) (s : ℕ → Value) → Extends (classes_of h) (classes_of (with_shared app lists more h s).0)) →
          Extends (classes_of heap) (classes_of (with_shared app lists more (shared_there o c (shared_static app i) heap statics).0 (shared_there o c (shared_static app i) heap statics).1).0)
      by_place (Some p) c later = later heap statics
      by_place None None later = later heap statics
      by_place None (Some class) later =
          extends_on (classes_of heap) (classes_of (heap ++ new_object class ∷ [])) (classes_of (with_shared app lists more (heap ++ new_object class ∷ []) (write statics (shared_static app i) (object_at (Some (length heap))))).0)
          (one_more heap (new_object class)) (later (heap ++ new_object class ∷ []) (write statics (shared_static app i) (object_at (Some (length heap)))))

  hand_all_extends : (f : Frame) (xs handed : List ℕ) → Extends (handed_places handed) (handed_places (hand_all f xs handed))
  hand_all_extends f [] handed = extends_itself (handed_places handed)
  hand_all_extends f (x ∷ xs) handed =
      extends_on (handed_places handed) (handed_places (hand (f.registers x).place handed)) (handed_places (hand_all f xs (hand (f.registers x).place handed)))
      (hand_extends (f.registers x).place handed) (hand_all_extends f xs (hand (f.registers x).place handed))

  module _ (w : World) (handed : List ℕ) (f : Frame) (places : List ℕ) (source : Option ℕ) (ret : Name) (statics : ℕ → Value) (heap : List Object) where
    abbrev Result_grows : List Object × Value → Type 0
    Result_grows d = Extends (classes_of heap) (classes_of d.0)

    same_heap : (v : Value) → Draws Result_grows (give (heap, v))
    same_heap v = give_has Result_grows (heap, v) (extends_itself (classes_of heap))

    joined_grows : (labels : List ℕ) (b : Bool) → Result_grows (cond b (heap ++ joined_object ret labels ∷ [], record { place = Some (length heap); labels = labels }) (heap, labelled labels))
    joined_grows labels true = one_more heap (joined_object ret labels)
    joined_grows labels false = extends_itself (classes_of heap)

    given_grows : (g : Gives) → Draws Result_grows (given_result app lists w handed f places source ret statics heap g)
    given_grows gives.Blank = same_heap _
    given_grows (gives.Same i) = same_heap _
    given_grows (gives.Taken i) =
        follows Any Result_grows (got w.heap (value_at f places i) elem_key) (λ v. give (heap, v)) (any (got w.heap (value_at f places i) elem_key)) (λ v h. same_heap v)
    given_grows (gives.Shared i) = same_heap _
    given_grows (gives.Joined from) =
        give_has Result_grows (joined_value ret heap (joined_labels w.heap f places from source)) (joined_grows (joined_labels w.heap f places from source) (is_reference ret))
    given_grows gives.Handed =
        follows Any Result_grows (one_of (given_back app lists w handed ret)) (λ v. give (heap, v)) (any (one_of (given_back app lists w handed ret))) (λ v h. same_heap v)

    result_grows : (g : Gives) → Draws Result_grows (result app lists w handed f places source ret statics heap g)
    result_grows g = if_has Result_grows (is_void ret) (give (heap, blank)) (given_result app lists w handed f places source ret statics heap g) (same_heap blank) (given_grows g)

  module _ (w : World) (f : Frame) (places : List ℕ) (ret : Name) (row : Summary) where
    abbrev Call_grows : World × Value → Type 0
    Call_grows d = Grows w d.0

    library_grows : Draws Call_grows (library_call app lists w f places ret row)
    unfolding library_call
    library_grows =
        let shared : List Object × (ℕ → Value) = with_shared app lists (shared_named row ret) w.heap w.statics in
        follows (Result_grows w (hand_all f places w.handed) f places row.source ret shared.1 shared.0) Call_grows
        (result app lists w (hand_all f places w.handed) f places row.source ret shared.1 shared.0 row.gives)
        (λ (given : List Object × Value). give (after_call app w f places row shared.1 given.0, given.1))
        (result_grows w (hand_all f places w.handed) f places row.source ret shared.1 shared.0 row.gives)
        (λ given more. give_has Call_grows (after_call app w f places row shared.1 given.0, given.1)
        (grown w (after_call app w f places row shared.1 given.0)
        (extends_same (classes_of w.heap) (classes_of given.0) (classes_of (add_all given.0 (added app w.heap f places shared.1 row)))
        (extends_on (classes_of w.heap) (classes_of shared.0) (classes_of given.0) (shared_grows (shared_named row ret) w.heap w.statics) more)
        (sym (classes_add given.0 (added app w.heap f places shared.1 row))))
        (hand_all_extends f places w.handed)))

-- the ways of a frame
module _ (app : App) (lists : Lists) (w : World) (f : Frame) (fs : List Frame) where
  abbrev Frames_grow : Playing → Type 0
  Frames_grow t = Grows w t.world

  module _ (next : List ℕ) where
    abbrev arrives : World × (ℕ → Value) → ℕ → Drawing Playing
    arrives done pc = give (playing done.0 (moved f pc done.1 ∷ fs))

    abbrev goes_on : World × (ℕ → Value) → Drawing Playing
    goes_on done = one_of next >>= arrives done

    abbrev then_drawn : World × Value → Drawing Playing
    then_drawn done = draw 2 >>= resumes_or_raises app done.0 done.1 f fs next

    acts_grow : (act : Act) → Draws Frames_grow (acts app lists w f fs next act)
    acts_grow act =
        follows (Local_grows app lists w f) Frames_grow (local app lists w f act) goes_on (local_grows app lists w f act)
        (λ done grows. follows Any Frames_grow (one_of next) (arrives done) (any (one_of next)) (λ pc h. give_has Frames_grow (playing done.0 (moved f pc done.1 ∷ fs)) grows))

    calls_grow : (kind : CallKind) (at : MethodRef) (args : List ℕ) (row : Summary) → Draws Frames_grow (stepping.calls_library app lists w f fs next kind at args row)
    calls_grow kind at args row =
        follows (Call_grows app lists w f (positions kind at args) at.proto.ret row) Frames_grow (library_call app lists w f (positions kind at args) at.proto.ret row) then_drawn
        (library_grows app lists w f (positions kind at args) at.proto.ret row)
        (λ done grows. follows Any Frames_grow (draw 2) (resumes_or_raises app done.0 done.1 f fs next) (any (draw 2))
        (λ way h. if_has Frames_grow (way == 0) (resumes done.0 done.1 f fs next) (raised app blank done.0 (f ∷ fs))
        (resumes_has (Grows w) done.0 done.1 f fs next grows) (raised_has (Grows w) app blank done.0 (f ∷ fs) grows)))

  -- where there is a way, the world grows by it
  abbrev Way_grows : Option (Drawing Playing) → Type 0
  Way_grows o = (way : Drawing Playing) → o ≡ Some way → Draws Frames_grow way

  no_way : Way_grows None
  no_way way is = absurd (none-some way is)

  one_way : (one : Drawing Playing) → Draws Frames_grow one → Way_grows (Some one)
  one_way one grows way is = subst (λ (z : Drawing Playing). Draws Frames_grow z) (same_Some one way is) grows

  where_next_grows : (ns : List ℕ) (one : Drawing Playing) → Draws Frames_grow one → Way_grows (where_next ns one)
  where_next_grows [] one grows = no_way
  where_next_grows (n ∷ ns) one grows = one_way one grows

  state_grows : (t : Playing) → Frames_grow t → Way_grows (Some (give t))
  state_grows t grows = one_way (give t) (give_has Frames_grow t grows)

  target_grows : (next : List ℕ) (kind : CallKind) (at : MethodRef) (args : List ℕ) (o : Option Target) → Way_grows (calls_target app lists w f fs next kind at args o)
  target_grows next kind at args None = no_way
  target_grows next kind at args (Some (Body body)) = by_code (code_of app body)
    where
      by_code : (o : Option Method) → Way_grows (calls_body w f fs args body o)
      by_code None = no_way
      by_code (Some m) = state_grows _ (stays w)
  target_grows next kind at args (Some (Library class)) = by_row (called_row app lists class kind at)
    where
      by_plain : (row : Summary) (b : Bool) → Way_grows (cond b None (where_next next (stepping.calls_library app lists w f fs next kind at args row)))
      by_plain row true = no_way
      by_plain row false = where_next_grows next (stepping.calls_library app lists w f fs next kind at args row) (calls_grow next kind at args row)

      by_row : (o : Option Summary) → Way_grows (calls_row app lists w f fs next kind at args o)
      by_row None = no_way
      by_row (Some row) = by_plain row row.reflective
  target_grows next kind at args (Some Nothing) = no_way

  return_grows : (x : Option ℕ) (gs : List Frame) → Way_grows (stepping.returns app w f x gs)
  return_grows x [] =
      state_grows (playing (record w { handed = hand (returned f x).place w.handed }) [])
      (grown w (record w { handed = hand (returned f x).place w.handed }) (extends_itself (classes_of w.heap)) (hand_extends (returned f x).place w.handed))
  return_grows x (g ∷ gs) = by_kind f.initialises
    where
      by_kind : (b : Bool) → Way_grows (cond b (Some (give (playing w (g ∷ gs)))) (where_next (next_of (step_at app g.method g.pc)) (resumes w (returned f x) g gs (next_of (step_at app g.method g.pc)))))
      by_kind true = state_grows (playing w (g ∷ gs)) (stays w)
      by_kind false =
          where_next_grows (next_of (step_at app g.method g.pc)) (resumes w (returned f x) g gs (next_of (step_at app g.method g.pc)))
          (resumes_has (Grows w) w (returned f x) g gs (next_of (step_at app g.method g.pc)) (stays w))

  local_way : (next : List ℕ) (act : Act) → Way_grows (where_next next (acts app lists w f fs next act))
  local_way next act = where_next_grows next (acts app lists w f fs next act) (acts_grow next act)

  does_grow : (next : List ℕ) (act : Act) → Way_grows (does app lists w f fs next act)
  does_grow next (Call kind at args) = target_grows next kind at args (call_target app w.heap f kind at args)
  does_grow next (Return x) = return_grows x fs
  does_grow next (Throw x) = one_way (raised app (f.registers x) w (f ∷ fs)) (raised_has (Grows w) app (f.registers x) w (f ∷ fs) (stays w))
  does_grow next Skip = local_way next Skip
  does_grow next Go = local_way next Go
  does_grow next (Join ds xs) = local_way next (Join ds xs)
  does_grow next (Move ds x) = local_way next (Move ds x)
  does_grow next (Blank ds) = local_way next (Blank ds)
  does_grow next (New r class size) = local_way next (New r class size)
  does_grow next (Fill xs class) = local_way next (Fill xs class)
  does_grow next (Get ds o k) = local_way next (Get ds o k)
  does_grow next (Put o k x) = local_way next (Put o k x)
  does_grow next (GetStatic ds g) = local_way next (GetStatic ds g)
  does_grow next (PutStatic g x) = local_way next (PutStatic g x)
  does_grow next (TakeResult ds) = local_way next (TakeResult ds)
  does_grow next (TakeException r) = local_way next (TakeException r)

  there_grows : (o : Option Step) → Way_grows (step_there app lists w f fs o)
  there_grows None = no_way
  there_grows (Some s) = does_grow s.next s.act

  in_option : (o : Option (Drawing Playing)) → Way_grows o → (way : Drawing Playing) → In way (option_to_list o) → Draws Frames_grow way
  in_option None grows way h = absurd h
  in_option (Some one) grows way (inl same) = grows way (ap (λ (z : Drawing Playing). Some z) (sym same))
  in_option (Some one) grows way (inr h) = absurd h

  way_grows : (way : Drawing Playing) → In way (ways app lists w f fs) → Draws Frames_grow way
  unfolding ways
  way_grows way h = by_last (in_either way (map (enters w (f ∷ fs)) (initialisers_at app (step_at app f.method f.pc)) ++ option_to_list (step_there app lists w f fs (step_at app f.method f.pc))) (raised app blank w (f ∷ fs) ∷ []) h)
    where
      by_first : In way (map (enters w (f ∷ fs)) (initialisers_at app (step_at app f.method f.pc))) ⊎ In way (option_to_list (step_there app lists w f fs (step_at app f.method f.pc))) → Draws Frames_grow way
      by_first (inl one) = let found = from_map (enters w (f ∷ fs)) (initialisers_at app (step_at app f.method f.pc)) way one in subst (λ (z : Drawing Playing). Draws Frames_grow z) (sym found.2) (give_has Frames_grow _ (stays w))
      by_first (inr one) = in_option (step_there app lists w f fs (step_at app f.method f.pc)) (there_grows (step_at app f.method f.pc)) way one

      by_last : In way (map (enters w (f ∷ fs)) (initialisers_at app (step_at app f.method f.pc)) ++ option_to_list (step_there app lists w f fs (step_at app f.method f.pc))) ⊎ In way (raised app blank w (f ∷ fs) ∷ []) → Draws Frames_grow way
      by_last (inl first) = by_first (in_either way (map (enters w (f ∷ fs)) (initialisers_at app (step_at app f.method f.pc))) (option_to_list (step_there app lists w f fs (step_at app f.method f.pc))) first)
      by_last (inr (inl same)) = subst (λ (z : Drawing Playing). Draws Frames_grow z) (sym same) (raised_has (Grows w) app blank w (f ∷ fs) (stays w))
      by_last (inr (inr none)) = absurd none

module _ (app : App) (lists : Lists) where
  step_grows : (w : World) (fs : List Frame) → Draws (Grown app lists w) (step app lists w fs)
  unfolding step
  step_grows w [] = follows (Event_grows w) (Grown app lists w) (one_of (events app lists w)) (begun app lists w) (one_has (Event_grows w) (events app lists w) (in_events app lists w)) (λ event grows. begun_grows app lists w event grows)
  step_grows w (f ∷ fs) =
      follows (λ (way : Drawing Playing). Draws (Grown app lists w) way) (Grown app lists w) (one_of (ways app lists w f fs)) (λ way. way)
      (one_has (λ (way : Drawing Playing). Draws (Grown app lists w) way) (ways app lists w f fs) (way_grows app lists w f fs)) (λ way grows. grows)

pub steps_grow : (app : App) (lists : Lists) (s t : Playing) (u : World) (bytes rest : List ℕ) → drawn_step app lists s bytes ≡ Some (t, rest) → AlikeWorld t.world u → Grows s.world u
steps_grow app lists s t u bytes rest is alike = grows_alike s.world t.world u (step_grows app lists s.world s.frames bytes t rest is) alike
