-- The stands that are listed are those of the machine.
use Rattle.std.proofs.Common.{◌≡◌, ◌≢◌, ◌==◌, ◌⊎◌, inl, inr, ℕ, ◌+◌, ◌<◌, Bool, true, false, not, ◌||◌, cond, List, [], ◌∷◌, ◌++◌, map, filter, flat_map, length, Option, Some, None, option_map, slice_get, refl, sym, ap, ◌∙◌, subst, arith, eq-eqb, ne_eqb}
use Rattle.std.specs.Prelude.{◌↔◌}
use Rattle.std.specs.List.{list_all, list_any}
use Rattle.std.proofs.lemmas.Bool.{and_from, or_left, or_right}
use Rattle.std.proofs.lemmas.Option.{slice_get_within}
use Rattle.vet_base.specs.Members.{In, IsAt}
use Rattle.vet_base.proofs.Members.{in_front, in_back, in_either, in_flat, from_flat, in_map, from_map, in_filter_map, passes_if, one_passes}
use Rattle.app_machine.specs.declared.app.App.{App}
use Rattle.app_machine.specs.declared.call.CallKind.{CallKind}
use Rattle.app_machine.specs.declared.call.MethodRef.{MethodRef}
use Rattle.app_machine.specs.declared.component.Component.{Component}
use Rattle.app_machine.specs.declared.component.Kind.{Kind}
use Rattle.app_machine.specs.declared.component.Kind.TheVariants.{Application, Activity, Service, Receiver}
use Rattle.app_machine.specs.declared.lists.Callback.{Callback}
use Rattle.app_machine.specs.declared.lists.Lists.{Lists}
use Rattle.app_machine.specs.declared.lists.SummaryId.{SummaryId}
use Rattle.app_machine.specs.declared.method.Act.{Act}
use Rattle.app_machine.specs.declared.method.Act.TheVariants.{Skip, Join, Move, Blank, New, Fill, Get, Put, GetStatic, PutStatic, Call, Return, Throw, TakeResult, TakeException, Go}
use Rattle.app_machine.specs.declared.method.Step.{Step}
use Rattle.app_machine.specs.declared.summary.Summary.{Summary}
use Rattle.app_machine.specs.Calls.{CallsTo, by_name, by_nothing, by_class}
use Rattle.app_machine.specs.Events.{MayBegin, LifeEventAt, Comes, lives, is_born, calls_back, is_clicked, is_handed, MayInitialise}
use Rattle.app_machine.specs.Heap.{Object}
use Rattle.app_machine.specs.LifeEvents.{LifeEvent, life_events}
use Rattle.app_machine.specs.Lookups.{Target, Body, Library, Nothing, target, step_at, initialisers, is_by_receiver, is_static_call, ActAt, IsNative, Initialises}
use Rattle.app_machine.specs.Names.{Name}
use Rattle.app_machine.specs.Safe.{no_summary, native, reflective, Stands, native_call, without_row, at_reflection, native_initialiser, native_event, native_class}
use Rattle.app_machine.specs.State.{World, Frame}
use Rattle.app_machine.specs.Summaries.{numbers_from, library_key, summary}
use Rattle.app_model.specs.EventBodies.{life_event, component_callback, click}
use Rattle.app_model.specs.EventLaws.{EventsAreExact}
use Rattle.app_model.specs.Initialisers.{component_initialisers}
use Rattle.played_machine.specs.Calling.{is_native_body, receiver_place, target_at, call_target}
use Rattle.played_machine.specs.Coming as coming
use Rattle.played_machine.specs.Coming.{Event, Receives, Initialiser, is_application, lets_begin, may_begin, lived, born, life_coming, callback_coming, click_coming, life_count, initialisations, component_events, handed_coming, handed_events, events}
use Rattle.played_machine.specs.Ordered.{ascending}
use Rattle.played_machine.specs.Reading.{class_at, handed_places}
use Rattle.played_machine.specs.Standing.{Stand, if_reflective, cause_of_key, if_native_then, causes_of_target, causes_of_call, causes_at, body_of, stands_of}
use Rattle.played_machine.proofs.Called.{calls_so, native_so, native_only}
use Rattle.played_machine.proofs.Ordered.{in_filter, from_filter, in_ascending, from_ascending}
use Rattle.played_machine.proofs.Reached.{class_read, is_handed_place}
use Rattle.played_machine.proofs.Running.{in_numbers, IsComing, events_so}

-- a call has one target
module _ (app : App) (heap : List Object) (f : Frame) (kind : CallKind) (at : MethodRef) (args : List ℕ) where
  abbrev by_receiver : Option Target
  by_receiver = target_at app heap f.method kind at (receiver_place f (slice_get args 0))

  by_kind : (b : Bool) → is_by_receiver kind ≡ b → call_target app heap f kind at args ≡ cond b by_receiver (Some (target app kind f.method at None))
  unfolding call_target
  by_kind b is = ap (λ c. cond c by_receiver (Some (target app kind f.method at None))) is

  no_receiver : (o : Option ℕ) → slice_get args 0 ≡ o → ((x : ℕ) → IsAt args 0 x → (f.registers x).place ≡ None) → receiver_place f o ≡ None
  no_receiver None there none = refl
  no_receiver (Some x) there none = none x (record { there = there })

  pub calls_only : {t : Target} → CallsTo app heap f kind at args t → call_target app heap f kind at args ≡ Some t
  calls_only {t} (by_name plain is) = by_kind false plain ∙ ap (λ (x : Target). Some x) is
  calls_only {t} (by_nothing goes none is) =
      by_kind true goes ∙ (ap (target_at app heap f.method kind at) (no_receiver (slice_get args 0) refl none) ∙ ap (λ (x : Target). Some x) is)
  calls_only {t} (by_class {x = x} {p = p} class holds there place of is) =
      by_kind true holds ∙ (ap (λ o. target_at app heap f.method kind at (receiver_place f o)) there.there
      ∙ (ap (target_at app heap f.method kind at) place
      ∙ (ap (λ (c : Option Name). option_map (λ class. target app kind f.method at (Some class)) c) (class_read heap p class of)
      ∙ ap (λ (x : Target). Some x) is)))

list_all_from : {A : Type 0} (test : A → Bool) (xs : List A) → ((x : A) → In x xs → test x ≡ true) → list_all test xs ≡ true
list_all_from test [] each = refl
list_all_from test (x ∷ xs) each = and_from (test x) (list_all test xs) (each x (inl refl)) (list_all_from test xs (λ y h. each y (inr h)))

application_kind : (kind : Kind) → is_application kind ≡ true → kind ≡ Application
application_kind Application is = refl
application_kind Activity is = absurd cc
application_kind Service is = absurd cc
application_kind Receiver is = absurd cc

-- each event that may come is listed
module _ (app : App) (lists : Lists) (exact : EventsAreExact app lists) (w : World) where
  may_only : (c : ℕ) → MayBegin app w c → may_begin app w c ≡ true
  unfolding may_begin
  may_only c may = list_all_from (λ a. lets_begin w c a (slice_get app.components a)) (numbers_from 0 (length app.components)) (λ a h. by_there a (slice_get app.components a) refl)
    where
      by_kind' : (a : ℕ) (component : Component) → slice_get app.components a ≡ Some component → (b : Bool) → is_application component.kind ≡ b → (not b || ((a == c) || ((w.components a).state == 2))) ≡ true
      by_kind' a component there false is = refl
      by_kind' a component there true is = elim (may a (record { component = component; there = record { there = there }; kind = application_kind component.kind is })) [
        | inl same ↦ or_left (a == c) ((w.components a).state == 2) (eq-eqb a c same)
        | inr created ↦ or_right (a == c) ((w.components a).state == 2) (eq-eqb (w.components a).state 2 created)
      ]

      by_there : (a : ℕ) (o : Option Component) → slice_get app.components a ≡ o → lets_begin w c a o ≡ true
      by_there a None there = refl
      by_there a (Some component) there = by_kind' a component there (is_application component.kind) refl

  of_component : (c : ℕ) (component : Component) → slice_get app.components c ≡ Some component → (event : Event) → In event (component_events app lists w c) → In event (events app lists w)
  unfolding events
  of_component c component there event h =
      in_front event (flat_map (component_events app lists w) (numbers_from 0 (length app.components))) (flat_map (handed_events app lists w) (numbers_from 0 (length lists.callbacks)))
      (in_flat (component_events app lists w) (numbers_from 0 (length app.components)) c event (in_numbers 0 (length app.components) c (omega arith) (omega (arith, slice_get_within app.components c component there))) h)

  in_life : (c : ℕ) (event : Event) → In event (coming.lives app w c) → In event (component_events app lists w c)
  unfolding component_events
  in_life c event h = in_front event (coming.lives app w c) (cond ((w.components c).state == 0) (initialisations app w c) (coming.callbacks app lists w c ++ coming.clicks app w c)) h

  in_absent : (c : ℕ) (event : Event) → (w.components c).state ≡ 0 → In event (initialisations app w c) → In event (component_events app lists w c)
  unfolding component_events
  in_absent c event absent h =
      in_back event (coming.lives app w c) (cond ((w.components c).state == 0) (initialisations app w c) (coming.callbacks app lists w c ++ coming.clicks app w c))
      (subst (λ b. In event (cond b (initialisations app w c) (coming.callbacks app lists w c ++ coming.clicks app w c))) (sym (eq-eqb (w.components c).state 0 absent)) h)

  in_living : (c : ℕ) (event : Event) → (w.components c).state ≢ 0 → In event (coming.callbacks app lists w c ++ coming.clicks app w c) → In event (component_events app lists w c)
  unfolding component_events
  in_living c event alive h =
      in_back event (coming.lives app w c) (cond ((w.components c).state == 0) (initialisations app w c) (coming.callbacks app lists w c ++ coming.clicks app w c))
      (subst (λ b. In event (cond b (initialisations app w c) (coming.callbacks app lists w c ++ coming.clicks app w c))) (sym (ne_eqb (w.components c).state 0 alive)) h)

  a_life : (c e : ℕ) (class : Name) (life : LifeEvent) (body : Option ℕ) → LifeEventAt app c e class life body → (event : Event) → life_coming app w c (Some (class, life, body)) ≡ Some event → In event (coming.lives app w c)
  a_life c e class life body at event gives =
      in_filter_map (λ e. life_coming app w c (life_event app c e)) (numbers_from 0 (life_count (slice_get app.components c))) e event
      (in_numbers 0 (life_count (slice_get app.components c)) e (omega arith) (subst (λ o. e < 0 + life_count o) (sym at.there.there) (omega (arith, slice_get_within (life_events at.component.kind) e life at.is_event.there))))
      (ap (life_coming app w c) ((exact.life c e class life body).0 at) ∙ gives)

  abbrev born_if : ℕ → Name → LifeEvent → Option ℕ → Option Event
  born_if c class life body = cond (may_begin app w c) (Some (born w c class life body)) None

  of_row : (p q : ℕ) (callback : Callback) → slice_get lists.callbacks q ≡ Some callback → (event : Event) → In p w.handed → handed_coming app lists w q p (class_at w.heap p) ≡ Some event → In event (events app lists w)
  unfolding events handed_events
  of_row p q callback there event was gives =
      in_back event (flat_map (component_events app lists w) (numbers_from 0 (length app.components))) (flat_map (handed_events app lists w) (numbers_from 0 (length lists.callbacks)))
      (in_flat (handed_events app lists w) (numbers_from 0 (length lists.callbacks)) q event (in_numbers 0 (length lists.callbacks) q (omega arith) (omega (arith, slice_get_within lists.callbacks q callback there)))
      (in_filter_map (λ p. handed_coming app lists w q p (class_at w.heap p)) (handed_places w.handed) p event (is_handed_place w.handed p was) gives))

  pub comes_listed : {body place : Option ℕ} {sources : List (ℕ × ℕ)} {new : World} → Comes app lists w body place sources new → In (Receives body place sources new) (events app lists w)
  comes_listed (lives {c} {e} {class} {life} {body} at same some) =
      of_component c at.component at.there.there (lived w c life body) (in_life c (lived w c life body) (a_life c e class life body at (lived w c life body)
      (ap (λ b. cond b (cond (life.from == 0) (born_if c class life body) (Some (lived w c life body))) None) (eq-eqb life.from (w.components c).state (sym same))
      ∙ ap (λ b. cond b (born_if c class life body) (Some (lived w c life body))) (ne_eqb life.from 0 some))))
  comes_listed (is_born {c} {e} {class} {life} {body} at absent begins may) =
      of_component c at.component at.there.there (born w c class life body) (in_life c (born w c class life body) (a_life c e class life body at (born w c class life body)
      (ap (λ b. cond b (cond (life.from == 0) (born_if c class life body) (Some (lived w c life body))) None) (eq-eqb life.from (w.components c).state (begins ∙ sym absent))
      ∙ (ap (λ b. cond b (born_if c class life body) (Some (lived w c life body))) (eq-eqb life.from 0 begins)
      ∙ ap (λ b. cond b (Some (born w c class life body)) None) (may_only c may)))))
  comes_listed (calls_back {c} {q} {body} {sources} at alive) =
      let event : Event = Receives (Some body) (w.components c).place sources w in
      of_component c at.component at.there.there event (in_living c event alive (in_front event (coming.callbacks app lists w c) (coming.clicks app w c)
      (in_filter_map (λ q. callback_coming w (w.components c).place (component_callback app lists c q)) (numbers_from 0 (length lists.callbacks)) q event
      (in_numbers 0 (length lists.callbacks) q (omega arith) (omega (arith, slice_get_within lists.callbacks q at.callback at.is_row.there)))
      (ap (callback_coming w (w.components c).place) ((exact.callback c q sources body).0 at)))))
  comes_listed (is_clicked {c} {i} {body} at alive) =
      let event : Event = Receives (Some body) (w.components c).place [] w in
      of_component c at.component at.there.there event (in_living c event alive (in_back event (coming.callbacks app lists w c) (coming.clicks app w c)
      (in_filter_map (λ i. click_coming w (w.components c).place (click app c i)) (numbers_from 0 (length app.clicks)) i event
      (in_numbers 0 (length app.clicks) i (omega arith) (omega (arith, slice_get_within app.clicks i at.name at.is_click.there)))
      (ap (click_coming w (w.components c).place) ((exact.clicked c i body).0 at)))))
  comes_listed (is_handed {p} {q} {body} {class} {sources} was of at) = of_row p q at.callback at.is_row.there (Receives (Some body) (Some p) sources w) was
      (ap (handed_coming app lists w q p) (class_read w.heap p class of) ∙ ap (callback_coming w (Some p)) ((exact.handed q class sources body).0 at))

  pub initialiser_listed : {body : ℕ} → MayInitialise app w body → In (Initialiser body) (events app lists w)
  initialiser_listed {body} may =
      of_component may.c may.at.component may.at.there.there (Initialiser body) (in_absent may.c (Initialiser body) may.absent
      (subst (λ b. In (Initialiser body) (cond b (map (λ body. Initialiser body) (component_initialisers app may.c)) [])) (sym (may_only may.c may.begins))
      (in_map (λ (body : ℕ). Initialiser body) (component_initialisers app may.c) body ((exact.initialiser may.c body).0 may.at))))

  -- the stands of no frame
  abbrev bodies : List ℕ
  bodies = filter (is_native_body app) (flat_map body_of (events app lists w))

  abbrev at_body : ℕ → Stand
  at_body body = record { cause = native; method = body; pc = 0 }

  stands_at_event : (event : Event) → IsComing app lists exact w event → (body : ℕ) → In body (body_of event) → IsNative app body → Stands app lists w [] body 0 native
  stands_at_event (Receives None place sources new) is body h no_code = absurd h
  stands_at_event (Receives (Some b) place sources new) is body (inl same) no_code = subst (λ z. Stands app lists w [] z 0 native) (sym same) (native_event is.comes (subst (IsNative app) same no_code))
  stands_at_event (Receives (Some b) place sources new) is body (inr h) no_code = absurd h
  stands_at_event (Initialiser b) is body (inl same) no_code = subst (λ z. Stands app lists w [] z 0 native) (sym same) (native_class is (subst (IsNative app) same no_code))
  stands_at_event (Initialiser b) is body (inr h) no_code = absurd h

  pub no_frame_from : (s : Stand) → In s (map at_body (ascending bodies)) → Stands app lists w [] s.method s.pc s.cause
  no_frame_from s h =
      let found = from_map at_body (ascending bodies) s h in
      let kept = from_filter (is_native_body app) (flat_map body_of (events app lists w)) found.0 (from_ascending bodies found.0 found.1) in
      let event = from_flat body_of (events app lists w) found.0 kept.0 in
      subst (λ (z : Stand). Stands app lists w [] z.method z.pc z.cause) (sym found.2)
      (stands_at_event event.0 (events_so app lists exact w event.0 event.1) found.0 event.2 (native_so app found.0 kept.1))

  body_listed : (body : ℕ) (event : Event) → In event (events app lists w) → In body (body_of event) → IsNative app body → In (at_body body) (map at_body (ascending bodies))
  body_listed body event listed of no_code =
      in_map at_body (ascending bodies) body (in_ascending bodies body (in_filter (is_native_body app) (flat_map body_of (events app lists w)) body
      (in_flat body_of (events app lists w) event body listed of) (native_only app body no_code)))

  -- the stands of a frame
  module _ (f : Frame) (fs : List Frame) where
    abbrev StandsFor : ℕ → Type 0
    StandsFor cause = Stands app lists w (f ∷ fs) f.method f.pc cause

    if_native_so : (b : Bool) (cause : ℕ) → In cause (if_native_then b) → (b ≡ true) × (cause ≡ native)
    if_native_so true cause (inl same) = (refl, same)
    if_native_so true cause (inr h) = absurd h
    if_native_so false cause h = absurd h

    key_so : (kind : CallKind) (at : MethodRef) (args : List ℕ) → ActAt app f.method f.pc (Call kind at args) → (class : Name) → CallsTo app w.heap f kind at args (Library class) →
        (o : Option SummaryId) → library_key app lists class at.name at.proto (is_static_call kind) ≡ o → (cause : ℕ) → In cause (cause_of_key lists at (is_static_call kind) o) → StandsFor cause
    key_so kind at args is class goes None key cause (inl same) = subst StandsFor (sym same) (without_row is goes key)
    key_so kind at args is class goes None key cause (inr h) = absurd h
    key_so kind at args is class goes (Some k) key cause h = by_row (summary lists k at (is_static_call kind)) refl h
      where
        by_reflective : (row : Summary) → summary lists k at (is_static_call kind) ≡ Some row → (b : Bool) → row.reflective ≡ b → In cause (cond b (reflective ∷ []) []) → StandsFor cause
        by_reflective row of true holds (inl same) = subst StandsFor (sym same) (at_reflection is goes key of holds)
        by_reflective row of true holds (inr h) = absurd h
        by_reflective row of false holds h = absurd h

        by_row : (o : Option Summary) → summary lists k at (is_static_call kind) ≡ o → In cause (if_reflective o) → StandsFor cause
        by_row None of h = absurd h
        by_row (Some row) of h = by_reflective row of row.reflective refl h

    target_so : (kind : CallKind) (at : MethodRef) (args : List ℕ) → ActAt app f.method f.pc (Call kind at args) →
        (o : Option Target) → call_target app w.heap f kind at args ≡ o → (cause : ℕ) → In cause (causes_of_target app lists kind at o) → StandsFor cause
    target_so kind at args is None goes cause h = absurd h
    target_so kind at args is (Some (Body body)) goes cause h =
        let one = if_native_so (is_native_body app body) cause h in
        subst StandsFor (sym one.1) (native_call is (calls_so app w.heap f kind at args (Body body) goes) (native_so app body one.0))
    target_so kind at args is (Some (Library class)) goes cause h = key_so kind at args is class (calls_so app w.heap f kind at args (Library class) goes) (library_key app lists class at.name at.proto (is_static_call kind)) refl cause h
    target_so kind at args is (Some Nothing) goes cause h = absurd h

    call_so : (act : Act) → ActAt app f.method f.pc act → (cause : ℕ) → In cause (causes_of_call app lists w f act) → StandsFor cause
    call_so (Call kind at args) is cause h = target_so kind at args is (call_target app w.heap f kind at args) refl cause h
    call_so Skip is cause h = absurd h
    call_so Go is cause h = absurd h
    call_so (Join ds xs) is cause h = absurd h
    call_so (Move ds x) is cause h = absurd h
    call_so (Blank ds) is cause h = absurd h
    call_so (New r class size) is cause h = absurd h
    call_so (Fill xs class) is cause h = absurd h
    call_so (Get ds o k) is cause h = absurd h
    call_so (Put o k x) is cause h = absurd h
    call_so (GetStatic ds g) is cause h = absurd h
    call_so (PutStatic g x) is cause h = absurd h
    call_so (Return x) is cause h = absurd h
    call_so (Throw x) is cause h = absurd h
    call_so (TakeResult ds) is cause h = absurd h
    call_so (TakeException r) is cause h = absurd h

    causes_so : (o : Option Step) → step_at app f.method f.pc ≡ o → (cause : ℕ) → In cause (causes_at app lists w f o) → StandsFor cause
    causes_so None there cause h = absurd h
    causes_so (Some s) there cause h = by_part (in_either cause (causes_of_call app lists w f s.act) (if_native_then (list_any (is_native_body app) (initialisers app s.act))) h)
      where
        by_part : In cause (causes_of_call app lists w f s.act) ⊎ In cause (if_native_then (list_any (is_native_body app) (initialisers app s.act))) → StandsFor cause
        by_part (inl of_call) = call_so s.act (record { step = s; there = there; same = refl }) cause of_call
        by_part (inr other) =
            let one = if_native_so (list_any (is_native_body app) (initialisers app s.act)) cause other in
            let body = one_passes (is_native_body app) (initialisers app s.act) one.0 in
            subst StandsFor (sym one.1) (native_initialiser (record { act = s.act; at = record { step = s; there = there; same = refl }; is_one = body.1 }) (native_so app body.0 body.2))

    abbrev causes : List ℕ
    causes = causes_at app lists w f (step_at app f.method f.pc)

    abbrev for_cause : ℕ → Stand
    for_cause cause = record { cause = cause; method = f.method; pc = f.pc }

    pub frame_from : (s : Stand) → In s (map for_cause (ascending causes)) → Stands app lists w (f ∷ fs) s.method s.pc s.cause
    frame_from s h =
        let found = from_map for_cause (ascending causes) s h in
        subst (λ (z : Stand). Stands app lists w (f ∷ fs) z.method z.pc z.cause) (sym found.2)
        (causes_so (step_at app f.method f.pc) refl found.0 (from_ascending causes found.0 found.1))

    cause_listed : (cause : ℕ) → In cause causes → In (for_cause cause) (map for_cause (ascending causes))
    cause_listed cause h = in_map for_cause (ascending causes) cause (in_ascending causes cause h)

    -- the causes of the step's act
    act_causes : (act : Act) → ActAt app f.method f.pc act → (cause : ℕ) → In cause (causes_of_call app lists w f act) → In cause causes
    act_causes act is cause h =
        subst (λ o. In cause (causes_at app lists w f o)) (sym is.there)
        (in_front cause (causes_of_call app lists w f is.step.act) (if_native_then (list_any (is_native_body app) (initialisers app is.step.act))) (subst (λ a. In cause (causes_of_call app lists w f a)) (sym is.same) h))

    target_causes : (kind : CallKind) (at : MethodRef) (args : List ℕ) → ActAt app f.method f.pc (Call kind at args) → (t : Target) → CallsTo app w.heap f kind at args t → (cause : ℕ) → In cause (causes_of_target app lists kind at (Some t)) → In cause causes
    target_causes kind at args is t goes cause h =
        act_causes (Call kind at args) is cause (subst (λ o. In cause (causes_of_target app lists kind at o)) (sym (calls_only app w.heap f kind at args goes)) h)

    library_causes : (kind : CallKind) (at : MethodRef) (args : List ℕ) → ActAt app f.method f.pc (Call kind at args) → (class : Name) → CallsTo app w.heap f kind at args (Library class) →
        (o : Option SummaryId) → library_key app lists class at.name at.proto (is_static_call kind) ≡ o → (cause : ℕ) → In cause (cause_of_key lists at (is_static_call kind) o) → In cause causes
    library_causes kind at args is class goes o key cause h = target_causes kind at args is (Library class) goes cause (subst (λ k. In cause (cause_of_key lists at (is_static_call kind) k)) (sym key) h)

    native_then : (b : Bool) → b ≡ true → In native (if_native_then b)
    native_then b holds = subst (λ c. In native (if_native_then c)) (sym holds) (inl refl)

    initialiser_causes : (body : ℕ) → Initialises app f.method f.pc body → IsNative app body → In native causes
    initialiser_causes body may no_code =
        let is = may.at in
        let some : In body (initialisers app is.step.act) = subst (λ a. In body (initialisers app a)) (sym is.same) may.is_one in
        subst (λ o. In native (causes_at app lists w f o)) (sym is.there)
        (in_back native (causes_of_call app lists w f is.step.act) (if_native_then (list_any (is_native_body app) (initialisers app is.step.act)))
        (native_then (list_any (is_native_body app) (initialisers app is.step.act)) (passes_if (is_native_body app) (initialisers app is.step.act) body some (native_only app body no_code))))

  pub stands_from : (fs : List Frame) (s : Stand) → In s (stands_of app lists w fs) → Stands app lists w fs s.method s.pc s.cause
  unfolding stands_of
  stands_from [] s h = no_frame_from s h
  stands_from (f ∷ fs) s h = frame_from f fs s h

  pub stands_listed : {fs : List Frame} {method pc cause : ℕ} → Stands app lists w fs method pc cause → In (record { cause = cause; method = method; pc = pc }) (stands_of app lists w fs)
  unfolding stands_of
  stands_listed (native_event {body} {place} {sources} {new} comes no_code) = body_listed body (Receives (Some body) place sources new) (comes_listed comes) (inl refl) no_code
  stands_listed (native_class {body} may no_code) = body_listed body (Initialiser body) (initialiser_listed may) (inl refl) no_code
  stands_listed (native_call {f} {fs} {kind} {at} {args} {body} is goes no_code) =
      cause_listed f fs native (target_causes f fs kind at args is (Body body) goes native (native_then f fs (is_native_body app body) (native_only app body no_code)))
  stands_listed (without_row {f} {fs} {kind} {at} {args} {class} is goes none) = cause_listed f fs no_summary (library_causes f fs kind at args is class goes None none no_summary (inl refl))
  stands_listed (at_reflection {f} {fs} {kind} {at} {args} {class} {key} {row} is goes of_key of_row holds) =
      cause_listed f fs reflective (library_causes f fs kind at args is class goes (Some key) of_key reflective
      (subst (λ o. In reflective (if_reflective o)) (sym of_row) (subst (λ b. In reflective (cond b (reflective ∷ []) [])) (sym holds) (inl refl))))
  stands_listed (native_initialiser {f} {fs} {body} may no_code) = cause_listed f fs native (initialiser_causes f fs body may no_code)

  pub stands_exact : (fs : List Frame) (method pc cause : ℕ) → In (record { cause = cause; method = method; pc = pc }) (stands_of app lists w fs) ↔ Stands app lists w fs method pc cause
  stands_exact fs method pc cause = (λ h. stands_from fs (record { cause = cause; method = method; pc = pc }) h, λ s. stands_listed s)
