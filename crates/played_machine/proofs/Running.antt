-- The events that are listed may come, and what is drawn of one is the machine's.
use Rattle.std.proofs.Common.{◌≡◌, ◌≢◌, ◌==◌, ◌⊎◌, inl, inr, ℕ, zero, suc, ◌+◌, ◌<◌, ◌≤◌, Bool, true, false, not, ◌&&◌, ◌||◌, cond, List, [], ◌∷◌, ◌++◌, map, filter, flat_map, length, Option, Some, None, slice_get, refl, sym, ap, ◌∙◌, subst, arith}
use Rattle.std.proofs.lemmas.Bool.{eqb-true, eq-eqb, or_cases}
use Rattle.std.proofs.lemmas.Option.{none-some, same_Some, slice_get_within}
use Rattle.vet_base.specs.Members.{In}
use Rattle.vet_base.proofs.Firsts.{given_found, index_found}
use Rattle.vet_base.proofs.Members.{in_either, from_flat, from_map, from_filter_map, list_all_in}
use Rattle.app_machine.specs.declared.app.App.{App}
use Rattle.app_machine.specs.declared.app.Class.{Class}
use Rattle.app_machine.specs.declared.call.Proto.{Proto}
use Rattle.app_machine.specs.declared.component.Component.{Component}
use Rattle.app_machine.specs.declared.component.Kind.TheVariants.{Application}
use Rattle.app_machine.specs.declared.lists.Lists.{Lists}
use Rattle.app_machine.specs.declared.method.Method.{Method}
use Rattle.app_machine.specs.Events.{MayBegin, LifeEventAt, Comes, lives, is_born, calls_back, is_clicked, is_handed, MayInitialise, labels_at, Parameter, is_blank, is_fresh, is_given, Parameters, no_more, one_more}
use Rattle.app_machine.specs.Heap.{Value, Object, labelled}
use Rattle.app_machine.specs.LifeEvents.{LifeEvent}
use Rattle.app_machine.specs.Lookups.{method_of, find_body, method_with, body_named, up}
use Rattle.app_machine.specs.Names.{Name, same_name, same_proto, descriptor_of, is_reference, click_descriptor}
use Rattle.app_machine.specs.Run.{no_body, native_body, Steps, passes, begins, begins_initialiser}
use Rattle.app_machine.specs.State.{World, value_or_blank}
use Rattle.app_machine.specs.Summaries.{numbers_from}
use Rattle.app_model.specs.EventBodies.{life_event, component_callback, click, handed_callback}
use Rattle.app_model.specs.EventLaws.{EventsAreExact}
use Rattle.app_model.specs.Initialisers.{component_initialisers}
use Rattle.played_machine.specs.Calling.{code_of}
use Rattle.played_machine.specs.Coming as coming
use Rattle.played_machine.specs.Coming.{Event, Receives, Initialiser, is_application, lets_begin, may_begin, lived, born, life_coming, callback_coming, click_coming, life_count, initialisations, component_events, handed_coming, handed_events, events, fresh_object, parameter_values, parameter, parameters, receiver, event_frame, begins_with, initialises_with, begun}
use Rattle.played_machine.specs.Drawing.{Drawing, give, ◌>>=◌, one_of, Draws}
use Rattle.played_machine.specs.Local.{Playing, playing}
use Rattle.played_machine.specs.Reading.{class_at, handed_places, is_of_type}
use Rattle.played_machine.proofs.Called.{has_code, no_code}
use Rattle.played_machine.proofs.Chosen.{gave, followed, one_drawn}
use Rattle.played_machine.proofs.Ordered.{false_true, from_filter}
use Rattle.played_machine.proofs.Reached.{class_there, was_handed}

pub in_numbers : (s n i : ℕ) → s ≤ i → i < s + n → In i (numbers_from s n)
in_numbers s zero i low high = absurd (omega (arith, low, high))
in_numbers s (suc n) i low high = by_first (i == s) refl (in_numbers (s + 1) n i)
  where
    by_first : (b : Bool) → (i == s) ≡ b → (s + 1 ≤ i → i < s + 1 + n → In i (numbers_from (s + 1) n)) → In i (s ∷ numbers_from (s + 1) n)
    by_first true e later = inl (eqb-true i s e)
    by_first false e later = inr (later (omega (arith, low, other)) (omega (arith, high)))
      where
        other : i ≡ s → ⊥
        other same = false_true (sym e ∙ eq-eqb i s same)

-- the method of a body that is found is there
module _ (app : App) (class : Name) (b : ℕ) where
  abbrev IsThere : Type 0
  IsThere = (m : Method) × (slice_get app.methods b ≡ Some m)

  found_there : (name : Name) (proto : Proto) → find_body app class name proto ≡ Some b → IsThere
  unfolding find_body method_of
  found_there name proto is =
      let found = given_found (λ (c : Class). method_of app c.name name proto) (up app class) b is in
      let at = index_found (λ (m : Method). same_name m.at.class found.0.name && same_name m.at.name name && same_proto m.at.proto proto) app.methods b found.2 in
      (at.0, at.1)

  named_there : (name descriptor : Name) → body_named app class name descriptor ≡ Some b → IsThere
  unfolding body_named method_with
  named_there name descriptor is =
      let found = given_found (λ (c : Class). method_with app c.name name descriptor) (up app class) b is in
      let at = index_found (λ (m : Method). same_name m.at.class found.0.name && same_name m.at.name name && same_name (descriptor_of m.at.proto) descriptor) app.methods b found.2 in
      (at.0, at.1)

-- the application comes first
module _ (app : App) (w : World) (c : ℕ) where
  an_application : (a : ℕ) (component : Component) → component.kind ≡ Application → lets_begin w c a (Some component) ≡ true → (a ≡ c) ⊎ ((w.components a).state ≡ 2)
  an_application a component kind lets = by_parts (or_cases (not (is_application component.kind)) ((a == c) || ((w.components a).state == 2)) lets)
    where
      by_parts : (not (is_application component.kind) ≡ true) ⊎ (((a == c) || ((w.components a).state == 2)) ≡ true) → (a ≡ c) ⊎ ((w.components a).state ≡ 2)
      by_parts (inl no_application) = absurd (false_true (sym (ap (λ k. not (is_application k)) kind) ∙ no_application))
      by_parts (inr one) = elim (or_cases (a == c) ((w.components a).state == 2) one) [ inl same ↦ inl (eqb-true a c same) | inr created ↦ inr (eqb-true (w.components a).state 2 created) ]

  pub may_so : may_begin app w c ≡ true → MayBegin app w c
  unfolding may_begin
  may_so may a is =
      let there : slice_get app.components a ≡ Some is.component = is.there.there in
      let below : a < length app.components = slice_get_within app.components a is.component there in
      let each = list_all_in (λ a. lets_begin w c a (slice_get app.components a)) (numbers_from 0 (length app.components)) a may (in_numbers 0 (length app.components) a (omega arith) (omega (arith, below))) in
      an_application a is.component is.kind (ap (λ o. lets_begin w c a o) (sym there) ∙ each)

module _ (app : App) (lists : Lists) (exact : EventsAreExact app lists) (w : World) where
  -- an event may come, and the method of its body is there
  pub record ComesWith (body place : Option ℕ) (sources : List (ℕ × ℕ)) (new : World) : Type 0 where
    pub comes : Comes app lists w body place sources new
    pub there : (b : ℕ) → body ≡ Some b → (m : Method) × (slice_get app.methods b ≡ Some m)

  abbrev pub IsComing : Event → Type 0
  IsComing (Receives body place sources new) = ComesWith body place sources new
  IsComing (Initialiser body) = MayInitialise app w body

  as_event : (one event : Event) → IsComing one → Some one ≡ Some event → IsComing event
  as_event one event is same = subst IsComing (same_Some one event same) is

  module _ (c : ℕ) where
    a_life : (e : ℕ) (found : Name × LifeEvent × Option ℕ) → life_event app c e ≡ Some found → LifeEventAt app c e found.0 found.1 found.2
    a_life e found is = (exact.life c e found.0 found.1 found.2).1 is

    life_there : (e : ℕ) (found : Name × LifeEvent × Option ℕ) → life_event app c e ≡ Some found → (b : ℕ) → found.2 ≡ Some b → (m : Method) × (slice_get app.methods b ≡ Some m)
    life_there e found is b some = named_there app found.0 b found.1.name found.1.descriptor ((a_life e found is).is_body ∙ some)

    life_so : (e : ℕ) (event : Event) (found : Name × LifeEvent × Option ℕ) → life_event app c e ≡ Some found → life_coming app w c (Some found) ≡ Some event → IsComing event
    life_so e event found is gives = by_state (found.1.from == (w.components c).state) refl gives
      where
        is_coming_to_life : (w.components c).state ≡ 0 → found.1.from ≡ 0 → may_begin app w c ≡ true → IsComing (born w c found.0 found.1 found.2)
        is_coming_to_life absent at_zero may = record { comes = is_born (a_life e found is) absent at_zero (may_so app w c may); there = life_there e found is }

        is_living : (w.components c).state ≡ found.1.from → found.1.from ≢ 0 → IsComing (lived w c found.1 found.2)
        is_living same some = record { comes = lives (a_life e found is) same some; there = life_there e found is }

        by_may : (w.components c).state ≡ 0 → found.1.from ≡ 0 → (b : Bool) → may_begin app w c ≡ b → cond b (Some (born w c found.0 found.1 found.2)) None ≡ Some event → IsComing event
        by_may absent at_zero true may gives = as_event (born w c found.0 found.1 found.2) event (is_coming_to_life absent at_zero may) gives
        by_may absent at_zero false may gives = absurd (none-some event gives)

        by_from : (w.components c).state ≡ found.1.from → (b : Bool) → (found.1.from == 0) ≡ b →
            cond b (cond (may_begin app w c) (Some (born w c found.0 found.1 found.2)) None) (Some (lived w c found.1 found.2)) ≡ Some event → IsComing event
        by_from same true is_zero gives = let at_zero : found.1.from ≡ 0 = eqb-true found.1.from 0 is_zero in by_may (same ∙ at_zero) at_zero (may_begin app w c) refl gives
        by_from same false some gives = as_event (lived w c found.1 found.2) event (is_living same (λ at_zero. false_true (sym some ∙ eq-eqb found.1.from 0 at_zero))) gives

        by_state : (b : Bool) → (found.1.from == (w.components c).state) ≡ b →
            cond b (cond (found.1.from == 0) (cond (may_begin app w c) (Some (born w c found.0 found.1 found.2)) None) (Some (lived w c found.1 found.2))) None ≡ Some event → IsComing event
        by_state true same gives = by_from (sym (eqb-true found.1.from (w.components c).state same)) (found.1.from == 0) refl gives
        by_state false same gives = absurd (none-some event gives)

    lives_so : (event : Event) → In event (coming.lives app w c) → IsComing event
    lives_so event h =
        let found = from_filter_map (λ e. life_coming app w c (life_event app c e)) (numbers_from 0 (life_count (slice_get app.components c))) event h in
        by_found found.0 (life_event app c found.0) refl found.2
      where
        by_found : (e : ℕ) (o : Option (Name × LifeEvent × Option ℕ)) → life_event app c e ≡ o → life_coming app w c o ≡ Some event → IsComing event
        by_found e None is gives = absurd (none-some event gives)
        by_found e (Some found) is gives = life_so e event found is gives

    callback_so : (w.components c).state ≢ 0 → (event : Event) → In event (coming.callbacks app lists w c) → IsComing event
    callback_so alive event h =
        let found = from_filter_map (λ q. callback_coming w (w.components c).place (component_callback app lists c q)) (numbers_from 0 (length lists.callbacks)) event h in
        by_found found.0 (component_callback app lists c found.0) refl found.2
      where
        by_found : (q : ℕ) (o : Option (List (ℕ × ℕ) × ℕ)) → component_callback app lists c q ≡ o → callback_coming w (w.components c).place o ≡ Some event → IsComing event
        by_found q None is gives = absurd (none-some event gives)
        by_found q (Some called) is gives =
            let at = (exact.callback c q called.0 called.1).1 is in
            as_event (Receives (Some called.1) (w.components c).place called.0 w) event (record {
              comes = calls_back at alive;
              there = λ b same. found_there app at.component.class b at.callback.name at.callback.proto (at.is_body ∙ same);
            }) gives

    click_so : (w.components c).state ≢ 0 → (event : Event) → In event (coming.clicks app w c) → IsComing event
    click_so alive event h =
        let found = from_filter_map (λ i. click_coming w (w.components c).place (click app c i)) (numbers_from 0 (length app.clicks)) event h in
        by_found found.0 (click app c found.0) refl found.2
      where
        by_found : (i : ℕ) (o : Option ℕ) → click app c i ≡ o → click_coming w (w.components c).place o ≡ Some event → IsComing event
        by_found i None is gives = absurd (none-some event gives)
        by_found i (Some body) is gives =
            let at = (exact.clicked c i body).1 is in
            as_event (Receives (Some body) (w.components c).place [] w) event (record {
              comes = is_clicked at alive;
              there = λ b same. named_there app at.component.class b at.name click_descriptor (at.is_body ∙ same);
            }) gives

    initialiser_so : (w.components c).state ≡ 0 → (event : Event) → In event (initialisations app w c) → IsComing event
    initialiser_so absent event h = by_may (may_begin app w c) refl h
      where
        by_may : (b : Bool) → may_begin app w c ≡ b → In event (cond b (map (λ body. Initialiser body) (component_initialisers app c)) []) → IsComing event
        by_may true may h =
            let found = from_map (λ (body : ℕ). Initialiser body) (component_initialisers app c) event h in
            subst IsComing (sym found.2) (record { c = c; at = (exact.initialiser c found.0).1 found.1; absent = absent; begins = may_so app w c may })
        by_may false may h = absurd h

    component_so : (event : Event) → In event (component_events app lists w c) → IsComing event
    unfolding component_events
    component_so event h = elim (in_either event (coming.lives app w c) (cond ((w.components c).state == 0) (initialisations app w c) (coming.callbacks app lists w c ++ coming.clicks app w c)) h) [
      | inl life ↦ lives_so event life
      | inr other ↦ by_state ((w.components c).state == 0) refl other
    ]
      where
        by_state : (b : Bool) → ((w.components c).state == 0) ≡ b → In event (cond b (initialisations app w c) (coming.callbacks app lists w c ++ coming.clicks app w c)) → IsComing event
        by_state true is h = initialiser_so (eqb-true (w.components c).state 0 is) event h
        by_state false is h =
            let alive : (w.components c).state ≢ 0 = λ at_zero. false_true (sym is ∙ eq-eqb (w.components c).state 0 at_zero) in
            elim (in_either event (coming.callbacks app lists w c) (coming.clicks app w c) h) [ inl callback ↦ callback_so alive event callback | inr clicked ↦ click_so alive event clicked ]

  handed_so : (q : ℕ) (event : Event) → In event (handed_events app lists w q) → IsComing event
  unfolding handed_events
  handed_so q event h =
      let found = from_filter_map (λ p. handed_coming app lists w q p (class_at w.heap p)) (handed_places w.handed) event h in
      by_class found.0 (was_handed w.handed found.0 found.1) (class_at w.heap found.0) refl found.2
    where
      by_callback : (p : ℕ) → In p w.handed → (class : Name) → class_at w.heap p ≡ Some class → (o : Option (List (ℕ × ℕ) × ℕ)) → handed_callback app lists q class ≡ o → callback_coming w (Some p) o ≡ Some event → IsComing event
      by_callback p at class of None is gives = absurd (none-some event gives)
      by_callback p at class of (Some called) is gives =
          let row = (exact.handed q class called.0 called.1).1 is in
          as_event (Receives (Some called.1) (Some p) called.0 w) event (record {
            comes = is_handed at (class_there w.heap p class of) row;
            there = λ b same. found_there app class b row.callback.name row.callback.proto (row.is_body ∙ same);
          }) gives

      by_class : (p : ℕ) → In p w.handed → (o : Option Name) → class_at w.heap p ≡ o → handed_coming app lists w q p o ≡ Some event → IsComing event
      by_class p at None of gives = absurd (none-some event gives)
      by_class p at (Some class) of gives = by_callback p at class of (handed_callback app lists q class) refl gives

  pub events_so : (event : Event) → In event (events app lists w) → IsComing event
  unfolding events
  events_so event h = elim (in_either event (flat_map (component_events app lists w) (numbers_from 0 (length app.components))) (flat_map (handed_events app lists w) (numbers_from 0 (length lists.callbacks))) h) [
    | inl one ↦ let found = from_flat (component_events app lists w) (numbers_from 0 (length app.components)) event one in component_so found.0 event found.2
    | inr one ↦ let found = from_flat (handed_events app lists w) (numbers_from 0 (length lists.callbacks)) event one in handed_so found.0 event found.2
  ]

  from_second : (v : Value) (vs : List Value) (j : ℕ) → value_or_blank (v ∷ vs) (1 + j) ≡ value_or_blank vs j
  from_second v vs j = let same : 1 + j ≡ suc j = omega arith in ap (value_or_blank (v ∷ vs)) same

  -- the parameters
  module _ (handed : List ℕ) (labels : List ℕ) (type : Name) (heap : List Object) where
    abbrev IsParameter : Value × List Object → Type 0
    IsParameter got = Parameter app lists handed labels type heap got.0 got.1

    of_type : (p : ℕ) → is_reference type ≡ true → In p handed → is_of_type app lists type (class_at heap p) ≡ true → IsParameter (record { place = Some p; labels = labels }, heap)
    of_type p reference at holds = by_class (class_at heap p) refl holds
      where
        by_class : (o : Option Name) → class_at heap p ≡ o → is_of_type app lists type o ≡ true → IsParameter (record { place = Some p; labels = labels }, heap)
        by_class None is holds = absurd (false_true holds)
        by_class (Some class) is holds = is_given reference at (class_there heap p class is) ((exact.below class type).0 holds)

    handed_value : is_reference type ≡ true → (got : Value × List Object) →
        In got (map (λ p. (record { place = Some p; labels = labels }, heap)) (filter (λ p. is_of_type app lists type (class_at heap p)) (handed_places handed))) → IsParameter got
    handed_value reference got h =
        let found = from_map (λ (p : ℕ). (record { place = Some p; labels = labels }, heap)) (filter (λ p. is_of_type app lists type (class_at heap p)) (handed_places handed)) got h in
        let kept = from_filter (λ p. is_of_type app lists type (class_at heap p)) (handed_places handed) found.0 found.1 in
        subst IsParameter (sym found.2) (of_type found.0 reference (was_handed handed found.0 kept.0) kept.1)

    one_value : is_reference type ≡ true → (got : Value × List Object) → In got (parameter_values app lists handed labels type heap) → IsParameter got
    one_value reference got (inl same) = subst IsParameter (sym same) is_blank
    one_value reference got (inr (inl same)) = subst IsParameter (sym same) (is_fresh reference)
    one_value reference got (inr (inr h)) = handed_value reference got h

    parameter_so : (got : Value × List Object) → Draws (parameter app lists handed labels type heap) got → IsParameter got
    parameter_so got d = by_type (is_reference type) refl d
      where
        by_type : (b : Bool) → is_reference type ≡ b → Draws (cond b (one_of (parameter_values app lists handed labels type heap)) (give (labelled labels, heap))) got → IsParameter got
        by_type true is d = one_value is got (one_drawn (parameter_values app lists handed labels type heap) got d)
        by_type false is d = subst IsParameter (sym (gave (labelled labels, heap) got d)) is_blank

  module _ (handed : List ℕ) (sources : List (ℕ × ℕ)) (value : ℕ → Value) where
    -- these are the values from position i on
    abbrev AreFrom : ℕ → List Value → Type 0
    AreFrom i vs = (j : ℕ) → value (i + j) ≡ value_or_blank vs j

    at_first : (i : ℕ) (v : Value) (vs : List Value) → AreFrom i (v ∷ vs) → value i ≡ v
    at_first i v vs are = let same : i ≡ i + 0 = omega arith in ap value same ∙ are 0

    at_others : (i : ℕ) (v : Value) (vs : List Value) → AreFrom i (v ∷ vs) → AreFrom (i + 1) vs
    at_others i v vs are j = let same : i + 1 + j ≡ i + suc j = omega arith in ap value same ∙ are (suc j)

    -- the parameters behind the first
    abbrev others_after : ℕ → List Name → Value × List Object → Drawing (List Value × List Object)
    others_after i types first = parameters app lists handed sources (i + 1) types first.1 >>= λ (others : List Value × List Object). give (first.0 ∷ others.0, others.1)

    parameters_so : (types : List Name) (i : ℕ) (heap : List Object) (got : List Value × List Object) → Draws (parameters app lists handed sources i types heap) got → AreFrom i got.0 → Parameters app lists handed sources value i types heap got.1
    parameters_so [] i heap got d are = subst (λ (z : List Value × List Object). Parameters app lists handed sources value i [] heap z.1) (sym (gave ([], heap) got d)) no_more
    parameters_so (type ∷ types) i heap got d are =
        let first = followed (parameter app lists handed (labels_at sources i) type heap) (others_after i types) got d in
        let others = followed (parameters app lists handed sources (i + 1) types first.by.1) (λ (others : List Value × List Object). give (first.by.0 ∷ others.0, others.1)) got first.after in
        let is : got ≡ (first.by.0 ∷ others.by.0, others.by.1) = gave (first.by.0 ∷ others.by.0, others.by.1) got others.after in
        let all : AreFrom i (first.by.0 ∷ others.by.0) = subst (λ (z : List Value × List Object). AreFrom i z.0) is are in
        subst (λ (z : List Value × List Object). Parameters app lists handed sources value i (type ∷ types) heap z.1) (sym is)
        (one_more
        (subst (λ v. Parameter app lists handed (labels_at sources i) type heap v first.by.1) (sym (at_first i first.by.0 others.by.0 all)) (parameter_so handed (labels_at sources i) type heap first.by first.drawn))
        (parameters_so types (i + 1) first.by.1 others.by others.drawn (at_others i first.by.0 others.by.0 all)))

  -- what is drawn of an event
  abbrev pub BeginsAs : Playing → Type 0
  BeginsAs t = Steps app lists w [] t.world t.frames ⊎ (t ≡ playing w [])

  body_so : (body : ℕ) (place : Option ℕ) (sources : List (ℕ × ℕ)) (new : World) → ComesWith (Some body) place sources new → (t : Playing) → Draws (begins_with app lists body place sources new (code_of app body)) t → BeginsAs t
  body_so body place sources new is t d = by_code (code_of app body) refl d
    where
      with_code : (m : Method) → code_of app body ≡ Some m → Draws (begins_with app lists body place sources new (Some m)) t → BeginsAs t
      with_code m code d =
          let h = followed (parameters app lists new.handed sources 1 m.at.proto.params new.heap) (λ (drawn : List Value × List Object). give (playing (record new { heap = drawn.1 }) (event_frame body m (receiver place sources ∷ drawn.0) ∷ []))) t d in
          subst BeginsAs (sym (gave (playing (record new { heap = h.by.1 }) (event_frame body m (receiver place sources ∷ h.by.0) ∷ [])) t h.after))
          (inl (begins {value = value_or_blank (receiver place sources ∷ h.by.0)} is.comes (has_code app body m code) refl
          (parameters_so new.handed sources (value_or_blank (receiver place sources ∷ h.by.0)) m.at.proto.params 1 new.heap h.by h.drawn (from_second (receiver place sources) h.by.0))))

      by_code : (o : Option Method) → code_of app body ≡ o → Draws (begins_with app lists body place sources new o) t → BeginsAs t
      by_code None code d =
          let there = is.there body refl in
          subst BeginsAs (sym (gave (playing new []) t d)) (inl (passes is.comes (native_body (no_code app body there.0 there.1 code))))
      by_code (Some m) code d = with_code m code d

  initialises_so : (body : ℕ) → MayInitialise app w body → (o : Option Method) → code_of app body ≡ o → BeginsAs (initialises_with body w o)
  initialises_so body may None code = inr refl
  initialises_so body may (Some m) code = inl (begins_initialiser may (has_code app body m code))

  pub begun_so : (event : Event) → IsComing event → (t : Playing) → Draws (begun app lists w event) t → BeginsAs t
  unfolding begun
  begun_so (Receives None place sources new) is t d = subst BeginsAs (sym (gave (playing new []) t d)) (inl (passes is.comes no_body))
  begun_so (Receives (Some body) place sources new) is t d = body_so body place sources new is t d
  begun_so (Initialiser body) is t d = subst BeginsAs (sym (gave (initialises_with body w (code_of app body)) t d)) (initialises_so body is (code_of app body) refl)
