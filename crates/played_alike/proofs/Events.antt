-- Events that may come in alike worlds.
use Rattle.std.proofs.Common.{◌≡◌, ◌==◌, ℕ, ◌+◌, ◌-◌, Bool, true, false, not, ◌&&◌, ◌||◌, cond, List, [], ◌∷◌, ◌++◌, map, filter, flat_map, filter_map, length, Option, Some, None, slice_get, refl, ap, ◌∙◌, subst}
use Rattle.std.specs.Prelude.{nat_le, nat_lt}
use Rattle.std.specs.List.{list_all}
use Rattle.app_machine.specs.declared.app.App.{App}
use Rattle.app_machine.specs.declared.component.Component.{Component}
use Rattle.app_machine.specs.declared.lists.Lists.{Lists}
use Rattle.app_machine.specs.declared.method.Method.{Method}
use Rattle.app_machine.specs.Events.{set_component, after_event, labels_at, layout}
use Rattle.app_machine.specs.Heap.{Value, Object, blank, labelled}
use Rattle.app_machine.specs.LifeEvents.{LifeEvent}
use Rattle.app_machine.specs.Names.{Name, is_reference}
use Rattle.app_machine.specs.Run.{frame_of}
use Rattle.app_machine.specs.State.{World, ComponentState, new_object, value_or_blank}
use Rattle.app_machine.specs.Summaries.{numbers_from}
use Rattle.app_model.specs.EventBodies.{life_event, component_callback, click, handed_callback}
use Rattle.app_model.specs.Initialisers.{component_initialisers}
use Rattle.played_machine.specs.Calling.{code_of}
use Rattle.played_machine.specs.Coming as coming
use Rattle.played_machine.specs.Coming.{Event, Receives, Initialiser, lets_begin, may_begin, lived, born, life_coming, callback_coming, click_coming, life_count, initialisations, component_events, handed_coming, handed_events, events, fresh_object, parameter_values, parameter, parameters, receiver, event_frame, begins_with, initialises_with, begun}
use Rattle.played_machine.specs.Drawing.{Drawing, give, ◌>>=◌, one_of}
use Rattle.played_machine.specs.Local.{playing}
use Rattle.played_machine.specs.Reading.{class_at, handed_places, is_of_type}
use Rattle.played_alike.specs.Alike.{Pairwise, AlikeValue, AlikeObject, AlikeHeap, AlikeFrame, AlikeWorld, AlikePlaying}
use Rattle.played_alike.proofs.Heaps.{alike_itself, alike_cond, same_class, alike_object, alike_more}
use Rattle.played_alike.proofs.Local.{with_heap}
use Rattle.played_alike.proofs.Pairs.{AlikeOption, AlikeDrawings, pair_append, pair_length, pair_get, pair_map, pair_filter_map, pair_flat_map, alike_give, alike_if, alike_one, alike_after}

-- frames that begin
alike_or_blank : (vs ws : List Value) → Pairwise AlikeValue vs ws → (i : ℕ) → AlikeValue (value_or_blank vs i) (value_or_blank ws i)
alike_or_blank vs ws pairs i = by_slot (slice_get vs i) (slice_get ws i) (pair_get AlikeValue vs ws i pairs)
  where
    by_slot : (o q : Option Value) → AlikeOption AlikeValue o q → AlikeValue (elim o as (λ (z : Option Value). Value) [ Some v ↦ v | None ↦ blank ]) (elim q as (λ (z : Option Value). Value) [ Some v ↦ v | None ↦ blank ])
    by_slot None None one = alike_itself blank
    by_slot None (Some y) one = absurd one
    by_slot (Some x) None one = absurd one
    by_slot (Some x) (Some y) one = one

pub alike_frame : (body : ℕ) (m : Method) (vs ws : List Value) (initialises : Bool) → Pairwise AlikeValue vs ws → AlikeFrame (frame_of body m vs initialises) (frame_of body m ws initialises)
alike_frame body m vs ws initialises pairs = record {
  method = refl;
  pc = refl;
  registers = λ r. alike_cond (nat_le (m.registers - m.ins) r && nat_lt r m.registers) (value_or_blank vs (r - (m.registers - m.ins))) (value_or_blank ws (r - (m.registers - m.ins))) blank blank (alike_or_blank vs ws pairs (r - (m.registers - m.ins))) (alike_itself blank);
  initialises = refl;
}

abbrev pub AlikeEvent : Event → Event → Type 0
AlikeEvent (Receives body place sources w) (Receives body' place' sources' w') = (body ≡ body') × (place ≡ place') × (sources ≡ sources') × AlikeWorld w w'
AlikeEvent (Receives body place sources w) (Initialiser body') = ⊥
AlikeEvent (Initialiser body) (Receives body' place' sources' w') = ⊥
AlikeEvent (Initialiser body) (Initialiser body') = body ≡ body'

-- Of worlds with the very same components.
module _ (app : App) (lists : Lists) (w u : World) (alike : AlikeWorld w u) where
  same_length : length w.heap ≡ length u.heap
  same_length = pair_length AlikeObject w.heap u.heap alike.heap

  same_lets : (c a : ℕ) (o : Option Component) → lets_begin w c a o ≡ lets_begin u c a o
  same_lets c a None = refl
  same_lets c a (Some component) = ap (λ (cs : ℕ → ComponentState). not (coming.is_application component.kind) || ((a == c) || ((cs a).state == 2))) alike.components

  all_same : (c : ℕ) (cs : List ℕ) → list_all (λ a. lets_begin w c a (slice_get app.components a)) cs ≡ list_all (λ a. lets_begin u c a (slice_get app.components a)) cs
  all_same c [] = refl
  all_same c (a ∷ cs) =
      ap (λ b. b && list_all (λ a. lets_begin w c a (slice_get app.components a)) cs) (same_lets c a (slice_get app.components a))
      ∙ ap (λ b. lets_begin u c a (slice_get app.components a) && b) (all_same c cs)

  same_may : (c : ℕ) → may_begin app w c ≡ may_begin app u c
  unfolding may_begin
  same_may c = all_same c (numbers_from 0 (length app.components))

  same_state : (c : ℕ) → (w.components c).state ≡ (u.components c).state
  same_state c = ap (λ (cs : ℕ → ComponentState). (cs c).state) alike.components

  same_place : (c : ℕ) → (w.components c).place ≡ (u.components c).place
  same_place c = ap (λ (cs : ℕ → ComponentState). (cs c).place) alike.components

  -- the world after a change of a component's state
  alike_set : (c : ℕ) (s t : ComponentState) → s ≡ t → (heap heap' : List Object) → AlikeHeap heap heap' →
      AlikeWorld (record w { heap = heap; components = set_component w.components c s }) (record u { heap = heap'; components = set_component u.components c t })
  alike_set c s t same heap heap' heaps = record {
    heap = heaps;
    statics = alike.statics;
    components = ap (λ (cs : ℕ → ComponentState). set_component cs c s) alike.components ∙ ap (λ z. set_component u.components c z) same;
    handed = alike.handed;
    arrivals = alike.arrivals;
  }

  alike_lived : (c : ℕ) (life : LifeEvent) (body : Option ℕ) → AlikeEvent (lived w c life body) (lived u c life body)
  alike_lived c life body = (refl, same_place c, refl, alike_set c (after_event life (w.components c).place) (after_event life (u.components c).place) (ap (after_event life) (same_place c)) w.heap u.heap alike.heap)

  alike_born : (c : ℕ) (class : Name) (life : LifeEvent) (body : Option ℕ) → AlikeEvent (born w c class life body) (born u c class life body)
  alike_born c class life body =
      let place : Some (length w.heap) ≡ Some (length u.heap) = ap (λ n. Some n) same_length in (
        refl,
        place,
        refl,
        alike_set c (after_event life (Some (length w.heap))) (after_event life (Some (length u.heap))) (ap (after_event life) place) (w.heap ++ new_object class ∷ []) (u.heap ++ new_object class ∷ [])
            (alike_more w.heap u.heap (new_object class) (new_object class) alike.heap (alike_object (new_object class))),
      )

  abbrev EventsAlike : List Event → List Event → Type 0
  EventsAlike = Pairwise AlikeEvent

  abbrev life_by : World → ℕ → Name × LifeEvent × Option ℕ → ℕ → Bool → Option Event
  life_by v c found state may = cond (found.1.from == state) (cond (found.1.from == 0) (cond may (Some (born v c found.0 found.1 found.2)) None) (Some (lived v c found.1 found.2))) None

  alike_life : (c : ℕ) (o : Option (Name × LifeEvent × Option ℕ)) → AlikeOption AlikeEvent (life_coming app w c o) (life_coming app u c o)
  alike_life c None = tt
  alike_life c (Some found) =
      subst (λ s. AlikeOption AlikeEvent (life_by w c found (w.components c).state (may_begin app w c)) (life_by u c found s (may_begin app u c))) (same_state c)
      (subst (λ m. AlikeOption AlikeEvent (life_by w c found (w.components c).state (may_begin app w c)) (life_by u c found (w.components c).state m)) (same_may c)
      (by_tests (found.1.from == (w.components c).state) (found.1.from == 0) (may_begin app w c)))
    where
      by_tests : (a b m : Bool) →
          AlikeOption AlikeEvent (cond a (cond b (cond m (Some (born w c found.0 found.1 found.2)) None) (Some (lived w c found.1 found.2))) None) (cond a (cond b (cond m (Some (born u c found.0 found.1 found.2)) None) (Some (lived u c found.1 found.2))) None)
      by_tests false b m = tt
      by_tests true false m = alike_lived c found.1 found.2
      by_tests true true false = tt
      by_tests true true true = alike_born c found.0 found.1 found.2

  alike_callback : (p q : Option ℕ) → p ≡ q → (o : Option (List (ℕ × ℕ) × ℕ)) → AlikeOption AlikeEvent (callback_coming w p o) (callback_coming u q o)
  alike_callback p q same None = tt
  alike_callback p q same (Some called) = (refl, same, refl, alike)

  alike_click : (p q : Option ℕ) → p ≡ q → (o : Option ℕ) → AlikeOption AlikeEvent (click_coming w p o) (click_coming u q o)
  alike_click p q same None = tt
  alike_click p q same (Some body) = (refl, same, refl, alike)

  alike_lives : (c : ℕ) → EventsAlike (coming.lives app w c) (coming.lives app u c)
  alike_lives c = pair_filter_map AlikeEvent (λ e. life_coming app w c (life_event app c e)) (λ e. life_coming app u c (life_event app c e)) (λ e. alike_life c (life_event app c e)) (numbers_from 0 (life_count (slice_get app.components c)))

  alike_callbacks : (c : ℕ) → EventsAlike (coming.callbacks app lists w c) (coming.callbacks app lists u c)
  alike_callbacks c = pair_filter_map AlikeEvent (λ q. callback_coming w (w.components c).place (component_callback app lists c q)) (λ q. callback_coming u (u.components c).place (component_callback app lists c q))
      (λ q. alike_callback (w.components c).place (u.components c).place (same_place c) (component_callback app lists c q)) (numbers_from 0 (length lists.callbacks))

  alike_clicks : (c : ℕ) → EventsAlike (coming.clicks app w c) (coming.clicks app u c)
  alike_clicks c = pair_filter_map AlikeEvent (λ i. click_coming w (w.components c).place (click app c i)) (λ i. click_coming u (u.components c).place (click app c i))
      (λ i. alike_click (w.components c).place (u.components c).place (same_place c) (click app c i)) (numbers_from 0 (length app.clicks))

  alike_initialisations : (c : ℕ) → EventsAlike (initialisations app w c) (initialisations app u c)
  alike_initialisations c = subst (λ m. EventsAlike (initialisations app w c) (cond m (map (λ body. Initialiser body) (component_initialisers app c)) [])) (same_may c) (by_may (may_begin app w c))
    where
      by_may : (m : Bool) → EventsAlike (cond m (map (λ body. Initialiser body) (component_initialisers app c)) []) (cond m (map (λ body. Initialiser body) (component_initialisers app c)) [])
      by_may true = pair_map AlikeEvent (λ (body : ℕ). Initialiser body) (λ (body : ℕ). Initialiser body) (λ body. refl) (component_initialisers app c)
      by_may false = tt

  alike_component : (c : ℕ) → EventsAlike (component_events app lists w c) (component_events app lists u c)
  unfolding component_events
  alike_component c =
      pair_append AlikeEvent (coming.lives app w c) (coming.lives app u c) (cond ((w.components c).state == 0) (initialisations app w c) (coming.callbacks app lists w c ++ coming.clicks app w c)) (cond ((u.components c).state == 0) (initialisations app u c) (coming.callbacks app lists u c ++ coming.clicks app u c))
      (alike_lives c)
      (subst (λ s. EventsAlike (cond ((w.components c).state == 0) (initialisations app w c) (coming.callbacks app lists w c ++ coming.clicks app w c)) (cond (s == 0) (initialisations app u c) (coming.callbacks app lists u c ++ coming.clicks app u c))) (same_state c)
      (by_state ((w.components c).state == 0)))
    where
      by_state : (b : Bool) → EventsAlike (cond b (initialisations app w c) (coming.callbacks app lists w c ++ coming.clicks app w c)) (cond b (initialisations app u c) (coming.callbacks app lists u c ++ coming.clicks app u c))
      by_state true = alike_initialisations c
      by_state false = pair_append AlikeEvent (coming.callbacks app lists w c) (coming.callbacks app lists u c) (coming.clicks app w c) (coming.clicks app u c) (alike_callbacks c) (alike_clicks c)

  alike_handed_coming : (q p : ℕ) → AlikeOption AlikeEvent (handed_coming app lists w q p (class_at w.heap p)) (handed_coming app lists u q p (class_at u.heap p))
  alike_handed_coming q p = subst (λ o. AlikeOption AlikeEvent (handed_coming app lists w q p (class_at w.heap p)) (handed_coming app lists u q p o)) (same_class w.heap u.heap alike.heap p) (by_class (class_at w.heap p))
    where
      by_class : (o : Option Name) → AlikeOption AlikeEvent (handed_coming app lists w q p o) (handed_coming app lists u q p o)
      by_class None = tt
      by_class (Some class) = alike_callback (Some p) (Some p) refl (handed_callback app lists q class)

  alike_handed : (q : ℕ) → EventsAlike (handed_events app lists w q) (handed_events app lists u q)
  unfolding handed_events
  alike_handed q = subst (λ ps. EventsAlike (filter_map (λ p. handed_coming app lists w q p (class_at w.heap p)) (handed_places w.handed)) (filter_map (λ p. handed_coming app lists u q p (class_at u.heap p)) ps)) alike.handed
      (pair_filter_map AlikeEvent (λ p. handed_coming app lists w q p (class_at w.heap p)) (λ p. handed_coming app lists u q p (class_at u.heap p)) (alike_handed_coming q) (handed_places w.handed))

  pub alike_events : Pairwise AlikeEvent (events app lists w) (events app lists u)
  unfolding events
  alike_events =
      pair_append AlikeEvent (flat_map (component_events app lists w) (numbers_from 0 (length app.components))) (flat_map (component_events app lists u) (numbers_from 0 (length app.components))) (flat_map (handed_events app lists w) (numbers_from 0 (length lists.callbacks))) (flat_map (handed_events app lists u) (numbers_from 0 (length lists.callbacks)))
      (pair_flat_map AlikeEvent (component_events app lists w) (component_events app lists u) alike_component (numbers_from 0 (length app.components)))
      (pair_flat_map AlikeEvent (handed_events app lists w) (handed_events app lists u) alike_handed (numbers_from 0 (length lists.callbacks)))

-- the parameters
abbrev pub AlikeGot : Value × List Object → Value × List Object → Type 0
AlikeGot a b = AlikeValue a.0 b.0 × AlikeHeap a.1 b.1

abbrev pub AlikeParameters : List Value × List Object → List Value × List Object → Type 0
AlikeParameters a b = Pairwise AlikeValue a.0 b.0 × AlikeHeap a.1 b.1

module _ (app : App) (lists : Lists) (handed handed' : List ℕ) (places : handed_places handed ≡ handed_places handed') where
  module _ (labels : List ℕ) (type : Name) (heap heap' : List Object) (heaps : AlikeHeap heap heap') where
    abbrev below : (ℕ → Option Name) → List ℕ → List ℕ
    below classes ps = filter (λ p. is_of_type app lists type (classes p)) ps

    same_below : below (class_at heap) (handed_places handed) ≡ below (class_at heap') (handed_places handed')
    same_below =
        let classes : class_at heap ≡ class_at heap' = λ i p. same_class heap heap' heaps p i in
        ap (λ (cs : ℕ → Option Name). below cs (handed_places handed)) classes ∙ ap (below (class_at heap')) places

    alike_parameter_values : Pairwise AlikeGot (parameter_values app lists handed labels type heap) (parameter_values app lists handed' labels type heap')
    alike_parameter_values = (
      (alike_itself (labelled labels), heaps),
      (
        (record { place = ap (λ n. Some n) (pair_length AlikeObject heap heap' heaps); labels = λ l. (λ h. h, λ h. h) }, alike_more heap heap' (fresh_object type labels) (fresh_object type labels) heaps (alike_object (fresh_object type labels))),
        subst (λ ps. Pairwise AlikeGot (map (λ p. (record { place = Some p; labels = labels }, heap)) (below (class_at heap) (handed_places handed))) (map (λ p. (record { place = Some p; labels = labels }, heap')) ps)) same_below
            (pair_map AlikeGot (λ (p : ℕ). (record { place = Some p; labels = labels }, heap)) (λ (p : ℕ). (record { place = Some p; labels = labels }, heap')) (λ p. (alike_itself (record { place = Some p; labels = labels }), heaps)) (below (class_at heap) (handed_places handed))),
      ),
    )

    alike_parameter : AlikeDrawings AlikeGot (parameter app lists handed labels type heap) (parameter app lists handed' labels type heap')
    alike_parameter =
        alike_if AlikeGot (is_reference type) (one_of (parameter_values app lists handed labels type heap)) (one_of (parameter_values app lists handed' labels type heap')) (give (labelled labels, heap)) (give (labelled labels, heap'))
        (alike_one AlikeGot (parameter_values app lists handed labels type heap) (parameter_values app lists handed' labels type heap') alike_parameter_values)
        (alike_give AlikeGot (labelled labels, heap) (labelled labels, heap') (alike_itself (labelled labels), heaps))

  abbrev with_others : Value × List Object → List Value × List Object → Drawing (List Value × List Object)
  with_others first others = give (first.0 ∷ others.0, others.1)

  pub alike_parameters : (sources : List (ℕ × ℕ)) (types : List Name) (i : ℕ) (heap heap' : List Object) → AlikeHeap heap heap' → AlikeDrawings AlikeParameters (parameters app lists handed sources i types heap) (parameters app lists handed' sources i types heap')
  alike_parameters sources [] i heap heap' heaps = alike_give AlikeParameters ([], heap) ([], heap') (tt, heaps)
  alike_parameters sources (type ∷ types) i heap heap' heaps =
      alike_after AlikeGot AlikeParameters (parameter app lists handed (labels_at sources i) type heap) (parameter app lists handed' (labels_at sources i) type heap')
      (λ (first : Value × List Object). parameters app lists handed sources (i + 1) types first.1 >>= with_others first) (λ (first : Value × List Object). parameters app lists handed' sources (i + 1) types first.1 >>= with_others first)
      (alike_parameter (labels_at sources i) type heap heap' heaps)
      (λ x y one. alike_after AlikeParameters AlikeParameters (parameters app lists handed sources (i + 1) types x.1) (parameters app lists handed' sources (i + 1) types y.1) (with_others x) (with_others y)
      (alike_parameters sources types (i + 1) x.1 y.1 one.1)
      (λ others others' two. alike_give AlikeParameters (x.0 ∷ others.0, others.1) (y.0 ∷ others'.0, others'.1) ((one.0, two.0), two.1)))

-- what an event comes to
module _ (app : App) (lists : Lists) where
  alike_begins : (body : ℕ) (place : Option ℕ) (sources : List (ℕ × ℕ)) (w u : World) → AlikeWorld w u → (o : Option Method) → AlikeDrawings AlikePlaying (begins_with app lists body place sources w o) (begins_with app lists body place sources u o)
  alike_begins body place sources w u alike None = alike_give AlikePlaying (playing w []) (playing u []) (record { world = alike; frames = tt })
  alike_begins body place sources w u alike (Some m) =
      alike_after AlikeParameters AlikePlaying (parameters app lists w.handed sources 1 m.at.proto.params w.heap) (parameters app lists u.handed sources 1 m.at.proto.params u.heap)
      (λ (drawn : List Value × List Object). give (playing (record w { heap = drawn.1 }) (event_frame body m (receiver place sources ∷ drawn.0) ∷ [])))
      (λ (drawn : List Value × List Object). give (playing (record u { heap = drawn.1 }) (event_frame body m (receiver place sources ∷ drawn.0) ∷ [])))
      (alike_parameters app lists w.handed u.handed alike.handed sources m.at.proto.params 1 w.heap u.heap alike.heap)
      (λ x y one. alike_give AlikePlaying (playing (record w { heap = x.1 }) (event_frame body m (receiver place sources ∷ x.0) ∷ [])) (playing (record u { heap = y.1 }) (event_frame body m (receiver place sources ∷ y.0) ∷ [])) (record {
        world = with_heap w u alike x.1 y.1 one.1;
        frames = (
          alike_frame body m (map (value_or_blank (receiver place sources ∷ x.0)) (layout m.at.proto.params)) (map (value_or_blank (receiver place sources ∷ y.0)) (layout m.at.proto.params)) false
              (pair_map AlikeValue (value_or_blank (receiver place sources ∷ x.0)) (value_or_blank (receiver place sources ∷ y.0)) (alike_or_blank (receiver place sources ∷ x.0) (receiver place sources ∷ y.0) (alike_itself (receiver place sources), one.0)) (layout m.at.proto.params)),
          tt,
        );
      }))

  alike_initialises : (body : ℕ) (w u : World) → AlikeWorld w u → (o : Option Method) → AlikePlaying (initialises_with body w o) (initialises_with body u o)
  alike_initialises body w u alike None = record { world = alike; frames = tt }
  alike_initialises body w u alike (Some m) = record { world = alike; frames = (alike_frame body m [] [] false tt, tt) }

  alike_received : (w u : World) (body place : Option ℕ) (sources : List (ℕ × ℕ)) (new new' : World) → AlikeWorld new new' → AlikeDrawings AlikePlaying (begun app lists w (Receives body place sources new)) (begun app lists u (Receives body place sources new'))
  unfolding begun
  alike_received w u None place sources new new' alike = alike_give AlikePlaying (playing new []) (playing new' []) (record { world = alike; frames = tt })
  alike_received w u (Some body) place sources new new' alike = alike_begins body place sources new new' alike (code_of app body)

  alike_initialised : (w u : World) → AlikeWorld w u → (body : ℕ) → AlikeDrawings AlikePlaying (begun app lists w (Initialiser body)) (begun app lists u (Initialiser body))
  unfolding begun
  alike_initialised w u alike body = alike_give AlikePlaying (initialises_with body w (code_of app body)) (initialises_with body u (code_of app body)) (alike_initialises body w u alike (code_of app body))

  pub alike_begun : (w u : World) → AlikeWorld w u → (e e' : Event) → AlikeEvent e e' → AlikeDrawings AlikePlaying (begun app lists w e) (begun app lists u e')
  alike_begun w u alike (Receives body place sources new) (Receives body' place' sources' new') same =
      subst (λ z. AlikeDrawings AlikePlaying (begun app lists w (Receives body place sources new)) (begun app lists u (Receives z place' sources' new'))) same.0
      (subst (λ z. AlikeDrawings AlikePlaying (begun app lists w (Receives body place sources new)) (begun app lists u (Receives body z sources' new'))) same.1
      (subst (λ z. AlikeDrawings AlikePlaying (begun app lists w (Receives body place sources new)) (begun app lists u (Receives body place z new'))) same.2
      (alike_received w u body place sources new new' same.3)))
  alike_begun w u alike (Receives body place sources new) (Initialiser body') same = absurd same
  alike_begun w u alike (Initialiser body) (Receives body' place' sources' new') same = absurd same
  alike_begun w u alike (Initialiser body) (Initialiser body') same =
      subst (λ z. AlikeDrawings AlikePlaying (begun app lists w (Initialiser body)) (begun app lists u (Initialiser z))) same (alike_initialised w u alike body)
