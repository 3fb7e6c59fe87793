-- What is listed of events follows by the rules of the second set.
use Rattle.std.proofs.Common.{◌≡◌, ◌==◌, ◌<◌, ◌+◌, ◌-◌, ℕ, false, List, [], ◌∷◌, ◌++◌, Option, Some, None, option_map, cond, length, slice_get, eqb-true, refl, sym, ap, subst, ◌∙◌, inl, inr}
use Rattle.std.specs.List.{AllByRecursion}
use Rattle.std.proofs.lemmas.Option.{none-some, same_Some}
use Rattle.vet_base.proofs.Every.{each_append, each_where, each_unless}
use Rattle.app_machine.specs.declared.component.Component.{Component as ComponentOf}
use Rattle.app_machine.specs.declared.method.Method.{Method}
use Rattle.app_machine.specs.declared.lists.Lists.{Lists}
use Rattle.app_machine.specs.declared.app.App.{App}
use Rattle.app_machine.specs.Events.{LifeEventAt, CallbackAt, HandedAt, callback_body, layout}
use Rattle.app_machine.specs.LifeEvents.{LifeEvent}
use Rattle.app_machine.specs.Names.{Name}
use Rattle.app_machine.specs.Summaries.{Below}
use Rattle.app_model.specs.EventBodies.{click, handed_callback, life_event}
use Rattle.app_model.specs.EventLaws.{EventsAreExact}
use Rattle.event_index.specs.Comings.{callback_run}
use Rattle.fact_rows.specs.Contexts.{IsEvent}
use Rattle.fact_rows.specs.declared.context.Activation.{Activation}
use Rattle.fact_rows.specs.declared.context.Node.{Node}
use Rattle.fact_rows.specs.declared.site.Site.{Site}
use Rattle.fact_rows.specs.declared.site.Site.TheVariants.{Component}
use Rattle.fact_rows.specs.declared.row.Row.{Row}
use Rattle.fact_rows.specs.declared.row.Row.TheVariants as fact
use Rattle.flow_rules.specs.EventRules.{by_callback, by_click}
use Rattle.flow_rules.specs.Nodes.{activation_in, entry, ArgumentRegister}
use Rattle.flow_rules.specs.Sites.{SiteClass, site_class}
use Rattle.rule_ground.specs.declared.conclusion.Conclusion.{Conclusion}
use Rattle.rule_ground.specs.declared.key.Key.{Key}
use Rattle.rule_ground.specs.declared.key.Key.TheVariants.{AnyHanded, EventEntries}
use Rattle.rule_ground.specs.Asking.{asks}
use Rattle.rule_ground.specs.Below.{for_below, each_below}
use Rattle.rule_ground.specs.Exact.{IsSound}
use Rattle.rule_ground.specs.Given.{concludes}
use Rattle.rule_ground.specs.Hits.{IsHits}
use Rattle.rule_ground.specs.Listing.{one, first, second, at_hit, of_hits}
use Rattle.begin_rules.specs.BeginGiven.{says}
use Rattle.event_rules.specs.Calling.{sources_at, sources_in}
use Rattle.event_rules.specs.EventGiven.{event_count}
use Rattle.event_rules.specs.GivenBack.{takes, type_at}
use Rattle.event_rules.specs.exact.Sound.{not_zero}
use Rattle.event_rules.specs.exact.SoundBack.{is_entry, takes_class}
use Rattle.register_readers.specs.Readings.{Readings}
use Rattle.cell_rules.specs.EventRules.{BeginsWith, EventRule, life_begins, life_receiver, live_begins, live_receiver, handed_begins, handed_receiver, handed_parameter}
use Rattle.cell_rules.specs.Reading.{ReadAt, node_in}
use Rattle.cell_ground.specs.declared.content.Content.TheVariants.{Object}
use Rattle.cell_ground.specs.ComingListed.{coming_sound}
use Rattle.cell_ground.specs.Ready.{Ready}
use Rattle.cell_begin_rules.specs.exact.CellBeginExact.{enters_sound}
use Rattle.cell_event_rules.specs.declared.receiver.Receiver.{Receiver}
use Rattle.cell_event_rules.specs.declared.receiver.Receiver.TheVariants.{Live, Handed}
use Rattle.cell_event_rules.specs.declared.receiver.Arrival.{Arrival}
use Rattle.cell_event_rules.specs.Receivers.{site_of, there_as, IsPresent, callback_rule, callback_context, life_arrival, click_arrival, callback_arrival, start_of}
use Rattle.cell_event_rules.specs.CellEventGiven.{runs, by_life, event_gives, life_gives, click_gives, clicks_give, callback_gives, calls_as, calls_give, present_gives, live_gives, handed_on}
use Rattle.cell_event_rules.specs.CellGivenBack.{back_premises, back_register, back_index, back_in, back, back_as, any_handed, entry_takes, entry_gives, handed_back_as, handed_back}
use Rattle.cell_event_rules.specs.CellRowGiven.{reached_gives}

-- the class of a component's site is that of the component
pub class_of_component : (app : App) (lists : Lists) (c : ℕ) →
    site_class app lists (Component c) ≡ option_map (λ (component : ComponentOf). component.class) (slice_get app.components c)
unfolding site_class
class_of_component app lists c = refl

module _ (app : App) (lists : Lists) where
  -- a callback comes to a component as to an object of its class, with the labelled positions of its row
  callback_at : (c q body : ℕ) (class : Name) (sources : List (ℕ × ℕ)) → SiteClass app lists (Component c) class → HandedAt app lists q class sources body →
      CallbackAt app lists c q sources body
  callback_at c q body class sources is at = of_component (slice_get app.components c) refl (sym (class_of_component app lists c) ∙ is.is_class)
    where
      of_component : (o : Option ComponentOf) → slice_get app.components c ≡ o → option_map (λ (component : ComponentOf). component.class) o ≡ Some class →
          CallbackAt app lists c q sources body
      of_component None e k = absurd (none-some class k)
      of_component (Some component) e k = let same = same_Some component.class class k in
          record {
            component = component;
            callback = at.callback;
            there = record { there = e };
            is_row = at.is_row;
            same_sources = at.same_sources;
            is_below = subst (λ n. Below app lists n at.callback.class) (sym same) at.is_below;
            is_body = ap (λ n. callback_body app n at.callback) same ∙ at.is_body;
          }

  pub same_sources : (q body : ℕ) (class : Name) (sources : List (ℕ × ℕ)) → HandedAt app lists q class sources body → sources_at lists q ≡ sources
  same_sources q body class sources at = ap sources_in at.is_row.there ∙ at.same_sources

  module _ (r : Receiver) (class : Name) (is : SiteClass app lists (site_of r) class) (there : IsPresent r) (q body : ℕ)
      (at : HandedAt app lists q class (sources_at lists q) body) where
    begins_by : (row : Row) → BeginsWith app (callback_context r q) body (sources_at lists q) row →
        EventRule app lists (callback_rule r) (there_as r ∷ []) row
    begins_by row begins = of_kind r is there begins
      where
        of_kind : (k : Receiver) → SiteClass app lists (site_of k) class → IsPresent k → BeginsWith app (callback_context k q) body (sources_at lists q) row →
            EventRule app lists (callback_rule k) (there_as k ∷ []) row
        of_kind (Live c state) is some begins = live_begins (by_callback (callback_at c q body class (sources_at lists q) is at)) some begins
        of_kind (Handed s) is some begins = handed_begins is at begins

    receives_by : (z u : ℕ) → ArgumentRegister app body 0 z → ReadAt app body z 0 u →
        EventRule app lists (callback_rule r) (there_as r ∷ []) (fact.Points (node_in (activation_in (callback_context r q) body) u) z (site_of r))
    receives_by z u g read = of_kind r is there
      where
        of_kind : (k : Receiver) → SiteClass app lists (site_of k) class → IsPresent k →
            EventRule app lists (callback_rule k) (there_as k ∷ []) (fact.Points (node_in (activation_in (callback_context k q) body) u) z (site_of k))
        of_kind (Live c state) is some = live_receiver (by_callback (callback_at c q body class (sources_at lists q) is at)) some g read
        of_kind (Handed s) is some = handed_receiver is at g read

module _ (app : App) (readings : Readings) (lists : Lists) (ready : Ready app readings) (events : EventsAreExact app lists) (has : Row → Type 0) where
  abbrev R : ℕ → List Row → Row → Type 0
  R = EventRule app lists

  abbrev Sound : Row → Conclusion → Type 0
  Sound row = IsSound (EventRule app lists) has row

  -- a body that runs, where there is one
  run_sound : (arrival : Arrival) (sources : List (ℕ × ℕ)) (P : Conclusion → Type 0) (o : Option ℕ) →
      ((body : ℕ) → o ≡ Some body → (row : Row) → BeginsWith app arrival.ctx body sources row → P (says (start_of arrival body) row)) →
      ((body z u : ℕ) → o ≡ Some body → ArgumentRegister app body 0 z → ReadAt app body z 0 u →
      P (says (start_of arrival body) (fact.Points (node_in (activation_in arrival.ctx body) u) z (site_of arrival.receiver)))) →
      AllByRecursion P (runs app readings arrival sources o)
  run_sound arrival sources P None h k = tt
  run_sound arrival sources P (Some body) h k =
      enters_sound app readings ready (start_of arrival body) sources (Object (site_of arrival.receiver)) P (h body refl) (λ z u g read. k body z u refl g read)

  -- 40
  event_sound : (c e : ℕ) (class : Name) (life : LifeEvent) (body : Option ℕ) → LifeEventAt app c e class life body → has (fact.Live c life.from) →
      AllByRecursion (Sound (fact.Live c life.from)) (runs app readings (life_arrival c life.from e) [] body)
  event_sound c e class life body at h =
      run_sound (life_arrival c life.from e) [] (Sound (fact.Live c life.from)) body
      (λ b is row begins. one R has (life_begins (with_body b is) begins) h)
      (λ b z u is g read. one R has (life_receiver (with_body b is) g read) h)
    where
      with_body : (b : ℕ) → body ≡ Some b → LifeEventAt app c e class life (Some b)
      with_body b is = subst (LifeEventAt app c e class life) is at

  life_sound : (c state : ℕ) → has (fact.Live c state) → AllByRecursion (Sound (fact.Live c state)) (life_gives app readings c state)
  life_sound c state h =
      each_below (Sound (fact.Live c state)) (event_gives app readings c state) (event_count app c) (λ e lt. on e (life_event app c e) refl)
    where
      on : (e : ℕ) (o : Option (Name × LifeEvent × Option ℕ)) → life_event app c e ≡ o →
          AllByRecursion (Sound (fact.Live c state)) (by_life app readings c state e o)
      on e None k = tt
      on e (Some found) k = each_where (Sound (fact.Live c state)) (found.1.from == state) (runs app readings (life_arrival c state e) [] found.2) (λ t.
          let same = eqb-true found.1.from state t in
          subst (λ s. AllByRecursion (Sound (fact.Live c s)) (runs app readings (life_arrival c s e) [] found.2)) same
          (event_sound c e found.0 found.1 found.2 ((events.life c e found.0 found.1 found.2).1 k) (subst (λ s. has (fact.Live c s)) (sym same) h)))

  -- 42, 43
  calls_sound : (r : Receiver) → IsPresent r → has (there_as r) → AllByRecursion (Sound (there_as r)) (calls_give app readings lists r)
  calls_sound r some h = of_class (site_class app lists (site_of r)) refl
    where
      of_row : (class : Name) → SiteClass app lists (site_of r) class → (q : ℕ) (o : Option (List (ℕ × ℕ) × ℕ)) → handed_callback app lists q class ≡ o →
          AllByRecursion (Sound (there_as r)) (runs app readings (callback_arrival r q) (sources_at lists q) (callback_run o))
      of_row class is q None e = tt
      of_row class is q (Some found) e =
          let at = (events.handed q class found.0 found.1).1 e in
          let here = subst (λ sources. HandedAt app lists q class sources found.1) (sym (same_sources app lists q found.1 class found.0 at)) at in
          enters_sound app readings ready (start_of (callback_arrival r q) found.1) (sources_at lists q) (Object (site_of r)) (Sound (there_as r))
          (λ row begins. one R has (begins_by app lists r class is some q found.1 here row begins) h)
          (λ z u g read. one R has (receives_by app lists r class is some q found.1 here z u g read) h)

      of_class : (o : Option Name) → site_class app lists (site_of r) ≡ o → AllByRecursion (Sound (there_as r)) (calls_as app readings lists r o)
      of_class None e = tt
      of_class (Some class) e =
          each_below (Sound (there_as r)) (callback_gives app readings lists r class) (length lists.callbacks)
          (λ q lt. of_row class (record { is_class = e }) q (handed_callback app lists q class) refl)

  clicks_sound : (c state : ℕ) → IsPresent (Live c state) → has (fact.Live c state) → AllByRecursion (Sound (fact.Live c state)) (clicks_give app readings c state)
  clicks_sound c state some h =
      each_below (Sound (fact.Live c state)) (click_gives app readings c state) (length app.clicks) (λ i lt.
      run_sound (click_arrival c state i) [] (Sound (fact.Live c state)) (click app c i)
      (λ b is row begins. one R has (live_begins (by_click ((events.clicked c i b).1 is)) some begins) h)
      (λ b z u is g read. one R has (live_receiver (by_click ((events.clicked c i b).1 is)) some g read) h))

  pub live_sound : (c state : ℕ) → has (fact.Live c state) → AllByRecursion (Sound (fact.Live c state)) (live_gives app readings lists c state)
  live_sound c state h =
      let P = Sound (fact.Live c state) in
      each_append P (life_gives app readings c state) (cond (state == 0) [] (present_gives app readings lists c state))
      (life_sound c state h)
      (each_unless P (state == 0) (present_gives app readings lists c state) (λ f.
      each_append P (calls_give app readings lists (Live c state)) (clicks_give app readings c state)
      (calls_sound (Live c state) (not_zero state f) h) (clicks_sound c state (not_zero state f) h)))

  -- 45
  back_sound : (P : Conclusion → Type 0) (b : Activation) (s : Site) (class : Name) → IsEvent b.ctx → SiteClass app lists s class →
      ((z u : ℕ) → EventRule app lists 45 (fact.Reached (entry b) ∷ fact.Handed s ∷ []) (fact.Points (node_in b u) z s) →
      P (concludes 45 (back_premises b s) (fact.Points (node_in b u) z s))) →
      AllByRecursion P (back app readings lists s class b)
  back_sound P b s class event is h = in_method (slice_get app.methods b.method) refl
    where
      at_index : (m : Method) → slice_get app.methods b.method ≡ Some m → m.is_native ≡ false → (index : ℕ) → index < m.ins →
          AllByRecursion P (back_index app readings lists s class b m index)
      at_index m there code index lt = each_where P (takes app lists class (type_at m.at.proto.params index))
          (back_register readings s b ((m.registers - m.ins) + index)) (λ t.
          let z = (m.registers - m.ins) + index in
          let k = takes_class app lists events class m.at.proto.params (slice_get (layout m.at.proto.params) index) t in
          coming_sound app readings ready P 45 (back_premises b s) (Object s) (entry b) (0 ∷ []) z (λ pc u i read. elim i [
            | inl same ↦ h z u (handed_parameter event
                (record { method = m; has = record { there = there; code = code }; index = index; is_at = record { there = k.at }; below = lt; is = refl })
                (record { method = m; there = there; is_type = k.is_type; reference = k.reference }) is k.below
                (subst (λ p. ReadAt app b.method z p u) same read))
            | inr none ↦ absurd none
          ]))

      in_method : (o : Option Method) → slice_get app.methods b.method ≡ o → AllByRecursion P (back_in app readings lists s class b o)
      in_method None e = tt
      in_method (Some m) e = each_unless P m.is_native (for_below (back_index app readings lists s class b m) m.ins)
          (λ f. each_below P (back_index app readings lists s class b m) m.ins (at_index m e f))

  module _ (hits : Key → List Row) (law : (k : Key) → IsHits has k (hits k)) where
    entry_sound : (b : Activation) → IsEvent b.ctx → has (fact.Reached (entry b)) →
        AllByRecursion (Sound (fact.Reached (entry b))) (entry_gives app readings lists hits b)
    entry_sound b event p = of_hits has hits law (Sound (fact.Reached (entry b))) AnyHanded (any_handed app readings lists b) (λ other i.
        let u = (law AnyHanded).under other i in
        (fact.Handed u.0, u.1, of_class u.0 (at_hit has hits law AnyHanded other _ i u.1) (site_class app lists u.0) refl))
      where
        of_class : (s : Site) → has (fact.Handed s) → (o : Option Name) → site_class app lists s ≡ o →
            AllByRecursion (Sound (fact.Reached (entry b))) (back_as app readings lists s o b)
        of_class s q None e = tt
        of_class s q (Some class) e =
            back_sound (Sound (fact.Reached (entry b))) b s class event (record { is_class = e }) (λ z u by. first R has by p q)

    pub reached_sound : (n : Node) → has (fact.Reached n) → AllByRecursion (Sound (fact.Reached n)) (reached_gives app readings lists hits n)
    reached_sound n h = each_where (Sound (fact.Reached n)) (asks EventEntries (fact.Reached n)) (entry_gives app readings lists hits n.by) (λ t.
        let e = is_entry n t in
        subst (λ (m : Node). AllByRecursion (Sound (fact.Reached m)) (entry_gives app readings lists hits m.by)) (sym e.2)
        (entry_sound e.0 e.1 (subst (λ (m : Node). has (fact.Reached m)) e.2 h)))

    handed_back_sound : (s : Site) → has (fact.Handed s) → AllByRecursion (Sound (fact.Handed s)) (handed_back app readings lists hits s)
    handed_back_sound s q = of_class (site_class app lists s) refl
      where
        of_class : (o : Option Name) → site_class app lists s ≡ o → AllByRecursion (Sound (fact.Handed s)) (handed_back_as app readings lists hits s o)
        of_class None e = tt
        of_class (Some class) e = of_hits has hits law (Sound (fact.Handed s)) EventEntries (entry_takes app readings lists s class) (λ other i.
            let u = (law EventEntries).under other i in (
              fact.Reached (entry u.0),
              u.1.1,
              back_sound (Sound (fact.Handed s)) u.0 s class u.1.0 (record { is_class = e })
                  (λ z v by. second R has by (at_hit has hits law EventEntries other _ i u.1.1) q),
            ))

    pub handed_sound : (s : Site) → has (fact.Handed s) →
        AllByRecursion (Sound (fact.Handed s)) (handed_on app readings lists s ++ handed_back app readings lists hits s)
    handed_sound s h =
        each_append (Sound (fact.Handed s)) (handed_on app readings lists s) (handed_back app readings lists hits s)
        (calls_sound (Handed s) tt h) (handed_back_sound s h)
