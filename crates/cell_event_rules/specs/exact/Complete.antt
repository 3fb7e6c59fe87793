-- What follows by the rules of events of the second set is listed.
use Rattle.std.proofs.Common.{◌≡◌, ◌==◌, ◌≢◌, ◌<◌, ◌+◌, ◌-◌, ℕ, true, List, [], ◌∷◌, ◌++◌, Option, Some, option_map, cond, length, refl, sym, ap, subst, ◌∙◌, inl}
use Rattle.std.proofs.lemmas.Bool.{and_from, ne_eqb}
use Rattle.std.proofs.lemmas.Option.{slice_get_within}
use Rattle.vet_base.specs.Members.{In}
use Rattle.vet_base.proofs.Members.{in_front, in_back}
use Rattle.vet_base.proofs.Every.{in_where, in_unless}
use Rattle.app_machine.specs.declared.component.Component.{Component as ComponentOf}
use Rattle.app_machine.specs.declared.method.Method.{Method}
use Rattle.app_machine.specs.declared.lists.Lists.{Lists}
use Rattle.app_machine.specs.declared.app.App.{App}
use Rattle.app_machine.specs.Events.{LifeEventAt, HandedAt, parameter_type}
use Rattle.app_machine.specs.LifeEvents.{LifeEvent, life_events}
use Rattle.app_machine.specs.Names.{Name, is_reference}
use Rattle.app_machine.specs.Summaries.{Below}
use Rattle.app_model.specs.Above.{is_below}
use Rattle.app_model.specs.EventLaws.{EventsAreExact}
use Rattle.event_index.specs.Comings.{callback_run}
use Rattle.fact_rows.specs.Contexts.{IsEvent}
use Rattle.fact_rows.specs.declared.context.Ctx.{Ctx}
use Rattle.fact_rows.specs.declared.context.Activation.{Activation}
use Rattle.fact_rows.specs.declared.site.Site.{Site}
use Rattle.fact_rows.specs.declared.site.Site.TheVariants.{Component}
use Rattle.fact_rows.specs.declared.row.Row.{Row}
use Rattle.fact_rows.specs.declared.row.Row.TheVariants as fact
use Rattle.flow_rules.specs.EventRules.{ComesToLive, by_callback, by_click, ReferenceParameter}
use Rattle.flow_rules.specs.Nodes.{entry, EventRegister}
use Rattle.flow_rules.specs.Sites.{SiteClass}
use Rattle.rule_ground.specs.declared.conclusion.Conclusion.{Conclusion}
use Rattle.rule_ground.specs.declared.key.Key.{Key}
use Rattle.rule_ground.specs.declared.key.Key.TheVariants.{AnyHanded, EventEntries}
use Rattle.rule_ground.specs.Asking.{asks, under_asked}
use Rattle.rule_ground.specs.Below.{for_below, in_below}
use Rattle.rule_ground.specs.Given.{concludes}
use Rattle.rule_ground.specs.Hits.{IsHits}
use Rattle.rule_ground.specs.Listing.{found, itself}
use Rattle.event_rules.specs.Calling.{sources_at}
use Rattle.event_rules.specs.EventGiven.{events_in, event_count}
use Rattle.event_rules.specs.GivenBack.{type_of_position, type_at, takes}
use Rattle.register_readers.specs.Readings.{Readings}
use Rattle.cell_rules.specs.Reading.{ReadAt, node_in}
use Rattle.cell_ground.specs.declared.content.Content.TheVariants.{Object}
use Rattle.cell_ground.specs.ComingListed.{in_coming}
use Rattle.cell_ground.specs.Ready.{Ready, listed_position}
use Rattle.cell_event_rules.specs.declared.receiver.Receiver.{Receiver}
use Rattle.cell_event_rules.specs.declared.receiver.Receiver.TheVariants.{Live, Handed}
use Rattle.cell_event_rules.specs.declared.receiver.Arrival.{Arrival}
use Rattle.cell_event_rules.specs.Receivers.{site_of, life_arrival, click_arrival, callback_arrival}
use Rattle.cell_event_rules.specs.CellEventGiven.{runs, by_life, event_gives, life_gives, click_gives, clicks_give, callback_gives, calls_as, calls_give, present_gives, live_gives, handed_on}
use Rattle.cell_event_rules.specs.CellGivenBack.{back_premises, back_register, back_index, back_in, back, back_as, any_handed, entry_takes, entry_gives, handed_back_as, handed_back}
use Rattle.cell_event_rules.specs.CellRowGiven.{reached_gives}
use Rattle.cell_event_rules.specs.exact.Sound.{class_of_component, same_sources}

counted : (app : App) (c e : ℕ) (class : Name) (life : LifeEvent) (body : Option ℕ) → LifeEventAt app c e class life body → e < event_count app c
counted app c e class life body at =
    subst (λ o. e < events_in o) (sym at.there.there) (slice_get_within (life_events at.component.kind) e life at.is_event.there)

-- what comes to a component while it is there
abbrev pub present_arrival : ℕ → ℕ → Ctx → Arrival
present_arrival c state k = record { receiver = Live c state; rule = 42; ctx = k }

module _ (app : App) (readings : Readings) (lists : Lists) (events : EventsAreExact app lists) where
  -- 40
  pub in_life : (c e : ℕ) (class : Name) (life : LifeEvent) (body : Option ℕ) → LifeEventAt app c e class life body → (x : Conclusion) →
      In x (runs app readings (life_arrival c life.from e) [] body) → In x (live_gives app readings lists c life.from)
  in_life c e class life body at x i =
      in_front x (life_gives app readings c life.from) (cond (life.from == 0) [] (present_gives app readings lists c life.from))
      (in_below x (event_gives app readings c life.from) e (event_count app c) (counted app c e class life body at)
      (subst (λ o. In x (by_life app readings c life.from e o)) (sym ((events.life c e class life body).0 at))
      (in_where x (life.from == life.from) (runs app readings (life_arrival c life.from e) [] body) (itself life.from) i)))

  -- 42, 43
  in_calls : (r : Receiver) (class : Name) → SiteClass app lists (site_of r) class → (q body : ℕ) (sources : List (ℕ × ℕ)) →
      HandedAt app lists q class sources body → (x : Conclusion) → In x (runs app readings (callback_arrival r q) sources (Some body)) →
      In x (calls_give app readings lists r)
  in_calls r class is q body sources at x i =
      subst (λ o. In x (calls_as app readings lists r o)) (sym is.is_class)
      (in_below x (callback_gives app readings lists r class) q (length lists.callbacks) (slice_get_within lists.callbacks q at.callback at.is_row.there)
      (subst (λ o. In x (runs app readings (callback_arrival r q) (sources_at lists q) (callback_run o))) (sym ((events.handed q class sources body).0 at))
      (subst (λ w. In x (runs app readings (callback_arrival r q) w (Some body))) (sym (same_sources app lists q body class sources at)) i)))

  pub in_handed : (s : Site) (class : Name) → SiteClass app lists s class → (q body : ℕ) (sources : List (ℕ × ℕ)) → HandedAt app lists q class sources body →
      (x : Conclusion) → In x (runs app readings (callback_arrival (Handed s) q) sources (Some body)) → In x (handed_on app readings lists s)
  in_handed s class is q body sources at x i = in_calls (Handed s) class is q body sources at x i

  in_present : (c state : ℕ) (k : Ctx) (body : ℕ) (sources : List (ℕ × ℕ)) → ComesToLive app lists c k body sources → (x : Conclusion) →
      In x (runs app readings (present_arrival c state k) sources (Some body)) → In x (present_gives app readings lists c state)
  in_present c state k body sources (by_callback {q = q} at) x i =
      in_front x (calls_give app readings lists (Live c state)) (clicks_give app readings c state)
      (in_calls (Live c state) at.component.class of_component q body sources as_handed x i)
    where
      of_component : SiteClass app lists (Component c) at.component.class
      of_component = record { is_class = class_of_component app lists c ∙ ap (λ o. option_map (λ (component : ComponentOf). component.class) o) at.there.there }

      as_handed : HandedAt app lists q at.component.class sources body
      as_handed = record { callback = at.callback; is_row = at.is_row; same_sources = at.same_sources; is_below = at.is_below; is_body = at.is_body }
  in_present c state k body sources (by_click {i = j} at) x i =
      in_back x (calls_give app readings lists (Live c state)) (clicks_give app readings c state)
      (in_below x (click_gives app readings c state) j (length app.clicks) (slice_get_within app.clicks j at.name at.is_click.there)
      (subst (λ o. In x (runs app readings (click_arrival c state j) [] o)) (sym ((events.clicked c j body).0 at)) i))

  pub in_live : (c state : ℕ) (k : Ctx) (body : ℕ) (sources : List (ℕ × ℕ)) → ComesToLive app lists c k body sources → state ≢ 0 → (x : Conclusion) →
      In x (runs app readings (present_arrival c state k) sources (Some body)) → In x (live_gives app readings lists c state)
  in_live c state k body sources comes some x i =
      in_back x (life_gives app readings c state) (cond (state == 0) [] (present_gives app readings lists c state))
      (in_unless x (state == 0) (present_gives app readings lists c state) (ne_eqb state 0 some) (in_present c state k body sources comes x i))

  -- 45
  module _ (ready : Ready app readings) (s : Site) (class : Name) (b : Activation) (i z u : ℕ) (type : Name) (event : IsEvent b.ctx) (is : SiteClass app lists s class)
      (r : EventRegister app b.method i z) (p : ReferenceParameter app b.method i type) (below : Below app lists class type) (read : ReadAt app b.method z 0 u) where
    abbrev comes_back : Conclusion
    comes_back = concludes 45 (back_premises b s) (fact.Points (node_in b u) z s)

    in_back_list : In comes_back (back app readings lists s class b)
    in_back_list =
        let m = r.method in
        let x = comes_back in
        let register = (m.registers - m.ins) + r.index in
        let same : p.method ≡ m = let first = p.there in let second = r.has.there in cc in
        let is_type : parameter_type m.at.proto.params i ≡ Some type = ap (λ (n : Method). parameter_type n.at.proto.params i) (sym same) ∙ p.is_type in
        let type_here : type_at m.at.proto.params r.index ≡ Some type = ap (type_of_position m.at.proto.params) r.is_at.there ∙ is_type in
        let takes_it : takes app lists class (type_at m.at.proto.params r.index) ≡ true =
        ap (takes app lists class) type_here ∙ and_from (is_reference type) (is_below app lists class type) p.reference ((events.below class type).1 below) in
        subst (λ o. In x (back_in app readings lists s class b o)) (sym r.has.there)
        (in_unless x m.is_native (for_below (back_index app readings lists s class b m) m.ins) r.has.code
        (in_below x (back_index app readings lists s class b m) r.index m.ins r.below
        (in_where x (takes app lists class (type_at m.at.proto.params r.index)) (back_register readings s b register) takes_it
        (subst (λ w. In x (back_register readings s b w)) r.is
        (in_coming readings 45 (back_premises b s) (Object s) (entry b) (0 ∷ []) z 0 u (inl refl) (listed_position app readings ready b.method i z u r read))))))

    module _ (has : Row → Type 0) (hits : Key → List Row) (law : (k : Key) → IsHits has k (hits k)) where
      pub from_event : has (fact.Handed s) → In comes_back (reached_gives app readings lists hits (entry b))
      from_event q =
          in_where comes_back (asks EventEntries (fact.Reached (entry b))) (entry_gives app readings lists hits b)
          (under_asked EventEntries (fact.Reached (entry b)) (b, (event, refl)))
          (found has hits law AnyHanded (any_handed app readings lists b) (fact.Handed s) comes_back q (s, refl)
          (subst (λ o. In comes_back (back_as app readings lists s o b)) (sym is.is_class) in_back_list))

      pub from_object : has (fact.Reached (entry b)) → In comes_back (handed_on app readings lists s ++ handed_back app readings lists hits s)
      from_object reached =
          in_back comes_back (handed_on app readings lists s) (handed_back app readings lists hits s)
          (subst (λ o. In comes_back (handed_back_as app readings lists hits s o)) (sym is.is_class)
          (found has hits law EventEntries (entry_takes app readings lists s class) (fact.Reached (entry b)) comes_back reached (b, (event, refl)) in_back_list))
