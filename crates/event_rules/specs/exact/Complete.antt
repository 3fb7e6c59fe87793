-- What follows of components is listed.
use Rattle.std.proofs.Common.{◌≡◌, ◌==◌, ◌≢◌, ◌<◌, ℕ, List, [], ◌∷◌, ◌++◌, Option, Some, cond, length, slice_get, refl, sym, subst, inl}
use Rattle.std.proofs.lemmas.Bool.{ne_eqb}
use Rattle.std.proofs.lemmas.Option.{slice_get_within}
use Rattle.vet_base.specs.Members.{In}
use Rattle.vet_base.proofs.Members.{in_front, in_back, in_flat}
use Rattle.vet_base.proofs.Every.{in_where, in_unless}
use Rattle.access_path.specs.declared.path.Path.{Path}
use Rattle.app_machine.specs.declared.component.Component.{Component as ComponentOf}
use Rattle.app_machine.specs.declared.lists.Lists.{Lists}
use Rattle.app_machine.specs.declared.app.App.{App}
use Rattle.app_machine.specs.Events.{IsApplication, LifeEventAt}
use Rattle.app_machine.specs.LifeEvents.{LifeEvent, life_events}
use Rattle.app_machine.specs.Names.{Name}
use Rattle.app_model.specs.EventLaws.{EventsAreExact}
use Rattle.app_model.specs.Initialisers.{component_initialisers}
use Rattle.fact_rows.specs.declared.context.Ctx.{Ctx}
use Rattle.fact_rows.specs.declared.context.Ctx.TheVariants as ctx
use Rattle.fact_rows.specs.declared.site.Site.TheVariants.{Component}
use Rattle.fact_rows.specs.declared.row.Row.{Row}
use Rattle.fact_rows.specs.declared.row.Row.TheVariants.{Live, CompTaint}
use Rattle.flow_rules.specs.Nodes.{ArgumentRegister}
use Rattle.flow_rules.specs.EventRules.{Begins, ComesToLive, by_callback, by_click}
use Rattle.rule_ground.specs.declared.conclusion.Conclusion.{Conclusion}
use Rattle.rule_ground.specs.Below.{in_below}
use Rattle.rule_ground.specs.Given.{of_one, concludes, held}
use Rattle.rule_ground.specs.Listing.{itself}
use Rattle.app_rows.specs.Application.{is_application, is_the_application}
use Rattle.begin_rules.specs.declared.parameters.Start.{Start}
use Rattle.begin_rules.specs.BeginGiven.{first_of, says}
use Rattle.begin_rules.specs.exact.BeginExact.{begins_complete, object_begins, is_received}
use Rattle.event_rules.specs.declared.known.Known.{Known}
use Rattle.event_rules.specs.declared.known.Known.TheVariants.{There, Leads}
use Rattle.event_rules.specs.EventGiven.{content_of, start_of, runs, is_called, life_arrival, leads_to, by_life, event_gives, events_in, event_count, life_gives, present_arrival, callback_gives, callbacks_give, click_gives, clicks_give, present_gives, initialiser_begins, absent_gives, other_lives, others_live, created_gives, standing_of, live_gives, comp_taint_gives}

counted : (app : App) (c e : ℕ) (class : Name) (life : LifeEvent) (body : Option ℕ) → LifeEventAt app c e class life body → e < event_count app c
counted app c e class life body at =
    subst (λ o. e < events_in o) (sym at.there.there) (slice_get_within (life_events at.component.kind) e life at.is_event.there)

module _ (app : App) (lists : Lists) (events : EventsAreExact app lists) where
  -- 40, 41
  abbrev by_event : Known → ℕ → ℕ → LifeEvent → Option ℕ → List Conclusion
  by_event w c e life body = leads_to w (standing_of w c life.from) life.to ++ runs app (life_arrival (standing_of w c life.from)) (ctx.Row c e) body

  in_life : (w : Known) (c e : ℕ) (class : Name) (life : LifeEvent) (body : Option ℕ) → LifeEventAt app c e class life body → (x : Conclusion) →
      In x (by_event w c e life body) → In x (life_gives app (standing_of w c life.from))
  in_life w c e class life body at x i =
      let standing = standing_of w c life.from in
      in_below x (event_gives app standing) e (event_count app c) (counted app c e class life body at)
      (subst (λ o. In x (by_life app standing e o)) (sym ((events.life c e class life body).0 at))
      (in_where x (life.from == life.from) (by_event w c e life body) (itself life.from) i))

  in_state : (w : Known) (c e : ℕ) (class : Name) (life : LifeEvent) (body : Option ℕ) → LifeEventAt app c e class life body → (x : Conclusion) →
      In x (leads_to w (standing_of w c life.from) life.to) → In x (life_gives app (standing_of w c life.from))
  in_state w c e class life body at x i =
      in_life w c e class life body at x
      (in_front x (leads_to w (standing_of w c life.from) life.to) (runs app (life_arrival (standing_of w c life.from)) (ctx.Row c e) body) i)

  in_body : (w : Known) (c e : ℕ) (class : Name) (life : LifeEvent) (body : Option ℕ) → LifeEventAt app c e class life body → (x : Conclusion) →
      In x (runs app (life_arrival (standing_of w c life.from)) (ctx.Row c e) body) → In x (life_gives app (standing_of w c life.from))
  in_body w c e class life body at x i =
      in_life w c e class life body at x
      (in_back x (leads_to w (standing_of w c life.from) life.to) (runs app (life_arrival (standing_of w c life.from)) (ctx.Row c e) body) i)

  pub life_leads : (c e : ℕ) (class : Name) (life : LifeEvent) (body : Option ℕ) → LifeEventAt app c e class life body →
      In (concludes 40 (of_one (Live c life.from)) (Live c life.to)) (life_gives app (standing_of There c life.from))
  life_leads c e class life body at = in_state There c e class life body at (concludes 40 (of_one (Live c life.from)) (Live c life.to)) (inl refl)

  pub life_leads_label : (c e : ℕ) (p : Path) (l : ℕ) (class : Name) (life : LifeEvent) (body : Option ℕ) → LifeEventAt app c e class life body → life.to ≢ 0 →
      In (concludes 41 (of_one (CompTaint c life.from p l)) (CompTaint c life.to p l)) (life_gives app (standing_of (Leads p l) c life.from))
  life_leads_label c e p l class life body at some =
      let x = concludes 41 (of_one (CompTaint c life.from p l)) (CompTaint c life.to p l) in
      in_state (Leads p l) c e class life body at x (in_unless x (life.to == 0) (x ∷ []) (ne_eqb life.to 0 some) (inl refl))

  abbrev life_start : Known → ℕ → ℕ → LifeEvent → ℕ → Start
  life_start w c e life body = start_of (life_arrival (standing_of w c life.from)) (ctx.Row c e) body

  pub life_body_begins : (c e : ℕ) (class : Name) (life : LifeEvent) (body : ℕ) → LifeEventAt app c e class life (Some body) → (row : Row) →
      Begins app (ctx.Row c e) body [] row → In (concludes 40 (of_one (Live c life.from)) row) (life_gives app (standing_of There c life.from))
  life_body_begins c e class life body at row begins =
      in_body There c e class life (Some body) at (concludes 40 (of_one (Live c life.from)) row)
      (object_begins app (life_start There c e life body) [] (Component c) row begins)

  pub life_body_receives : (w : Known) (c e z : ℕ) (class : Name) (life : LifeEvent) (body : ℕ) → LifeEventAt app c e class life (Some body) → ArgumentRegister app body 0 z →
      In (says (life_start w c e life body) (held (content_of w (Component c)) (first_of (life_start w c e life body)) z)) (life_gives app (standing_of w c life.from))
  life_body_receives w c e z class life body at r =
      let start = life_start w c e life body in
      let v = content_of w (Component c) in
      in_body w c e class life (Some body) at (says start (held v (first_of start) z)) (is_received app start [] v z r)

  -- 42
  abbrev present_start : Known → ℕ → ℕ → Ctx → ℕ → Start
  present_start w c state k body = start_of (present_arrival (standing_of w c state)) k body

  in_present : (w : Known) (c state : ℕ) (k : Ctx) (body : ℕ) (sources : List (ℕ × ℕ)) → ComesToLive app lists c k body sources → (x : Conclusion) →
      In x (is_called app (present_arrival (standing_of w c state)) k (Some (sources, body))) → In x (present_gives app lists (standing_of w c state))
  in_present w c state k body sources (by_callback {q = q} at) x i =
      let standing = standing_of w c state in
      in_front x (callbacks_give app lists standing) (clicks_give app standing)
      (in_below x (callback_gives app lists standing) q (length lists.callbacks) (slice_get_within lists.callbacks q at.callback at.is_row.there)
      (subst (λ o. In x (is_called app (present_arrival standing) (ctx.Callback c q) o)) (sym ((events.callback c q sources body).0 at)) i))
  in_present w c state k body sources (by_click {i = j} at) x i =
      let standing = standing_of w c state in
      in_back x (callbacks_give app lists standing) (clicks_give app standing)
      (in_below x (click_gives app standing) j (length app.clicks) (slice_get_within app.clicks j at.name at.is_click.there)
      (subst (λ o. In x (runs app (present_arrival standing) (ctx.Click c j) o)) (sym ((events.clicked c j body).0 at)) i))

  pub present_begins : (c state : ℕ) (k : Ctx) (body : ℕ) (sources : List (ℕ × ℕ)) → ComesToLive app lists c k body sources → (row : Row) →
      Begins app k body sources row → In (concludes 42 (of_one (Live c state)) row) (present_gives app lists (standing_of There c state))
  present_begins c state k body sources comes row begins =
      in_present There c state k body sources comes (concludes 42 (of_one (Live c state)) row)
      (object_begins app (present_start There c state k body) sources (Component c) row begins)

  pub present_receives : (w : Known) (c state z : ℕ) (k : Ctx) (body : ℕ) (sources : List (ℕ × ℕ)) → ComesToLive app lists c k body sources → ArgumentRegister app body 0 z →
      In (says (present_start w c state k body) (held (content_of w (Component c)) (first_of (present_start w c state k body)) z)) (present_gives app lists (standing_of w c state))
  present_receives w c state z k body sources comes r =
      let start = present_start w c state k body in
      let v = content_of w (Component c) in
      in_present w c state k body sources comes (says start (held v (first_of start) z)) (is_received app start sources v z r)

  -- the parts of what a row gives
  pub in_live : (c state : ℕ) (x : Conclusion) → In x (life_gives app (standing_of There c state)) → In x (live_gives app lists c state)
  in_live c state x i =
      in_front x (life_gives app (standing_of There c state))
      (cond (state == 0) (absent_gives app c) (present_gives app lists (standing_of There c state)) ++ cond (state == 2) (created_gives app c) []) i

  in_rest : (c state : ℕ) (x : Conclusion) → In x (cond (state == 0) (absent_gives app c) (present_gives app lists (standing_of There c state))) →
      In x (live_gives app lists c state)
  in_rest c state x i =
      let rest = cond (state == 0) (absent_gives app c) (present_gives app lists (standing_of There c state)) in
      in_back x (life_gives app (standing_of There c state)) (rest ++ cond (state == 2) (created_gives app c) [])
      (in_front x rest (cond (state == 2) (created_gives app c) []) i)

  pub in_live_present : (c state : ℕ) → state ≢ 0 → (x : Conclusion) → In x (present_gives app lists (standing_of There c state)) → In x (live_gives app lists c state)
  in_live_present c state some x i =
      in_rest c state x
      (subst (λ b. In x (cond b (absent_gives app c) (present_gives app lists (standing_of There c state)))) (sym (ne_eqb state 0 some)) i)

  pub in_live_created : (c : ℕ) (x : Conclusion) → In x (created_gives app c) → In x (live_gives app lists c 2)
  in_live_created c x i =
      let rest = cond (2 == 0) (absent_gives app c) (present_gives app lists (standing_of There c 2)) in
      in_back x (life_gives app (standing_of There c 2)) (rest ++ cond (2 == 2) (created_gives app c) [])
      (in_back x rest (cond (2 == 2) (created_gives app c) []) (in_where x (2 == 2) (created_gives app c) (itself 2) i))

  pub in_label : (c state : ℕ) (p : Path) (l : ℕ) → state ≢ 0 → (x : Conclusion) →
      In x (life_gives app (standing_of (Leads p l) c state) ++ present_gives app lists (standing_of (Leads p l) c state)) →
      In x (comp_taint_gives app lists (standing_of (Leads p l) c state))
  in_label c state p l some x i =
      in_unless x (state == 0) (life_gives app (standing_of (Leads p l) c state) ++ present_gives app lists (standing_of (Leads p l) c state)) (ne_eqb state 0 some) i

  -- 44
  pub absent_begins : (c body : ℕ) → In body (component_initialisers app c) → (row : Row) → Begins app (ctx.Init c) body [] row →
      In (concludes 44 (of_one (Live c 0)) row) (live_gives app lists c 0)
  absent_begins c body i row begins =
      let x = concludes 44 (of_one (Live c 0)) row in
      in_rest c 0 x (in_flat (initialiser_begins app c) (component_initialisers app c) body x i
      (begins_complete app (record { rule = 44; premises = of_one (Live c 0); ctx = ctx.Init c; body = body }) [] row begins))

  -- 47
  pub other_begins : (a c : ℕ) (component : ComponentOf) → IsApplication app a → slice_get app.components c ≡ Some component → c ≢ a →
      In (concludes 47 (of_one (Live a 2)) (Live c 0)) (live_gives app lists a 2)
  other_begins a c component is there other =
      let x = concludes 47 (of_one (Live a 2)) (Live c 0) in
      in_live_created a x (in_where x (is_application (slice_get app.components a)) (others_live app a) (is_the_application app a is)
      (in_below x (other_lives a) c (length app.components) (slice_get_within app.components c component there)
      (in_unless x (c == a) (x ∷ []) (ne_eqb c a other) (inl refl))))
