-- What is listed of components follows.
use Rattle.std.proofs.Common.{◌≡◌, ◌==◌, ◌≢◌, ℕ, Bool, true, false, List, [], ◌∷◌, ◌++◌, Option, Some, None, cond, length, slice_get, eqb-true, eq-eqb, refl, sym, subst}
use Rattle.std.specs.List.{AllByRecursion}
use Rattle.vet_base.proofs.Every.{each_append, each_flat, each_where, each_unless}
use Rattle.std.proofs.lemmas.Option.{slice_get-get_or}
use Rattle.access_path.specs.declared.path.Path.{Path}
use Rattle.app_machine.specs.declared.lists.Lists.{Lists}
use Rattle.app_machine.specs.declared.app.App.{App}
use Rattle.app_machine.specs.Events.{LifeEventAt}
use Rattle.app_machine.specs.LifeEvents.{LifeEvent}
use Rattle.app_machine.specs.Names.{Name}
use Rattle.app_model.specs.EventBodies.{click, component_callback, life_event}
use Rattle.app_model.specs.EventLaws.{EventsAreExact}
use Rattle.app_model.specs.Initialisers.{component_initialisers}
use Rattle.fact_rows.specs.declared.context.Ctx.{Ctx}
use Rattle.fact_rows.specs.declared.context.Ctx.TheVariants as ctx
use Rattle.fact_rows.specs.declared.site.Site.TheVariants.{Component}
use Rattle.fact_rows.specs.declared.row.Row.{Row}
use Rattle.fact_rows.specs.declared.row.Row.TheVariants.{Live, CompTaint}
use Rattle.flow_rules.specs.EventRules.{EventRule, ComesToLive, by_callback, by_click, life_live, life_begins, life_receiver, life_taint, life_receiver_taint, live_begins, live_receiver, live_receiver_taint, initialiser_begins as initialiser_begins_rule, application_live}
use Rattle.rule_ground.specs.declared.conclusion.Conclusion.{Conclusion}
use Rattle.rule_ground.specs.Below.{each_below}
use Rattle.rule_ground.specs.Exact.{IsSound}
use Rattle.rule_ground.specs.Given.{of_one, concludes}
use Rattle.rule_ground.specs.Listing.{one}
use Rattle.app_rows.specs.Application.{is_application, application_of}
use Rattle.begin_rules.specs.exact.BeginExact.{begins_sound, object_sound, label_sound}
use Rattle.event_rules.specs.declared.known.Known.{Known}
use Rattle.event_rules.specs.declared.known.Known.TheVariants.{There, Leads}
use Rattle.event_rules.specs.EventGiven.{live_as, start_of, runs, is_called, life_arrival, leads_to, by_life, event_gives, event_count, life_gives, present_arrival, callback_gives, callbacks_give, click_gives, clicks_give, present_gives, initialiser_begins, absent_gives, other_lives, others_live, created_gives, standing_of, live_gives, comp_taint_gives}

pub not_zero : (n : ℕ) → n == 0 ≡ false → n ≢ 0
not_zero n e z = let t : n == 0 ≡ true = eq-eqb n 0 z in cc

module _ (app : App) (lists : Lists) (events : EventsAreExact app lists) (has : Row → Type 0) where
  abbrev R : ℕ → List Row → Row → Type 0
  R = EventRule app lists

  abbrev Sound : Row → Conclusion → Type 0
  Sound row = IsSound (EventRule app lists) has row

  -- what is known of a state, of which a label is known only where the component is there
  abbrev Stands : Known → ℕ → Type 0
  Stands There state = Unit {0}
  Stands (Leads p l) state = state ≢ 0

  -- 40, 41
  event_sound : (w : Known) (c e : ℕ) (class : Name) (life : LifeEvent) (body : Option ℕ) → LifeEventAt app c e class life body →
      Stands w life.from → has (live_as w c life.from) →
      AllByRecursion (Sound (live_as w c life.from))
      (leads_to w (standing_of w c life.from) life.to ++ runs app (life_arrival (standing_of w c life.from)) (ctx.Row c e) body)
  event_sound There c e class life body at stands h = (one R has (life_live at) h, run body at)
    where
      run : (o : Option ℕ) → LifeEventAt app c e class life o →
          AllByRecursion (Sound (Live c life.from)) (runs app (life_arrival (standing_of There c life.from)) (ctx.Row c e) o)
      run None at = tt
      run (Some b) at = object_sound app (start_of (life_arrival (standing_of There c life.from)) (ctx.Row c e) b) [] (Sound (Live c life.from)) (Component c)
          (λ row begins. one R has (life_begins at begins) h) (λ z r. one R has (life_receiver at r) h)
  event_sound (Leads p l) c e class life body at stands h =
      let P = Sound (CompTaint c life.from p l) in
      each_append P (leads_to (Leads p l) (standing_of (Leads p l) c life.from) life.to) (runs app (life_arrival (standing_of (Leads p l) c life.from)) (ctx.Row c e) body)
      (each_unless P (life.to == 0) (concludes 41 (of_one (CompTaint c life.from p l)) (CompTaint c life.to p l) ∷ [])
      (λ f. (one R has (life_taint at stands (not_zero life.to f)) h, tt))) (run body at)
    where
      run : (o : Option ℕ) → LifeEventAt app c e class life o →
          AllByRecursion (Sound (CompTaint c life.from p l)) (runs app (life_arrival (standing_of (Leads p l) c life.from)) (ctx.Row c e) o)
      run None at = tt
      run (Some b) at = label_sound app (start_of (life_arrival (standing_of (Leads p l) c life.from)) (ctx.Row c e) b) [] (Sound (CompTaint c life.from p l)) p l
          (λ z r. one R has (life_receiver_taint at stands r) h)

  abbrev EventSound : Known → ℕ → ℕ → Name × LifeEvent × Option ℕ → ℕ → Type 0
  EventSound w c e found state = AllByRecursion (Sound (live_as w c state))
      (leads_to w (standing_of w c state) found.1.to ++ runs app (life_arrival (standing_of w c state)) (ctx.Row c e) found.2)

  life_sound : (w : Known) (c state : ℕ) → Stands w state → has (live_as w c state) →
      AllByRecursion (Sound (live_as w c state)) (life_gives app (standing_of w c state))
  life_sound w c state stands h = each_below (Sound (live_as w c state)) (event_gives app (standing_of w c state)) (event_count app c) (λ e lt. on e (life_event app c e) refl)
    where
      on : (e : ℕ) (o : Option (Name × LifeEvent × Option ℕ)) → life_event app c e ≡ o →
          AllByRecursion (Sound (live_as w c state)) (by_life app (standing_of w c state) e o)
      on e None k = tt
      on e (Some found) k = each_where (Sound (live_as w c state)) (found.1.from == state)
          (leads_to w (standing_of w c state) found.1.to ++ runs app (life_arrival (standing_of w c state)) (ctx.Row c e) found.2) (λ t.
          let same = eqb-true found.1.from state t in
          subst (EventSound w c e found) same
          (event_sound w c e found.0 found.1 found.2 ((events.life c e found.0 found.1 found.2).1 k) (subst (Stands w) (sym same) stands) (subst (λ s. has (live_as w c s)) (sym same) h)))

  -- 42
  come_sound : (w : Known) (c state : ℕ) → state ≢ 0 → has (live_as w c state) → (k : Ctx) (sources : List (ℕ × ℕ)) (body : ℕ) →
      ComesToLive app lists c k body sources →
      AllByRecursion (Sound (live_as w c state)) (is_called app (present_arrival (standing_of w c state)) k (Some (sources, body)))
  come_sound There c state some h k sources body comes =
      object_sound app (start_of (present_arrival (standing_of There c state)) k body) sources (Sound (Live c state)) (Component c)
      (λ row begins. one R has (live_begins comes some begins) h) (λ z r. one R has (live_receiver comes some r) h)
  come_sound (Leads p l) c state some h k sources body comes =
      label_sound app (start_of (present_arrival (standing_of (Leads p l) c state)) k body) sources (Sound (CompTaint c state p l)) p l
      (λ z r. one R has (live_receiver_taint comes some r) h)

  present_sound : (w : Known) (c state : ℕ) → state ≢ 0 → has (live_as w c state) →
      AllByRecursion (Sound (live_as w c state)) (present_gives app lists (standing_of w c state))
  present_sound w c state some h =
      let P = Sound (live_as w c state) in
      each_append P (callbacks_give app lists (standing_of w c state)) (clicks_give app (standing_of w c state))
      (each_below P (callback_gives app lists (standing_of w c state)) (length lists.callbacks) (λ q lt. called q (component_callback app lists c q) refl))
      (each_below P (click_gives app (standing_of w c state)) (length app.clicks) (λ i lt. clicked i (click app c i) refl))
    where
      called : (q : ℕ) (o : Option (List (ℕ × ℕ) × ℕ)) → component_callback app lists c q ≡ o →
          AllByRecursion (Sound (live_as w c state)) (is_called app (present_arrival (standing_of w c state)) (ctx.Callback c q) o)
      called q None e = tt
      called q (Some found) e = come_sound w c state some h (ctx.Callback c q) found.0 found.1 (by_callback ((events.callback c q found.0 found.1).1 e))

      clicked : (i : ℕ) (o : Option ℕ) → click app c i ≡ o →
          AllByRecursion (Sound (live_as w c state)) (runs app (present_arrival (standing_of w c state)) (ctx.Click c i) o)
      clicked i None e = tt
      clicked i (Some body) e = come_sound w c state some h (ctx.Click c i) [] body (by_click ((events.clicked c i body).1 e))

  -- 44
  absent_sound : (c : ℕ) → has (Live c 0) → AllByRecursion (Sound (Live c 0)) (absent_gives app c)
  absent_sound c h = each_flat (Sound (Live c 0)) (initialiser_begins app c) (component_initialisers app c) (λ body i.
      begins_sound app (record { rule = 44; premises = of_one (Live c 0); ctx = ctx.Init c; body = body }) [] (Sound (Live c 0))
      (λ row begins. one R has (initialiser_begins_rule ((events.initialiser c body).1 i) begins) h))

  -- 47
  created_sound : (a : ℕ) → has (Live a 2) → AllByRecursion (Sound (Live a 2)) (created_gives app a)
  created_sound a h =
      let P = Sound (Live a 2) in
      each_where P (is_application (slice_get app.components a)) (others_live app a) (λ t.
      each_below P (other_lives a) (length app.components) (λ c lt. each_unless P (c == a) (concludes 47 (of_one (Live a 2)) (Live c 0) ∷ []) (λ f. (
        one R has (application_live (application_of app a t) (record { there = slice_get-get_or app.components c (application_of app a t).component lt }) (other c f)) h,
        tt,
      ))))
    where
      other : (c : ℕ) → c == a ≡ false → c ≢ a
      other c f same = let t : c == a ≡ true = eq-eqb c a same in cc

  abbrev absent_or_present : ℕ → ℕ → Bool → List Conclusion
  absent_or_present c state b = cond b (absent_gives app c) (present_gives app lists (standing_of There c state))

  pub live_sound : (c state : ℕ) → has (Live c state) → AllByRecursion (Sound (Live c state)) (live_gives app lists c state)
  live_sound c state h =
      let P = Sound (Live c state) in
      each_append P (life_gives app (standing_of There c state)) (absent_or_present c state (state == 0) ++ cond (state == 2) (created_gives app c) [])
      (life_sound There c state tt h)
      (each_append P (absent_or_present c state (state == 0)) (cond (state == 2) (created_gives app c) []) (rest (state == 0) refl)
      (each_where P (state == 2) (created_gives app c) (λ t. then_created (eqb-true state 2 t))))
    where
      rest : (b : Bool) → state == 0 ≡ b → AllByRecursion (Sound (Live c state)) (absent_or_present c state b)
      rest true e = let zero_is = eqb-true state 0 e in
          subst (λ s. AllByRecursion (Sound (Live c s)) (absent_gives app c)) (sym zero_is) (absent_sound c (subst (λ s. has (Live c s)) zero_is h))
      rest false e = present_sound There c state (not_zero state e) h

      then_created : state ≡ 2 → AllByRecursion (Sound (Live c state)) (created_gives app c)
      then_created two_is =
          subst (λ s. AllByRecursion (Sound (Live c s)) (created_gives app c)) (sym two_is) (created_sound c (subst (λ s. has (Live c s)) two_is h))

  pub comp_taint_sound : (c state : ℕ) (p : Path) (l : ℕ) → has (CompTaint c state p l) →
      AllByRecursion (Sound (CompTaint c state p l)) (comp_taint_gives app lists (standing_of (Leads p l) c state))
  comp_taint_sound c state p l h =
      let P = Sound (CompTaint c state p l) in
      let standing = standing_of (Leads p l) c state in
      each_unless P (state == 0) (life_gives app standing ++ present_gives app lists standing) (λ f.
      each_append P (life_gives app standing) (present_gives app lists standing)
      (life_sound (Leads p l) c state (not_zero state f) h) (present_sound (Leads p l) c state (not_zero state f) h))
