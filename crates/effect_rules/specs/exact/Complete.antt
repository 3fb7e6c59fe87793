-- What follows is listed.
use Rattle.std.proofs.Common.{◌≡◌, ◌==◌, ℕ, Bool, true, false, ◌||◌, List, [], ◌∷◌, ◌++◌, Option, Some, cond, flat_map, slice_get, eqb-true, refl, sym, ap, subst, ◌∙◌, inl, inr}
use Rattle.std.proofs.lemmas.Bool.{or_left, or_right, ne_eqb}
use Rattle.access_path.specs.declared.path.Path.{Path}
use Rattle.access_path.specs.Paths.{cut}
use Rattle.app_machine.specs.declared.method.Step.{Step}
use Rattle.app_machine.specs.declared.app.App.{App}
use Rattle.vet_base.specs.Members.{In}
use Rattle.app_machine.specs.Names.{Name}
use Rattle.app_machine.specs.LifeEvents.{LifeEvent}
use Rattle.app_machine.specs.Events.{LifeEventAt}
use Rattle.app_machine.specs.State.{holds}
use Rattle.fact_rows.specs.declared.context.Ctx.{Ctx}
use Rattle.fact_rows.specs.declared.context.Ctx.TheVariants as ctx
use Rattle.fact_rows.specs.declared.context.Node.{Node}
use Rattle.fact_rows.specs.declared.site.Site.{Site}
use Rattle.fact_rows.specs.declared.site.Site.TheVariants.{Component}
use Rattle.fact_rows.specs.declared.row.Row.{Row}
use Rattle.fact_rows.specs.declared.row.Row.TheVariants.{Points, Taint, Back, StaticPoints, StaticTaint, CalledBy, Effect, MethodEffect, Live, CompTaint, Handed, HandedTaint}
use Rattle.flow_rules.specs.Nodes.{at_pc, activation_in}
use Rattle.flow_rules.specs.Rules.{Each}
use Rattle.flow_rules.specs.EffectRules.{EffectRule, IsEventBeside, lift_effect, effect_next, effect_caught, method_effect, caller_effect, effect_static, effect_handed, effect_own, effect_other}
use Rattle.rule_ground.specs.declared.conclusion.Conclusion.{Conclusion}
use Rattle.rule_ground.specs.declared.key.Key.{Key}
use Rattle.rule_ground.specs.declared.key.Key.TheVariants.{BacksOf, PointsOn, StaticsTo, HandedOf, EffectsOn, EffectsIn, CallersOf, MethodEffectsOf, MethodEffectsOn, LivesOf}
use Rattle.rule_ground.specs.Given.{of_one, of_two, concludes}
use Rattle.rule_ground.specs.Hits.{IsHits}
use Rattle.rule_ground.specs.Exact.{IsListed}
use Rattle.vet_base.proofs.Members.{in_front, in_back, in_flat}
use Rattle.vet_base.proofs.Every.{in_where, in_unless}
use Rattle.rule_ground.specs.Listing.{here, only, either, in_holds, itself, found}
use Rattle.effect_rules.specs.EffectGiven.{step_here, lifts, spreads, spread_to, spread_on, statics_hold, is_handed, back_lifts, back_on, points_take, static_takes, handed_takes, caller_has, called_has, state_of, state_in, own_to, own_gives, is_beside, stays, component_gives, live_takes, effect_given}

is_event_beside : (k : Ctx) (c : ℕ) → IsEventBeside k c → is_beside k c ≡ true
is_event_beside (ctx.Row d e) c h = go (d == c) refl
  where
    go : (b : Bool) → d == c ≡ b → cond b false true ≡ true
    go true t = absurd (h (eqb-true d c t))
    go false t = refl
is_event_beside (ctx.Callback d q) c h = refl
is_event_beside (ctx.Click d i) c h = refl
is_event_beside (ctx.Handed q) c h = refl
is_event_beside (ctx.Init d) c h = refl
is_event_beside (ctx.Call m pc) c h = absurd h
is_event_beside (ctx.Call2 m pc n qc) c h = absurd h

leads_to : (app : App) (c e : ℕ) (class : Name) (life : LifeEvent) (body : Option ℕ) → LifeEventAt app c e class life body →
    state_in (slice_get app.components c) e ≡ Some life.to
leads_to app c e class life body h = ap (λ o. state_in o e) h.there.there ∙ ap state_of h.is_event.there

module _ (app : App) (has : Row → Type 0) (hits : Key → List Row) (law : (k : Key) → IsHits has k (hits k)) where
  abbrev given : Row → List Conclusion
  given row = effect_given app hits row

  -- the parts of what an effect gives
  part_lifts : (n : Node) (t : Site) (p : Path) (l : ℕ) (c : Conclusion) → In c (flat_map (lifts n t p l) (hits (BacksOf t))) → In c (given (Effect n t p l))
  part_lifts n t p l c i =
      inr
      (in_front c (flat_map (lifts n t p l) (hits (BacksOf t)))
      (spread_on (step_here app n) hits n t p l ++ (flat_map (statics_hold n t p l) (hits (StaticsTo t)) ++ flat_map (is_handed n t p l) (hits (HandedOf t)))) i)

  part_rest : (n : Node) (t : Site) (p : Path) (l : ℕ) (c : Conclusion) →
      In c (flat_map (statics_hold n t p l) (hits (StaticsTo t)) ++ flat_map (is_handed n t p l) (hits (HandedOf t))) →
      In c (given (Effect n t p l))
  part_rest n t p l c i =
      inr (in_back c (flat_map (lifts n t p l) (hits (BacksOf t))) (spread_on (step_here app n) hits n t p l ++ (flat_map (statics_hold n t p l) (hits (StaticsTo t)) ++ flat_map (is_handed n t p l) (hits (HandedOf t))))
      (in_back c (spread_on (step_here app n) hits n t p l) (flat_map (statics_hold n t p l) (hits (StaticsTo t)) ++ flat_map (is_handed n t p l) (hits (HandedOf t))) i))

  part_spread : (n : Node) (t : Site) (p : Path) (l : ℕ) (step : Step) → step_here app n ≡ Some step → (c : Conclusion) →
      In c (spread_on (Some step) hits n t p l) → In c (given (Effect n t p l))
  part_spread n t p l step there c i =
      inr (in_back c (flat_map (lifts n t p l) (hits (BacksOf t))) (spread_on (step_here app n) hits n t p l ++ (flat_map (statics_hold n t p l) (hits (StaticsTo t)) ++ flat_map (is_handed n t p l) (hits (HandedOf t))))
      (in_front c (spread_on (step_here app n) hits n t p l) (flat_map (statics_hold n t p l) (hits (StaticsTo t)) ++ flat_map (is_handed n t p l) (hits (HandedOf t)))
      (subst (λ o. In c (spread_on o hits n t p l)) (sym there) i)))

  spread_in : (n : Node) (t : Site) (p : Path) (l pc z : ℕ) (pcs : List ℕ) → In pc pcs → has (Points (at_pc n pc) z t) →
      In (concludes 15 (of_two (Effect n t p l) (Points (at_pc n pc) z t)) (Taint (at_pc n pc) z p l)) (spread_to hits n t p l pcs)
  spread_in n t p l pc z pcs i there =
      let c = concludes 15 (of_two (Effect n t p l) (Points (at_pc n pc) z t)) (Taint (at_pc n pc) z p l) in
      in_flat (λ to. flat_map (spreads n t p l) (hits (PointsOn (at_pc n to) t))) pcs pc c i
      (found has hits law (PointsOn (at_pc n pc) t) (spreads n t p l) (Points (at_pc n pc) z t) c there (z, refl) (inl refl))

  take_in : (n : Node) (t : Site) (p : Path) (l pc z : ℕ) (step : Step) → step_here app n ≡ Some step →
      holds step.next pc || holds step.catches pc ≡ true → has (Effect n t p l) →
      In (concludes 15 (of_two (Effect n t p l) (Points (at_pc n pc) z t)) (Taint (at_pc n pc) z p l)) (given (Points (at_pc n pc) z t))
  take_in n t p l pc z step there comes q =
      let c = concludes 15 (of_two (Effect n t p l) (Points (at_pc n pc) z t)) (Taint (at_pc n pc) z p l) in
      found has hits law (EffectsIn n.by t) (points_take app (at_pc n pc) z t) (Effect n t p l) c q (n, (p, (l, (refl, refl))))
      (subst (λ o. In c (back_on o pc c)) (sym there) (in_where c (holds step.next pc || holds step.catches pc) (c ∷ []) comes (inl refl)))

  pub effects_complete : (row : Row) (rule : ℕ) (premises : List Row) (x : Row) → EffectRule app rule premises x → Each has premises →
      In row premises → IsListed (given row) rule premises x
  effects_complete row rule premises x (lift_effect {n = n} {k = key} {l = l} {s = s} {t = t} {p = p}) k u =
      let c = concludes 14 (of_two (Effect n t p l) (Back t key s)) (Effect n s (cut key p) l) in
      either given _ _ _ u
      (here given (Effect n t p l) 14 (of_two (Effect n t p l) (Back t key s)) (Effect n s (cut key p) l)
      (part_lifts n t p l c (found has hits law (BacksOf t) (lifts n t p l) (Back t key s) c k.1.0 (key, (s, refl)) (inl refl))))
      (here given (Back t key s) 14 (of_two (Effect n t p l) (Back t key s)) (Effect n s (cut key p) l)
      (found has hits law (EffectsOn t) (back_lifts t key s) (Effect n t p l) c k.0 (n, (p, (l, refl))) (inl refl)))
  effects_complete row rule premises x (effect_next {n = n} {pc = pc} {z = z} {l = l} {s = s} {p = p} g) k u =
      let c = concludes 15 (of_two (Effect n s p l) (Points (at_pc n pc) z s)) (Taint (at_pc n pc) z p l) in
      either given _ _ _ u
      (here given (Effect n s p l) 15 (of_two (Effect n s p l) (Points (at_pc n pc) z s)) (Taint (at_pc n pc) z p l) (part_spread n s p l g.step g.there c
      (in_front c (spread_to hits n s p l g.step.next) (spread_to hits n s p l g.step.catches) (spread_in n s p l pc z g.step.next g.next k.1.0))))
      (here given (Points (at_pc n pc) z s) 15 (of_two (Effect n s p l) (Points (at_pc n pc) z s)) (Taint (at_pc n pc) z p l)
      (take_in n s p l pc z g.step g.there (or_left (holds g.step.next pc) (holds g.step.catches pc) (in_holds pc g.step.next g.next)) k.0))
  effects_complete row rule premises x (effect_caught {n = n} {pc = pc} {z = z} {l = l} {s = s} {p = p} g) k u =
      let c = concludes 15 (of_two (Effect n s p l) (Points (at_pc n pc) z s)) (Taint (at_pc n pc) z p l) in
      either given _ _ _ u
      (here given (Effect n s p l) 15 (of_two (Effect n s p l) (Points (at_pc n pc) z s)) (Taint (at_pc n pc) z p l) (part_spread n s p l g.step g.there c
      (in_back c (spread_to hits n s p l g.step.next) (spread_to hits n s p l g.step.catches) (spread_in n s p l pc z g.step.catches g.catch k.1.0))))
      (here given (Points (at_pc n pc) z s) 15 (of_two (Effect n s p l) (Points (at_pc n pc) z s)) (Taint (at_pc n pc) z p l)
      (take_in n s p l pc z g.step g.there (or_right (holds g.step.next pc) (holds g.step.catches pc) (in_holds pc g.step.catches g.catch)) k.0))
  effects_complete row rule premises x (method_effect {n = n} {l = l} {s = s} {p = p}) k u =
      only given _ _ _ u (here given (Effect n s p l) 16 (of_one (Effect n s p l)) (MethodEffect n.by s p l) (inl refl))
  effects_complete row rule premises x (caller_effect {n = n} {b = b} {l = l} {s = s} {p = p}) k u =
      let c = concludes 17 (of_two (MethodEffect b s p l) (CalledBy b n)) (Effect n s p l) in
      either given _ _ _ u
      (here given (MethodEffect b s p l) 17 (of_two (MethodEffect b s p l) (CalledBy b n)) (Effect n s p l)
      (in_front c (flat_map (caller_has b s p l) (hits (CallersOf b))) (component_gives app hits b s p l) (found has hits law (CallersOf b) (caller_has b s p l) (CalledBy b n) c k.1.0 (n, refl) (inl refl))))
      (here given (CalledBy b n) 17 (of_two (MethodEffect b s p l) (CalledBy b n)) (Effect n s p l)
      (found has hits law (MethodEffectsOf b) (called_has b n) (MethodEffect b s p l) c k.0 (s, (p, (l, refl))) (inl refl)))
  effects_complete row rule premises x (effect_static {n = n} {g = g} {l = l} {s = s} {p = p}) k u =
      let c = concludes 18 (of_two (Effect n s p l) (StaticPoints g s)) (StaticTaint g p l) in
      either given _ _ _ u
      (here given (Effect n s p l) 18 (of_two (Effect n s p l) (StaticPoints g s)) (StaticTaint g p l)
      (part_rest n s p l c (in_front c (flat_map (statics_hold n s p l) (hits (StaticsTo s))) (flat_map (is_handed n s p l) (hits (HandedOf s))) (found has hits law (StaticsTo s) (statics_hold n s p l) (StaticPoints g s) c k.1.0 (g, refl) (inl refl)))))
      (here given (StaticPoints g s) 18 (of_two (Effect n s p l) (StaticPoints g s)) (StaticTaint g p l)
      (found has hits law (EffectsOn s) (static_takes g s) (Effect n s p l) c k.0 (n, (p, (l, refl))) (inl refl)))
  effects_complete row rule premises x (effect_handed {n = n} {l = l} {s = s} {p = p}) k u =
      let c = concludes 19 (of_two (Effect n s p l) (Handed s)) (HandedTaint s p l) in
      either given _ _ _ u
      (here given (Effect n s p l) 19 (of_two (Effect n s p l) (Handed s)) (HandedTaint s p l)
      (part_rest n s p l c (in_back c (flat_map (statics_hold n s p l) (hits (StaticsTo s))) (flat_map (is_handed n s p l) (hits (HandedOf s))) (found has hits law (HandedOf s) (is_handed n s p l) (Handed s) c k.1.0 refl (inl refl)))))
      (here given (Handed s) 19 (of_two (Effect n s p l) (Handed s)) (HandedTaint s p l)
      (found has hits law (EffectsOn s) (handed_takes s) (Effect n s p l) c k.0 (n, (p, (l, refl))) (inl refl)))
  effects_complete row rule premises x (effect_own {c = component} {e = e} {l = l} {method = method} {class = class} {life = life} {body = body} {p = p} h ne) k u =
      let b = activation_in (ctx.Row component e) method in
      let c = concludes 20 (of_one (MethodEffect b (Component component) p l)) (CompTaint component life.to p l) in
      only given _ _ _ u (here given (MethodEffect b (Component component) p l) 20 (of_one (MethodEffect b (Component component) p l)) (CompTaint component life.to p l)
      (in_back c (flat_map (caller_has b (Component component) p l) (hits (CallersOf b))) (component_gives app hits b (Component component) p l)
      (in_front c (own_gives app b.ctx b component p l) (cond (is_beside b.ctx component) (flat_map (stays b component p l) (hits (LivesOf component))) [])
      (in_where c (component == component) (own_to (state_in (slice_get app.components component) e) b component p l) (itself component)
      (subst (λ o. In c (own_to o b component p l)) (sym (leads_to app component e class life body h)) (in_unless c (life.to == 0) (c ∷ []) (ne_eqb life.to 0 ne) (inl refl)))))))
  effects_complete row rule premises x (effect_other {b = b} {c = component} {state = state} {l = l} {p = p} beside ne) k u =
      let c = concludes 21 (of_two (MethodEffect b (Component component) p l) (Live component state)) (CompTaint component state p l) in
      let t = is_event_beside b.ctx component beside in
      either given _ _ _ u
      (here given (MethodEffect b (Component component) p l) 21 (of_two (MethodEffect b (Component component) p l) (Live component state)) (CompTaint component state p l)
      (in_back c (flat_map (caller_has b (Component component) p l) (hits (CallersOf b))) (component_gives app hits b (Component component) p l)
      (in_back c (own_gives app b.ctx b component p l) (cond (is_beside b.ctx component) (flat_map (stays b component p l) (hits (LivesOf component))) [])
      (in_where c (is_beside b.ctx component) (flat_map (stays b component p l) (hits (LivesOf component))) t
      (found has hits law (LivesOf component) (stays b component p l) (Live component state) c k.1.0 (state, refl) (in_unless c (state == 0) (c ∷ []) (ne_eqb state 0 ne) (inl refl)))))))
      (here given (Live component state) 21 (of_two (MethodEffect b (Component component) p l) (Live component state)) (CompTaint component state p l)
      (in_unless c (state == 0) (flat_map (live_takes component state) (hits (MethodEffectsOn (Component component)))) (ne_eqb state 0 ne)
      (found has hits law (MethodEffectsOn (Component component)) (live_takes component state)
      (MethodEffect b (Component component) p l) c k.0 (b, (p, (l, refl))) (in_where c (is_beside b.ctx component) (c ∷ []) t (inl refl)))))
