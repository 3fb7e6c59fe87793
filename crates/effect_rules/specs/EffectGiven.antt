-- What a row gives by the rules of effects, as a list of conclusions.
use Rattle.std.specs.Prelude.{◌==◌, ◌||◌, ℕ, Bool, true, false, List, [], ◌∷◌, ◌++◌, Option, Some, None, cond, flat_map, slice_get}
use Rattle.vet_base.specs.declared.key_id.KeyId.{KeyId}
use Rattle.access_path.specs.declared.path.Path.{Path}
use Rattle.access_path.specs.Paths.{cut}
use Rattle.app_machine.specs.declared.method.Step.{Step}
use Rattle.app_machine.specs.declared.component.Component.{Component as ComponentOf}
use Rattle.app_machine.specs.declared.app.App.{App}
use Rattle.app_machine.specs.LifeEvents.{LifeEvent, life_events}
use Rattle.app_machine.specs.Lookups.{step_at}
use Rattle.app_machine.specs.State.{holds}
use Rattle.fact_rows.specs.declared.context.Ctx.{Ctx}
use Rattle.fact_rows.specs.declared.context.Ctx.TheVariants as ctx
use Rattle.fact_rows.specs.declared.context.Activation.{Activation}
use Rattle.fact_rows.specs.declared.context.Node.{Node}
use Rattle.fact_rows.specs.declared.site.Site.{Site}
use Rattle.fact_rows.specs.declared.site.Site.TheVariants.{Component}
use Rattle.fact_rows.specs.declared.row.Row.{Row}
use Rattle.fact_rows.specs.declared.row.Row.TheVariants.{Points, Taint, Back, StaticPoints, StaticTaint, CalledBy, Effect, MethodEffect, Live, CompTaint, Handed, HandedTaint}
use Rattle.flow_rules.specs.Nodes.{at_pc}
use Rattle.rule_ground.specs.declared.conclusion.Conclusion.{Conclusion}
use Rattle.rule_ground.specs.declared.key.Key.{Key}
use Rattle.rule_ground.specs.declared.key.Key.TheVariants.{BacksOf, PointsOn, StaticsTo, HandedOf, EffectsOn, EffectsIn, CallersOf, MethodEffectsOf, MethodEffectsOn, LivesOf}
use Rattle.rule_ground.specs.Given.{of_one, of_two, concludes}

-- the step at a node
abbrev pub step_here : App → Node → Option Step
step_here app n = step_at app n.by.method n.pc

-- 14. What holds the object is affected.
abbrev pub lifts : Node → Site → Path → ℕ → Row → List Conclusion
lifts n t p l (Back u k s) = concludes 14 (of_two (Effect n t p l) (Back u k s)) (Effect n s (cut k p) l) ∷ []
lifts n t p l _ = []

-- 15. So are the registers that hold it behind the step.
abbrev pub spreads : Node → Site → Path → ℕ → Row → List Conclusion
spreads n t p l (Points m z u) = concludes 15 (of_two (Effect n t p l) (Points m z u)) (Taint m z p l) ∷ []
spreads n t p l _ = []

abbrev pub spread_to : (Key → List Row) → Node → Site → Path → ℕ → List ℕ → List Conclusion
spread_to hits n t p l pcs = flat_map (λ pc. flat_map (spreads n t p l) (hits (PointsOn (at_pc n pc) t))) pcs

abbrev pub spread_on : Option Step → (Key → List Row) → Node → Site → Path → ℕ → List Conclusion
spread_on None hits n t p l = []
spread_on (Some step) hits n t p l = spread_to hits n t p l step.next ++ spread_to hits n t p l step.catches

-- 18, 19. So are the statics that hold it, and what is handed.
abbrev pub statics_hold : Node → Site → Path → ℕ → Row → List Conclusion
statics_hold n t p l (StaticPoints g s) = concludes 18 (of_two (Effect n t p l) (StaticPoints g s)) (StaticTaint g p l) ∷ []
statics_hold n t p l _ = []

abbrev pub is_handed : Node → Site → Path → ℕ → Row → List Conclusion
is_handed n t p l (Handed s) = concludes 19 (of_two (Effect n t p l) (Handed s)) (HandedTaint s p l) ∷ []
is_handed n t p l _ = []

abbrev pub effect_gives : App → (Key → List Row) → Node → Site → Path → ℕ → List Conclusion
effect_gives app hits n t p l =
    concludes 16 (of_one (Effect n t p l)) (MethodEffect n.by t p l)
    ∷ (flat_map (lifts n t p l) (hits (BacksOf t)) ++ (spread_on (step_here app n) hits n t p l ++ (flat_map (statics_hold n t p l) (hits (StaticsTo t)) ++ flat_map (is_handed n t p l) (hits (HandedOf t)))))

-- The same from the other premise.
abbrev pub back_lifts : Site → KeyId → Site → Row → List Conclusion
back_lifts t k s (Effect n u p l) = concludes 14 (of_two (Effect n u p l) (Back t k s)) (Effect n s (cut k p) l) ∷ []
back_lifts t k s _ = []

abbrev pub back_on : Option Step → ℕ → Conclusion → List Conclusion
back_on None pc c = []
back_on (Some step) pc c = cond (holds step.next pc || holds step.catches pc) (c ∷ []) []

abbrev pub points_take : App → Node → ℕ → Site → Row → List Conclusion
points_take app m z s (Effect n u p l) = back_on (step_here app n) m.pc (concludes 15 (of_two (Effect n u p l) (Points m z s)) (Taint m z p l))
points_take app m z s _ = []

abbrev pub static_takes : ℕ → Site → Row → List Conclusion
static_takes g s (Effect n u p l) = concludes 18 (of_two (Effect n u p l) (StaticPoints g s)) (StaticTaint g p l) ∷ []
static_takes g s _ = []

abbrev pub handed_takes : Site → Row → List Conclusion
handed_takes s (Effect n u p l) = concludes 19 (of_two (Effect n u p l) (Handed s)) (HandedTaint s p l) ∷ []
handed_takes s _ = []

-- 17.
abbrev pub caller_has : Activation → Site → Path → ℕ → Row → List Conclusion
caller_has b s p l (CalledBy c n) = concludes 17 (of_two (MethodEffect b s p l) (CalledBy c n)) (Effect n s p l) ∷ []
caller_has b s p l _ = []

abbrev pub called_has : Activation → Node → Row → List Conclusion
called_has b n (MethodEffect c s p l) = concludes 17 (of_two (MethodEffect c s p l) (CalledBy b n)) (Effect n s p l) ∷ []
called_has b n _ = []

-- 20. To which state the event of the component leads.
abbrev pub state_of : Option LifeEvent → Option ℕ
state_of None = None
state_of (Some life) = Some life.to

abbrev pub state_in : Option ComponentOf → ℕ → Option ℕ
state_in None e = None
state_in (Some component) e = state_of (slice_get (life_events component.kind) e)

abbrev pub own_to : Option ℕ → Activation → ℕ → Path → ℕ → List Conclusion
own_to None b c p l = []
own_to (Some to) b c p l = cond (to == 0) [] (concludes 20 (of_one (MethodEffect b (Component c) p l)) (CompTaint c to p l) ∷ [])

abbrev pub own_gives : App → Ctx → Activation → ℕ → Path → ℕ → List Conclusion
own_gives app (ctx.Row d e) b c p l = cond (d == c) (own_to (state_in (slice_get app.components c) e) b c p l) []
own_gives app _ b c p l = []

-- 21. Whether the context is that of an event, but of none in the component's own life.
abbrev pub is_beside : Ctx → ℕ → Bool
is_beside (ctx.Row d e) c = cond (d == c) false true
is_beside (ctx.Callback d q) c = true
is_beside (ctx.Click d i) c = true
is_beside (ctx.Handed q) c = true
is_beside (ctx.Init d) c = true
is_beside (ctx.Call m pc) c = false
is_beside (ctx.Call2 m pc n qc) c = false

abbrev pub stays : Activation → ℕ → Path → ℕ → Row → List Conclusion
stays b c p l (Live d state) = cond (state == 0) [] (concludes 21 (of_two (MethodEffect b (Component c) p l) (Live d state)) (CompTaint c state p l) ∷ [])
stays b c p l _ = []

abbrev pub component_gives : App → (Key → List Row) → Activation → Site → Path → ℕ → List Conclusion
component_gives app hits b (Component c) p l = own_gives app b.ctx b c p l ++ cond (is_beside b.ctx c) (flat_map (stays b c p l) (hits (LivesOf c))) []
component_gives app hits b _ p l = []

abbrev pub method_gives : App → (Key → List Row) → Activation → Site → Path → ℕ → List Conclusion
method_gives app hits b s p l = flat_map (caller_has b s p l) (hits (CallersOf b)) ++ component_gives app hits b s p l

abbrev pub live_takes : ℕ → ℕ → Row → List Conclusion
live_takes c state (MethodEffect b s p l) = cond (is_beside b.ctx c) (concludes 21 (of_two (MethodEffect b s p l) (Live c state)) (CompTaint c state p l) ∷ []) []
live_takes c state _ = []

abbrev pub live_gives : (Key → List Row) → ℕ → ℕ → List Conclusion
live_gives hits c state = cond (state == 0) [] (flat_map (live_takes c state) (hits (MethodEffectsOn (Component c))))

abbrev pub effect_given : App → (Key → List Row) → Row → List Conclusion
effect_given app hits (Effect n t p l) = effect_gives app hits n t p l
effect_given app hits (Back t k s) = flat_map (back_lifts t k s) (hits (EffectsOn t))
effect_given app hits (Points m z s) = flat_map (points_take app m z s) (hits (EffectsIn m.by s))
effect_given app hits (StaticPoints g s) = flat_map (static_takes g s) (hits (EffectsOn s))
effect_given app hits (Handed s) = flat_map (handed_takes s) (hits (EffectsOn s))
effect_given app hits (MethodEffect b s p l) = method_gives app hits b s p l
effect_given app hits (CalledBy b n) = flat_map (called_has b n) (hits (MethodEffectsOf b))
effect_given app hits (Live c state) = live_gives hits c state
effect_given app hits _ = []

-- each rule has an effect among its premises, and is led by it
abbrev pub effect_leads : App → (Key → List Row) → Row → List Conclusion
effect_leads app hits (Effect n t p l) = effect_given app hits (Effect n t p l)
effect_leads app hits (MethodEffect b s p l) = effect_given app hits (MethodEffect b s p l)
effect_leads app hits _ = []
