-- Rule 29 as lists: the effects of initialisers on registers.
use Rattle.std.specs.Prelude.{ℕ, Bool, false, List, [], ◌∷◌, Option, Some, None, cond, flat_map}
use Rattle.access_path.specs.declared.path.Path.{Path}
use Rattle.app_machine.specs.declared.method.Step.{Step}
use Rattle.app_machine.specs.declared.app.App.{App}
use Rattle.fact_rows.specs.declared.context.Activation.{Activation}
use Rattle.fact_rows.specs.declared.context.Node.{Node}
use Rattle.fact_rows.specs.declared.site.Site.{Site}
use Rattle.fact_rows.specs.declared.row.Row.{Row}
use Rattle.fact_rows.specs.declared.row.Row.TheVariants.{Points, Taint, CalledBy, MethodEffect}
use Rattle.flow_rules.specs.Nodes.{callee}
use Rattle.rule_ground.specs.declared.conclusion.Conclusion.{Conclusion}
use Rattle.rule_ground.specs.declared.key.Key.{Key}
use Rattle.rule_ground.specs.declared.key.Key.TheVariants.{PointsOn, CallersOf, CallerAt, MethodEffectsOf, MethodEffectsBy}
use Rattle.rule_ground.specs.Given.{of_three, concludes}
use Rattle.call_targets.specs.EnterGiven.{step_here}
use Rattle.call_rules.specs.PassGiven.{is_initialised}

abbrev pub is_initialised_at : App → Node → Activation → Option Step → Bool
is_initialised_at app n b None = false
is_initialised_at app n b (Some step) = is_initialised app n step.act b

abbrev pub tainted : Activation → Node → ℕ → Site → Path → ℕ → Conclusion
tainted b n z s p l = concludes 29 (of_three (MethodEffect b s p l) (CalledBy b n) (Points n z s)) (Taint n z p l)

-- From the effect and the call: to the registers that hold an object of the site.
abbrev pub register_gets : Activation → Node → Site → Path → ℕ → Row → List Conclusion
register_gets b n s p l (Points m z t) = tainted b n z s p l ∷ []
register_gets b n s p l _ = []

abbrev pub registers_get : (Key → List Row) → Activation → Node → Site → Path → ℕ → List Conclusion
registers_get hits b n s p l = flat_map (register_gets b n s p l) (hits (PointsOn n s))

-- From the effect.
abbrev pub caller_gets : App → (Key → List Row) → Activation → Site → Path → ℕ → Row → List Conclusion
caller_gets app hits b s p l (CalledBy c n) =
    cond (is_initialised_at app n b (step_here app n)) (registers_get hits b n s p l) []
caller_gets app hits b s p l _ = []

abbrev pub effect_gives : App → (Key → List Row) → Activation → Site → Path → ℕ → List Conclusion
effect_gives app hits b s p l = flat_map (caller_gets app hits b s p l) (hits (CallersOf b))

-- From the call.
abbrev pub effect_comes : (Key → List Row) → Activation → Node → Row → List Conclusion
effect_comes hits b n (MethodEffect c s p l) = registers_get hits b n s p l
effect_comes hits b n _ = []

abbrev pub effects_come : App → (Key → List Row) → Activation → Node → List Conclusion
effects_come app hits b n =
    cond (is_initialised_at app n b (step_here app n)) (flat_map (effect_comes hits b n) (hits (MethodEffectsOf b))) []

-- From the register.
abbrev pub effect_taints : Activation → Node → ℕ → Site → Row → List Conclusion
effect_taints b n z s (MethodEffect c t p l) = tainted b n z s p l ∷ []
effect_taints b n z s _ = []

abbrev pub call_taints : (Key → List Row) → Activation → Node → ℕ → Site → Row → List Conclusion
call_taints hits b n z s (CalledBy c m) = flat_map (effect_taints b n z s) (hits (MethodEffectsBy b s))
call_taints hits b n z s _ = []

abbrev pub body_taints : (Key → List Row) → Node → ℕ → Site → ℕ → List Conclusion
body_taints hits n z s body = flat_map (call_taints hits (callee n body) n z s) (hits (CallerAt (callee n body) n))

abbrev pub bodies_taint : (Key → List Row) → Node → ℕ → Site → List ℕ → List Conclusion
bodies_taint hits n z s bodies = flat_map (body_taints hits n z s) bodies
