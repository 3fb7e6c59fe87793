-- Rule 24 as lists: the arguments that a call passes.
use Rattle.std.specs.Prelude.{◌==◌, ◌&&◌, ℕ, Bool, true, false, List, [], ◌∷◌, ◌++◌, Option, Some, None, cond, flat_map, length, slice_get}
use Rattle.app_machine.specs.declared.call.CallKind.{CallKind}
use Rattle.app_machine.specs.declared.method.Act.{Act}
use Rattle.app_machine.specs.declared.method.Act.TheVariants as act
use Rattle.app_machine.specs.declared.method.Step.{Step}
use Rattle.app_machine.specs.declared.app.App.{App}
use Rattle.app_machine.specs.Lookups.{initialisers, is_by_receiver}
use Rattle.app_machine.specs.State.{holds}
use Rattle.fact_rows.specs.declared.context.Activation.{Activation}
use Rattle.fact_rows.specs.declared.context.Node.{Node}
use Rattle.fact_rows.specs.declared.row.Row.{Row}
use Rattle.fact_rows.specs.declared.row.Row.TheVariants.{Points, Taint, Calls}
use Rattle.fact_rows.specs.contracts.context.ActivationPartialEq.TheImpl.{ghosts as activation_eq}
use Rattle.flow_rules.specs.Nodes.{entry, callee}
use Rattle.rule_ground.specs.declared.conclusion.Conclusion.{Conclusion}
use Rattle.rule_ground.specs.declared.content.Content.{Content}
use Rattle.rule_ground.specs.declared.content.Content.TheVariants.{Object, Label}
use Rattle.rule_ground.specs.declared.key.Key.{Key}
use Rattle.rule_ground.specs.declared.key.Key.TheVariants.{PointsAt, TaintsAt, CallsAt}
use Rattle.rule_ground.specs.Given.{of_two, concludes, held}
use Rattle.rule_ground.specs.Below.{for_below}
use Rattle.call_targets.specs.EnterGiven.{argument_register, passed_to, is_register}

-- whether the activation is of an initialiser that may run before the act
abbrev pub is_initialised : App → Node → Act → Activation → Bool
is_initialised app n a b = holds (initialisers app a) b.method && activation_eq.eq b (callee n b.method)

-- whether the target of the call hangs on the objects of the argument
abbrev pub hangs_on : CallKind → ℕ → Bool
hangs_on kind i = is_by_receiver kind && i == 0

abbrev pub is_passed : CallKind → ℕ → Content → Bool
is_passed kind i (Object s) = cond (hangs_on kind i) false true
is_passed kind i (Label p l) = true

-- what the register x holds comes to the register z
abbrev pub passed : Node → Activation → ℕ → ℕ → Content → Conclusion
passed n b x z v = concludes 24 (of_two (Calls n b) (held v n x)) (held v (entry b) z)

abbrev pub argument_gets : Node → Activation → ℕ → ℕ → Row → List Conclusion
argument_gets n b x z (Points m y s) = passed n b x z (Object s) ∷ []
argument_gets n b x z (Taint m y p l) = passed n b x z (Label p l) ∷ []
argument_gets n b x z _ = []

abbrev pub argument_passed : (Key → List Row) → Node → Activation → CallKind → ℕ → Option ℕ → Option ℕ → List Conclusion
argument_passed hits n b kind i None z = []
argument_passed hits n b kind i (Some x) None = []
argument_passed hits n b kind i (Some x) (Some z) =
    cond (hangs_on kind i) [] (flat_map (argument_gets n b x z) (hits (PointsAt n x)))
    ++ flat_map (argument_gets n b x z) (hits (TaintsAt n x))

abbrev pub argument_at : App → (Key → List Row) → Node → Activation → CallKind → List ℕ → ℕ → List Conclusion
argument_at app hits n b kind args i = argument_passed hits n b kind i (slice_get args i) (argument_register app b.method i)

-- all that the node passes to the activation
abbrev pub call_passes : App → (Key → List Row) → Node → Activation → Act → List Conclusion
call_passes app hits n b (act.Call kind at args) =
    cond (is_initialised app n (act.Call kind at args) b) [] (for_below (argument_at app hits n b kind args) (length args))
call_passes app hits n b _ = []

abbrev pub calls_on : App → (Key → List Row) → Node → Activation → Option Step → List Conclusion
calls_on app hits n b None = []
calls_on app hits n b (Some step) = call_passes app hits n b step.act

-- The same from the content.
abbrev pub passed_at : App → Node → Activation → CallKind → List ℕ → ℕ → Content → ℕ → List Conclusion
passed_at app n b kind args x v i =
    cond (is_register (slice_get args i) x && is_passed kind i v)
    (passed_to 24 (of_two (Calls n b) (held v n x)) v b (argument_register app b.method i)) []

abbrev pub callee_gets : App → Node → Act → CallKind → List ℕ → ℕ → Content → Row → List Conclusion
callee_gets app n a kind args x v (Calls m b) =
    cond (is_initialised app n a b) [] (for_below (passed_at app n b kind args x v) (length args))
callee_gets app n a kind args x v _ = []

abbrev pub content_passed : App → (Key → List Row) → Node → ℕ → Content → Act → List Conclusion
content_passed app hits n x v (act.Call kind at args) =
    cond (holds args x) (flat_map (callee_gets app n (act.Call kind at args) kind args x v) (hits (CallsAt n))) []
content_passed app hits n x v _ = []
