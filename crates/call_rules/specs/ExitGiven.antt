-- Rules 25 and 26 as lists: what an activation returns and throws.
use Rattle.std.specs.Prelude.{◌==◌, ℕ, List, [], ◌∷◌, ◌++◌, Option, Some, None, cond, flat_map}
use Rattle.app_machine.specs.declared.method.Step.{Step}
use Rattle.app_machine.specs.declared.app.App.{App}
use Rattle.app_machine.specs.State.{result_register, exception_register}
use Rattle.fact_rows.specs.declared.context.Activation.{Activation}
use Rattle.fact_rows.specs.declared.context.Node.{Node}
use Rattle.fact_rows.specs.declared.row.Row.{Row}
use Rattle.fact_rows.specs.declared.row.Row.TheVariants.{CalledBy, ExitPoints, ExitTaint}
use Rattle.flow_rules.specs.LocalRules.{returning, throwing}
use Rattle.rule_ground.specs.declared.conclusion.Conclusion.{Conclusion}
use Rattle.rule_ground.specs.declared.content.Content.{Content}
use Rattle.rule_ground.specs.declared.content.Content.TheVariants.{Object, Label}
use Rattle.rule_ground.specs.declared.key.Key.{Key}
use Rattle.rule_ground.specs.declared.key.Key.TheVariants.{ExitPointsOf, ExitTaintsOf}
use Rattle.rule_ground.specs.Given.{of_two, concludes, leaves, at_each}
use Rattle.call_targets.specs.EnterGiven.{step_here}

-- 25. Behind the step that called.
abbrev pub returned_on : Option Step → Activation → Content → Node → List Conclusion
returned_on None b v n = []
returned_on (Some step) b v n = at_each 25 (of_two (leaves v b returning) (CalledBy b n)) v n result_register step.next

-- 26. At its handlers.
abbrev pub caught_on : Option Step → Activation → Content → Node → List Conclusion
caught_on None b v n = []
caught_on (Some step) b v n = at_each 26 (of_two (leaves v b throwing) (CalledBy b n)) v n exception_register step.catches

abbrev pub thrown : App → Activation → Content → Node → List Conclusion
thrown app b v n =
    concludes 26 (of_two (leaves v b throwing) (CalledBy b n)) (leaves v n.by throwing)
    ∷ caught_on (step_here app n) b v n

abbrev pub left : App → Activation → ℕ → Content → Node → List Conclusion
left app b how v n =
    cond (how == returning) (returned_on (step_here app n) b v n)
    (cond (how == throwing) (thrown app b v n) [])

-- Who called takes it.
abbrev pub caller_takes : App → Activation → ℕ → Content → Row → List Conclusion
caller_takes app b how v (CalledBy c n) = left app b how v n
caller_takes app b how v _ = []

-- The node takes what leaves the activation.
abbrev pub exit_taken : App → Activation → Node → Row → List Conclusion
exit_taken app b n (ExitPoints c how s) = left app b how (Object s) n
exit_taken app b n (ExitTaint c how p l) = left app b how (Label p l) n
exit_taken app b n _ = []

abbrev pub exits_taken : App → (Key → List Row) → Activation → Node → ℕ → List Conclusion
exits_taken app hits b n how =
    flat_map (exit_taken app b n) (hits (ExitPointsOf b how)) ++ flat_map (exit_taken app b n) (hits (ExitTaintsOf b how))
