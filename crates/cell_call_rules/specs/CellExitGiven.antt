-- Rules 25 and 26 of the second set as lists: what an activation returns and throws.
use Rattle.std.specs.Prelude.{◌==◌, ℕ, List, [], ◌∷◌, ◌++◌, Option, Some, None, cond, flat_map}
use Rattle.app_machine.specs.declared.method.Step.{Step}
use Rattle.app_machine.specs.declared.app.App.{App}
use Rattle.app_machine.specs.State.{result_register, exception_register}
use Rattle.fact_rows.specs.declared.context.Activation.{Activation}
use Rattle.fact_rows.specs.declared.context.Node.{Node}
use Rattle.fact_rows.specs.declared.row.Row.{Row}
use Rattle.fact_rows.specs.declared.row.Row.TheVariants as fact
use Rattle.flow_rules.specs.LocalRules.{returning, throwing}
use Rattle.register_readers.specs.Readings.{Readings}
use Rattle.rule_ground.specs.declared.conclusion.Conclusion.{Conclusion}
use Rattle.rule_ground.specs.declared.key.Key.{Key}
use Rattle.rule_ground.specs.declared.key.Key.TheVariants.{CallersOf, ExitPointsOf, ExitLabelsOf}
use Rattle.rule_ground.specs.Given.{of_two, concludes}
use Rattle.cell_ground.specs.declared.content.Content.{Content}
use Rattle.cell_ground.specs.declared.content.Content.TheVariants.{Object, Label}
use Rattle.cell_ground.specs.Coming.{leaves, coming}
use Rattle.cell_ground.specs.Steps.{step_here}

-- 26. A label leaves the activation that called; that an object does is a rule of the first set.
abbrev pub unwinds : Activation → Content → Node → List Conclusion
unwinds b (Object s) n = []
unwinds b (Label l) n = concludes 26 (of_two (leaves (Label l) b throwing) (fact.CalledBy b n)) (leaves (Label l) n.by throwing) ∷ []

module _ (readings : Readings) where
  -- 25. Behind the step that called.
  abbrev pub returned_on : Option Step → Activation → Content → Node → List Conclusion
  returned_on None b v n = []
  returned_on (Some step) b v n = coming readings 25 (of_two (leaves v b returning) (fact.CalledBy b n)) v n result_register step.next

  -- 26. At its handlers.
  abbrev pub caught_on : Option Step → Activation → Content → Node → List Conclusion
  caught_on None b v n = []
  caught_on (Some step) b v n = coming readings 26 (of_two (leaves v b throwing) (fact.CalledBy b n)) v n exception_register step.catches

module _ (app : App) (readings : Readings) where
  abbrev pub left : Activation → ℕ → Content → Node → List Conclusion
  left b how v n =
      cond (how == returning) (returned_on readings (step_here app n) b v n)
      (cond (how == throwing) (unwinds b v n ++ caught_on readings (step_here app n) b v n) [])

  -- Who called takes it.
  abbrev pub caller_takes : Activation → ℕ → Content → Row → List Conclusion
  caller_takes b how v (fact.CalledBy c n) = left b how v n
  caller_takes b how v _ = []

  abbrev pub exit_gives : (Key → List Row) → Activation → ℕ → Content → List Conclusion
  exit_gives hits b how v = flat_map (caller_takes b how v) (hits (CallersOf b))

  -- The node takes what leaves the activation.
  abbrev pub exit_taken : Activation → Node → Row → List Conclusion
  exit_taken b n (fact.ExitPoints c how s) = left b how (Object s) n
  exit_taken b n (fact.ExitLabel c how l) = left b how (Label l) n
  exit_taken b n _ = []

  abbrev pub exits_taken : (Key → List Row) → Activation → Node → ℕ → List Conclusion
  exits_taken hits b n how = flat_map (exit_taken b n) (hits (ExitPointsOf b how)) ++ flat_map (exit_taken b n) (hits (ExitLabelsOf b how))
