-- What a row gives by the rules of calls of the second set, as a list of conclusions.
use Rattle.std.specs.Prelude.{ℕ, List, [], ◌++◌, Option, Some, None}
use Rattle.app_machine.specs.declared.method.Step.{Step}
use Rattle.app_machine.specs.declared.lists.Lists.{Lists}
use Rattle.app_machine.specs.declared.app.App.{App}
use Rattle.fact_rows.specs.declared.context.Activation.{Activation}
use Rattle.fact_rows.specs.declared.context.Node.{Node}
use Rattle.fact_rows.specs.declared.site.Site.{Site}
use Rattle.fact_rows.specs.declared.row.Row.{Row}
use Rattle.fact_rows.specs.declared.row.Row.TheVariants as fact
use Rattle.flow_rules.specs.LocalRules.{returning, throwing}
use Rattle.register_readers.specs.Readings.{Readings}
use Rattle.rule_ground.specs.declared.conclusion.Conclusion.{Conclusion}
use Rattle.rule_ground.specs.declared.key.Key.{Key}
use Rattle.cell_ground.specs.declared.content.Content.{Content}
use Rattle.cell_ground.specs.declared.content.Content.TheVariants.{Object, Label}
use Rattle.cell_ground.specs.Steps.{step_here}
use Rattle.cell_call_rules.specs.CellExitGiven.{exit_gives, exits_taken}
use Rattle.cell_call_rules.specs.CellPassGiven.{received, calls_on, content_passed}

module _ (app : App) (readings : Readings) where
  -- 23 from an object in a register.
  abbrev pub received_on : Lists → Node → ℕ → Site → Option Step → List Conclusion
  received_on lists n x s None = []
  received_on lists n x s (Some step) = received app readings lists n x s step.act

  -- 24 from what is in one.
  abbrev pub content_on : (Key → List Row) → Node → ℕ → Content → Option Step → List Conclusion
  content_on hits n x v None = []
  content_on hits n x v (Some step) = content_passed app readings hits n x v step.act

  -- 25 and 26 where the node called the activation.
  abbrev pub called_by : (Key → List Row) → Activation → Node → List Conclusion
  called_by hits b n = exits_taken app readings hits b n returning ++ exits_taken app readings hits b n throwing

  abbrev pub cell_call_given : Lists → (Key → List Row) → Row → List Conclusion
  cell_call_given lists hits (fact.Points n x s) = received_on lists n x s (step_here app n) ++ content_on hits n x (Object s) (step_here app n)
  cell_call_given lists hits (fact.Label n x l) = content_on hits n x (Label l) (step_here app n)
  cell_call_given lists hits (fact.Calls n b) = calls_on app readings hits n b (step_here app n)
  cell_call_given lists hits (fact.CalledBy b n) = called_by hits b n
  cell_call_given lists hits (fact.ExitPoints b how s) = exit_gives app readings hits b how (Object s)
  cell_call_given lists hits (fact.ExitLabel b how l) = exit_gives app readings hits b how (Label l)
  cell_call_given lists hits _ = []

  -- 23 is led by the receiver, 24 by the call, 25 and 26 by what leaves the activation
  abbrev pub cell_call_leads : Lists → (Key → List Row) → Row → List Conclusion
  cell_call_leads lists hits (fact.Points n x s) = received_on lists n x s (step_here app n)
  cell_call_leads lists hits (fact.Calls n b) = calls_on app readings hits n b (step_here app n)
  cell_call_leads lists hits (fact.ExitPoints b how s) = exit_gives app readings hits b how (Object s)
  cell_call_leads lists hits (fact.ExitLabel b how l) = exit_gives app readings hits b how (Label l)
  cell_call_leads lists hits _ = []
