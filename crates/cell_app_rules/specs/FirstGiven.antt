-- The families of the first set of which the second keeps rules: what they give and lead of a row, and what their code needs.
use Rattle.std.specs.Prelude.{◌≡◌, ◌⊎◌, ℕ, List, ◌++◌}
use Rattle.app_machine.specs.declared.lists.Lists.{Lists}
use Rattle.app_machine.specs.declared.app.App.{App}
use Rattle.event_rules.specs.RowGiven.{EventsReady, event_given, event_leads}
use Rattle.fact_rows.specs.declared.row.Row.{Row}
use Rattle.flow_rules.specs.CallRules.{CallRule}
use Rattle.flow_rules.specs.EventRules.{EventRule}
use Rattle.flow_rules.specs.LibraryRules.{LibraryRule}
use Rattle.flow_rules.specs.LocalRules.{LocalRule}
use Rattle.call_rules.specs.CallGiven.{call_given, call_leads}
use Rattle.library_heap_rules.specs.LibraryGiven.{library_given, library_leads}
use Rattle.rule_ground.specs.declared.conclusion.Conclusion.{Conclusion}
use Rattle.rule_ground.specs.declared.key.Key.{Key}
use Rattle.step_rules.specs.StepGiven.{step_given, step_leads}
use Rattle.cell_app_rules.specs.Families.{Either}

-- all but those of effects and of handed results
abbrev pub FirstRule : App → Lists → ℕ → List Row → Row → Type 0
FirstRule app lists = Either (LocalRule app lists) (Either (CallRule app lists) (Either (LibraryRule app lists) (EventRule app lists)))

abbrev pub first_given : App → Lists → (Key → List Row) → Row → List Conclusion
first_given app lists hits row =
    step_given app lists hits row ++ (call_given app lists hits row ++ (library_given app lists hits row ++ event_given app lists hits row))

abbrev pub first_leads : App → Lists → (Key → List Row) → Row → List Conclusion
first_leads app lists hits row =
    step_leads app lists hits row ++ (call_leads app lists hits row ++ (library_leads app lists hits row ++ event_leads app lists hits row))

-- the index of events is of the app and the lists
pub record FirstReady (app : App) (lists : Lists) (indexed : App × Lists) : Type 0 where
  pub events : EventsReady app lists
  pub same_app : indexed.0 ≡ app
  pub same_lists : indexed.1 ≡ lists
