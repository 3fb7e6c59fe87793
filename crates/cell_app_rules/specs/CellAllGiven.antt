-- What a row gives and what it leads by all rules of the second set.
use Rattle.std.specs.Prelude.{List, ◌++◌, filter}
use Rattle.app_index.specs.Handed.{handed_rows}
use Rattle.app_machine.specs.declared.lists.Lists.{Lists}
use Rattle.app_machine.specs.declared.app.App.{App}
use Rattle.cell_call_rules.specs.CellCallGiven.{cell_call_given, cell_call_leads}
use Rattle.cell_event_rules.specs.CellRowGiven.{cell_event_given, cell_event_leads}
use Rattle.cell_handed_rules.specs.CellHandedGiven.{cell_handed_given, cell_handed_leads}
use Rattle.cell_library_rules.specs.CellLibraryGiven.{cell_library_given, cell_library_leads}
use Rattle.cell_step_rules.specs.CellStepGiven.{cell_step_given, cell_step_leads}
use Rattle.fact_rows.specs.declared.row.Row.{Row}
use Rattle.kept_rules.specs.Kept.{is_kept}
use Rattle.register_readers.specs.Readings.{Readings}
use Rattle.rule_ground.specs.declared.conclusion.Conclusion.{Conclusion}
use Rattle.rule_ground.specs.declared.key.Key.{Key}
use Rattle.cell_app_rules.specs.FirstGiven.{first_given, first_leads}

module _ (app : App) (readings : Readings) (lists : Lists) (hits : Key → List Row) (row : Row) where
  -- what is kept of the first set, and what each family of the second gives
  abbrev pub cell_all_given : List Conclusion
  cell_all_given =
      filter is_kept (first_given app lists hits row)
      ++ (cell_step_given app readings lists hits row
      ++ (cell_call_given app readings lists hits row
      ++ (cell_library_given app readings lists hits row
      ++ (cell_event_given app readings lists hits row ++ cell_handed_given app readings lists (handed_rows lists) hits row))))

  abbrev pub cell_all_leads : List Conclusion
  cell_all_leads =
      filter is_kept (first_leads app lists hits row)
      ++ (cell_step_leads app readings lists hits row
      ++ (cell_call_leads app readings lists hits row
      ++ (cell_library_leads app readings lists hits row
      ++ (cell_event_leads app readings lists hits row ++ cell_handed_leads app readings lists hits row))))
