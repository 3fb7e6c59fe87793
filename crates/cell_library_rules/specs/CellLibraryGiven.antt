-- What a row gives by the rules of library calls of the second set, as a list of conclusions.
use Rattle.std.specs.Prelude.{◌==◌, List, [], ◌++◌, Option, Some, None, cond, flat_map}
use Rattle.app_machine.specs.declared.lists.Lists.{Lists}
use Rattle.app_machine.specs.declared.app.App.{App}
use Rattle.fact_rows.specs.declared.site.Site.{Site}
use Rattle.fact_rows.specs.declared.row.Row.{Row}
use Rattle.fact_rows.specs.declared.row.Row.TheVariants.{Points, Label, Cell, CellLabel, Holds, Uses}
use Rattle.rule_ground.specs.declared.conclusion.Conclusion.{Conclusion}
use Rattle.rule_ground.specs.declared.key.Key.{Key}
use Rattle.rule_ground.specs.declared.key.Key.TheVariants.{PointsTo, UsesAt}
use Rattle.library_ground.specs.declared.pins.Pins.{Pins}
use Rattle.library_ground.specs.CallRow.{CallRow, call_row}
use Rattle.library_heap_rules.specs.LibraryGiven.{no_pins, value_pin, object_pin, cell_pin}
use Rattle.register_readers.specs.Readings.{Readings}
use Rattle.cell_library_value_rules.specs.CellValueGiven.{value_gives}
use Rattle.cell_library_rules.specs.CellHeapGiven.{heap_gives}

module _ (app : App) (readings : Readings) where
  -- what a call gives, with the premises that are known beside the use, and so of a use where it stands at a call
  abbrev pub call_gives : (Key → List Row) → Pins → CallRow → List Conclusion
  call_gives hits pins c = value_gives app readings hits pins c ++ heap_gives hits pins c

  abbrev pub used_gives : (Key → List Row) → Pins → Option CallRow → List Conclusion
  used_gives hits pins None = []
  used_gives hits pins (Some c) = call_gives hits pins c

module _ (app : App) (readings : Readings) (lists : Lists) where
  abbrev pub user_gives : (Key → List Row) → Pins → Row → List Conclusion
  user_gives hits pins (Uses n u) = used_gives app readings hits pins (call_row app lists n u)
  user_gives hits pins _ = []

  -- what a use gives with an object, which is a value or takes one in
  abbrev pub holder_gives : (Key → List Row) → Row → Row → List Conclusion
  holder_gives hits object row = user_gives hits (value_pin object) row ++ user_gives hits (object_pin object) row

  -- what a register that holds an object gives with what is said of the object
  abbrev pub pointer_gives : (Key → List Row) → Row → Row → List Conclusion
  pointer_gives hits said (Points n x s) = flat_map (user_gives hits (cell_pin (Points n x s) said)) (hits (UsesAt n))
  pointer_gives hits said _ = []

  abbrev pub said_gives : (Key → List Row) → Site → Row → List Conclusion
  said_gives hits s said = flat_map (pointer_gives hits said) (hits (PointsTo s))

  abbrev pub cell_library_given : (Key → List Row) → Row → List Conclusion
  cell_library_given hits (Uses n u) = used_gives app readings hits no_pins (call_row app lists n u)
  cell_library_given hits (Points n x s) = flat_map (holder_gives hits (Points n x s)) (hits (UsesAt n))
  cell_library_given hits (Label n x l) = flat_map (user_gives hits (value_pin (Label n x l))) (hits (UsesAt n))
  cell_library_given hits (Cell s k t) = cond (k.0 == 0) (said_gives hits s (Cell s k t)) []
  cell_library_given hits (CellLabel s k l) = cond (k.0 == 0) (said_gives hits s (CellLabel s k l)) []
  cell_library_given hits (Holds s l) = said_gives hits s (Holds s l)
  cell_library_given hits _ = []

  -- each rule has a use among its premises, and is led by it
  abbrev pub cell_library_leads : (Key → List Row) → Row → List Conclusion
  cell_library_leads hits (Uses n u) = cell_library_given hits (Uses n u)
  cell_library_leads hits _ = []
