-- What each row gives by the rules of events of the second set, and what the code needs of app, lists and readings.
use Rattle.std.specs.Prelude.{List, [], ◌++◌, cond}
use Rattle.app_machine.specs.declared.lists.Lists.{Lists}
use Rattle.app_machine.specs.declared.app.App.{App}
use Rattle.fact_rows.specs.declared.context.Node.{Node}
use Rattle.fact_rows.specs.declared.row.Row.{Row}
use Rattle.fact_rows.specs.declared.row.Row.TheVariants.{Reached, Live, Handed}
use Rattle.rule_ground.specs.declared.conclusion.Conclusion.{Conclusion}
use Rattle.rule_ground.specs.declared.key.Key.{Key}
use Rattle.rule_ground.specs.declared.key.Key.TheVariants.{EventEntries}
use Rattle.rule_ground.specs.Asking.{asks}
use Rattle.event_rules.specs.RowGiven.{EventsReady}
use Rattle.register_readers.specs.Readings.{Readings}
use Rattle.cell_ground.specs.Ready.{Ready}
use Rattle.cell_event_rules.specs.CellEventGiven.{live_gives, handed_on}
use Rattle.cell_event_rules.specs.CellGivenBack.{entry_gives, handed_back}

module _ (app : App) (readings : Readings) (lists : Lists) (hits : Key → List Row) where
  abbrev pub reached_gives : Node → List Conclusion
  reached_gives n = cond (asks EventEntries (Reached n)) (entry_gives app readings lists hits n.by) []

  abbrev pub cell_event_given : Row → List Conclusion
  cell_event_given (Live c state) = live_gives app readings lists c state
  cell_event_given (Handed s) = handed_on app readings lists s ++ handed_back app readings lists hits s
  cell_event_given (Reached n) = reached_gives n
  cell_event_given _ = []

  -- 40 and 42 are led by the component, 43 by the handed object, 45 by the event that is reached
  abbrev pub cell_event_leads : Row → List Conclusion
  cell_event_leads (Live c state) = live_gives app readings lists c state
  cell_event_leads (Handed s) = handed_on app readings lists s
  cell_event_leads (Reached n) = reached_gives n
  cell_event_leads _ = []

-- app and lists are sound, their events by number are those of the machine, and the readings are those of the app
pub record CellEventsReady (app : App) (readings : Readings) (lists : Lists) : Type 0 where
  pub events : EventsReady app lists
  pub ready : Ready app readings
