-- What follows from rows in the app by the second rules is in the app.
use Rattle.app_machine.specs.declared.lists.Lists.{Lists}
use Rattle.app_machine.specs.declared.app.App.{App}
use Rattle.app_machine.specs.Sound.{SoundApp}
use Rattle.app_machine.specs.SoundLists.{SoundLists}
use Rattle.flow_rules.specs.Rules.{Starts}
use Rattle.cell_rules.specs.InApp.{CellInApp}
use Rattle.cell_rules.specs.Rules.{Follows, by_kept, by_local, by_heap, by_call, by_library, by_event, by_handed, Closed}
use Rattle.rule_sets.proofs.Deriving.{has_derivable}
use Rattle.cell_proof.specs.Staying.{CellRulesStayInApp}
use Rattle.cell_proof.proofs.StayingKept.{kept_in}
use Rattle.cell_proof.proofs.StayingSteps.{step_in, heap_in, call_in, library_in, handed_in}
use Rattle.cell_proof.proofs.StayingEvents.{event_in, start_cells}

module _ (app : App) (lists : Lists) (sound : SoundApp app) (listed : SoundLists lists) where
  closed_in : Closed app lists (CellInApp app lists)
  closed_in rule premises row (by_kept r) h = kept_in app lists sound listed r h
  closed_in rule premises row (by_local r) h = step_in app lists sound listed r h
  closed_in rule premises row (by_heap r) h = heap_in app lists sound listed r h
  closed_in rule premises row (by_call r) h = call_in app lists sound listed r h
  closed_in rule premises row (by_library r) h = library_in app lists sound listed r h
  closed_in rule premises row (by_event r) h = event_in app lists sound listed r h
  closed_in rule premises row (by_handed r) h = handed_in app lists sound listed r h

pub cell_rules_stay_in_app : CellRulesStayInApp
cell_rules_stay_in_app app lists sound listed = record {
  starts = start_cells app lists;
  closed = closed_in app lists sound listed;
  derivable = has_derivable (Follows app lists) (Starts app) (CellInApp app lists) (start_cells app lists) (closed_in app lists sound listed);
}
