-- What the rules in code need of app, lists, the app and lists of the index of events, where registers are read, and start rows.
use Rattle.std.proofs.Common.{◌≡◌, ◌↔◌, List, sym, subst}
use Rattle.app_machine.specs.declared.lists.Lists.{Lists}
use Rattle.app_machine.specs.declared.app.App.{App}
use Rattle.app_rows.specs.StartLaws.{StartsAreExact}
use Rattle.app_rows.specs.StartRows.{start_rows}
use Rattle.cell_ground.specs.Ready.{Ready}
use Rattle.event_rules.specs.RowGiven.{EventsReady}
use Rattle.fact_rows.specs.declared.row.Row.{Row}
use Rattle.flow_rules.specs.Rules.{Starts}
use Rattle.register_readers.specs.Readings.{Readings}
use Rattle.vet_base.specs.Members.{In}

pub record CellRulesReady (app : App) (readings : Readings) (lists : Lists) (indexed : App × Lists) (starts : List Row) : Type 0 where
  pub events : EventsReady app lists
  pub readers : Ready app readings
  pub same_app : indexed.0 ≡ app
  pub same_lists : indexed.1 ≡ lists
  pub same_starts : starts ≡ start_rows app
  pub exact : StartsAreExact app

pub just_starts_of : {app : App} {readings : Readings} {lists : Lists} {indexed : App × Lists} {starts : List Row} →
    CellRulesReady app readings lists indexed starts → (row : Row) → Starts app row ↔ In row starts
just_starts_of ready row = (
  λ start. subst (In row) (sym ready.same_starts) ((ready.exact.exact row).1 start),
  λ there. (ready.exact.exact row).0 (subst (In row) ready.same_starts there),
)
