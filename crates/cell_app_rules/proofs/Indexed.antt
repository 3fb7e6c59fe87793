-- What the index of events says of its app and lists it says of those of the rules.
use Rattle.std.proofs.Common.{◌≡◌, ◌↔◌, ℕ, Bool, IsTrue, List, sym, ap, subst, ◌∙◌}
use Rattle.app_machine.specs.declared.lists.Lists.{Lists}
use Rattle.app_machine.specs.declared.app.App.{App}
use Rattle.app_machine.specs.Sound.{SoundApp}
use Rattle.app_index.specs.Handed.{handed_rows}
use Rattle.cell_event_rules.specs.CellRowGiven.{CellEventsReady, cell_event_given, cell_event_leads}
use Rattle.cell_ground.specs.Ready.{Ready}
use Rattle.cell_handed_rules.specs.CellHandedGiven.{cell_handed_given, cell_handed_leads}
use Rattle.cell_handed_rules.specs.exact.CellHandedExact.{CellHandedReady}
use Rattle.cell_library_rules.specs.exact.CellLibraryExact.{CellLibraryReady}
use Rattle.cell_rules.specs.InApp.{CellInApp}
use Rattle.event_rules.specs.RowGiven.{EventsReady, event_given, event_leads}
use Rattle.fact_rows.specs.declared.row.Row.{Row}
use Rattle.register_readers.specs.Readings.{Readings}
use Rattle.rule_ground.specs.declared.key.Key.{Key}
use Rattle.cell_app_rules.specs.CellReady.{CellRulesReady}
use Rattle.cell_app_rules.specs.FirstGiven.{FirstReady}

-- what is said of one app and lists is said of the same
moved : (P : App → Lists → Type 0) (app same_app : App) (lists same_lists : Lists) → same_app ≡ app → same_lists ≡ lists → P app lists → P same_app same_lists
moved P app same_app lists same_lists is_app is_lists h =
    subst (λ a. P a same_lists) (sym is_app) (subst (P app) (sym is_lists) h)

module _ (app : App) (lists : Lists) (indexed : App × Lists) (ready : FirstReady app lists indexed) where
  pub first_events_ready : EventsReady indexed.0 indexed.1
  first_events_ready = moved EventsReady app indexed.0 lists indexed.1 ready.same_app ready.same_lists ready.events

  pub first_given_by : (hits : Key → List Row) (row : Row) → event_given indexed.0 indexed.1 hits row ≡ event_given app lists hits row
  first_given_by hits row = ap (λ a. event_given a indexed.1 hits row) ready.same_app ∙ ap (λ l. event_given app l hits row) ready.same_lists

  pub first_leads_by : (hits : Key → List Row) (row : Row) → event_leads indexed.0 indexed.1 hits row ≡ event_leads app lists hits row
  first_leads_by hits row = ap (λ a. event_leads a indexed.1 hits row) ready.same_app ∙ ap (λ l. event_leads app l hits row) ready.same_lists

module _ (app : App) (readings : Readings) (lists : Lists) (indexed : App × Lists) (starts : List Row)
    (ready : CellRulesReady app readings lists indexed starts) where
  pub first_ready : FirstReady app lists indexed
  first_ready = record { events = ready.events; same_app = ready.same_app; same_lists = ready.same_lists }

  pub sound_index : SoundApp indexed.0
  sound_index = subst SoundApp (sym ready.same_app) ready.events.sound_app

  pub cell_events_ready : CellEventsReady indexed.0 readings indexed.1
  cell_events_ready =
      moved (λ a l. CellEventsReady a readings l) app indexed.0 lists indexed.1 ready.same_app ready.same_lists
      (record { events = ready.events; ready = ready.readers })

  pub cell_library_ready : CellLibraryReady app readings lists
  cell_library_ready = record { sound_app = ready.events.sound_app; sound_lists = ready.events.sound_lists; ready = ready.readers }

  pub same_given : (hits : Key → List Row) (row : Row) →
      cell_event_given indexed.0 readings indexed.1 hits row ≡ cell_event_given app readings lists hits row
  same_given hits row =
      ap (λ a. cell_event_given a readings indexed.1 hits row) ready.same_app ∙ ap (λ l. cell_event_given app readings l hits row) ready.same_lists

  pub same_leads : (hits : Key → List Row) (row : Row) →
      cell_event_leads indexed.0 readings indexed.1 hits row ≡ cell_event_leads app readings lists hits row
  same_leads hits row =
      ap (λ a. cell_event_leads a readings indexed.1 hits row) ready.same_app ∙ ap (λ l. cell_event_leads app readings l hits row) ready.same_lists

  -- and the rows of the index of the lists are those of its lists
  pub handed_ready : (rows : List ℕ) → rows ≡ handed_rows lists → CellHandedReady indexed.0 readings indexed.1 rows
  handed_ready rows same =
      moved (λ a l. CellHandedReady a readings l rows) app indexed.0 lists indexed.1 ready.same_app ready.same_lists (record {
        sound_app = ready.events.sound_app;
        sound_lists = ready.events.sound_lists;
        ready = ready.readers;
        events = ready.events.events;
        same_rows = same;
      })

  pub same_handed : (rows : List ℕ) → rows ≡ handed_rows lists → (hits : Key → List Row) (row : Row) →
      cell_handed_given indexed.0 readings indexed.1 rows hits row ≡ cell_handed_given app readings lists (handed_rows lists) hits row
  same_handed rows same hits row =
      ap (λ a. cell_handed_given a readings indexed.1 rows hits row) ready.same_app
      ∙ ap (λ l. cell_handed_given app readings l rows hits row) ready.same_lists
      ∙ ap (λ r. cell_handed_given app readings lists r hits row) same

  pub same_handed_leads : (hits : Key → List Row) (row : Row) →
      cell_handed_leads indexed.0 readings indexed.1 hits row ≡ cell_handed_leads app readings lists hits row
  same_handed_leads hits row =
      ap (λ a. cell_handed_leads a readings indexed.1 hits row) ready.same_app ∙ ap (λ l. cell_handed_leads app readings l hits row) ready.same_lists

  pub same_in_app : (row : Row) (answer : Bool) → IsTrue answer ↔ CellInApp indexed.0 indexed.1 row → IsTrue answer ↔ CellInApp app lists row
  same_in_app row answer is =
      subst (λ l. IsTrue answer ↔ CellInApp app l row) ready.same_lists (subst (λ a. IsTrue answer ↔ CellInApp a indexed.1 row) ready.same_app is)
