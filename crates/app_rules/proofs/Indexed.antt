-- What the index of events says of its app and lists it says of those of the rules.
use Rattle.std.proofs.Common.{◌≡◌, ◌↔◌, ℕ, Bool, IsTrue, List, sym, ap, subst, ◌∙◌}
use Rattle.app_machine.specs.declared.lists.Lists.{Lists}
use Rattle.app_machine.specs.declared.app.App.{App}
use Rattle.app_machine.specs.Sound.{SoundApp}
use Rattle.app_index.specs.Handed.{handed_rows}
use Rattle.event_rules.specs.RowGiven.{EventsReady, event_given, event_leads}
use Rattle.handed_rules.specs.exact.HandedExact.{HandedReady}
use Rattle.handed_rules.specs.HandedGiven.{handed_given, handed_leads}
use Rattle.fact_rows.specs.declared.row.Row.{Row}
use Rattle.fact_rows.specs.InApp.{InApp}
use Rattle.rule_ground.specs.declared.key.Key.{Key}
use Rattle.app_rules.specs.Ready.{RulesReady}

module _ (app : App) (lists : Lists) (indexed : App × Lists) (starts : List Row) (ready : RulesReady app lists indexed starts) where
  pub events_ready : EventsReady indexed.0 indexed.1
  events_ready = subst (λ a. EventsReady a indexed.1) (sym ready.same_app) (subst (EventsReady app) (sym ready.same_lists) ready.events)

  pub sound_index : SoundApp indexed.0
  sound_index = events_ready.sound_app

  pub same_given : (hits : Key → List Row) (row : Row) → event_given indexed.0 indexed.1 hits row ≡ event_given app lists hits row
  same_given hits row = ap (λ a. event_given a indexed.1 hits row) ready.same_app ∙ ap (λ l. event_given app l hits row) ready.same_lists

  pub same_leads : (hits : Key → List Row) (row : Row) → event_leads indexed.0 indexed.1 hits row ≡ event_leads app lists hits row
  same_leads hits row = ap (λ a. event_leads a indexed.1 hits row) ready.same_app ∙ ap (λ l. event_leads app l hits row) ready.same_lists

  -- and the rows of the index of the lists are those of its lists
  pub handed_ready : (rows : List ℕ) → rows ≡ handed_rows lists → HandedReady indexed.0 indexed.1 rows
  handed_ready rows same = record {
    sound_app = events_ready.sound_app;
    sound_lists = events_ready.sound_lists;
    events = events_ready.events;
    same_rows = same ∙ ap handed_rows (sym ready.same_lists);
  }

  pub same_handed : (rows : List ℕ) → rows ≡ handed_rows lists → (hits : Key → List Row) (row : Row) →
      handed_given indexed.0 indexed.1 rows hits row ≡ handed_given app lists (handed_rows lists) hits row
  same_handed rows same hits row =
      ap (λ a. handed_given a indexed.1 rows hits row) ready.same_app
      ∙ ap (λ l. handed_given app l rows hits row) ready.same_lists
      ∙ ap (λ r. handed_given app lists r hits row) same

  pub same_handed_leads : (hits : Key → List Row) (row : Row) → handed_leads indexed.0 indexed.1 hits row ≡ handed_leads app lists hits row
  same_handed_leads hits row = ap (λ a. handed_leads a indexed.1 hits row) ready.same_app ∙ ap (λ l. handed_leads app l hits row) ready.same_lists

  pub same_in_app : (row : Row) (answer : Bool) → IsTrue answer ↔ InApp indexed.0 indexed.1 row → IsTrue answer ↔ InApp app lists row
  same_in_app row answer is =
      subst (λ l. IsTrue answer ↔ InApp app l row) ready.same_lists (subst (λ a. IsTrue answer ↔ InApp a indexed.1 row) ready.same_app is)
