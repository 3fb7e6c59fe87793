-- What the code lists is just what the rules give, and rows lead all that they give.
use Rattle.std.proofs.Common.{List}
use Rattle.app_machine.specs.declared.lists.Lists.{Lists}
use Rattle.app_machine.specs.declared.app.App.{App}
use Rattle.fact_rows.specs.declared.row.Row.{Row}
use Rattle.flow_rules.specs.Rules.{Follows}
use Rattle.rule_ground.specs.declared.key.Key.{Key}
use Rattle.rule_ground.specs.Exact.{IsJust, IsLed}
use Rattle.rule_ground.specs.Families.{all_families}
use Rattle.rule_ground.specs.Hits.{Among, IsHits}
use Rattle.rule_ground.specs.Leading.{all_led}
use Rattle.step_rules.specs.StepGiven.{step_given, step_leads}
use Rattle.step_rules.specs.exact.StepsExact.{steps_exact, steps_led}
use Rattle.effect_rules.specs.EffectGiven.{effect_given, effect_leads}
use Rattle.effect_rules.specs.exact.EffectsExact.{effects_exact, effects_led}
use Rattle.call_rules.specs.CallGiven.{call_given, call_leads}
use Rattle.call_rules.specs.exact.CallsExact.{calls_exact, calls_led}
use Rattle.library_heap_rules.specs.LibraryGiven.{library_given, library_leads}
use Rattle.library_heap_rules.specs.exact.LibraryExact.{library_exact, library_led}
use Rattle.event_rules.specs.RowGiven.{EventsReady, event_given, event_leads}
use Rattle.event_rules.specs.exact.EventsExact.{events_exact, events_led}
use Rattle.app_index.specs.Handed.{handed_rows}
use Rattle.handed_rules.specs.HandedGiven.{handed_given, handed_leads}
use Rattle.handed_rules.specs.exact.HandedExact.{handed_exact, handed_led}
use Rattle.vet_base.specs.Members.{In}
use Rattle.app_rules.specs.AllGiven.{all_given, all_leads}

pub all_exact : (app : App) (lists : Lists) → EventsReady app lists → (rows : List Row) (hits : Key → List Row) →
    ((key : Key) → IsHits (Among rows) key (hits key)) → (row : Row) → In row rows →
    IsJust (Follows app lists) (Among rows) row (all_given app lists hits row)
all_exact app lists ready rows hits law row there =
    all_families app lists (Among rows) row
    (step_given app lists hits row)
    (effect_given app hits row)
    (call_given app lists hits row)
    (library_given app lists hits row)
    (event_given app lists hits row)
    (handed_given app lists (handed_rows lists) hits row)
    (steps_exact app lists (Among rows) hits law row there)
    (effects_exact app (Among rows) hits law row there)
    (calls_exact app lists (Among rows) hits law row there)
    (library_exact app lists (Among rows) hits law row there)
    (events_exact app lists ready.events (Among rows) hits law row there)
    (handed_exact app lists ready.events (Among rows) hits law row there)

pub rows_lead_all : (app : App) (lists : Lists) → EventsReady app lists → (rows : List Row) (hits : Key → List Row) →
    ((key : Key) → IsHits (Among rows) key (hits key)) → IsLed (Follows app lists) (Among rows) (all_leads app lists hits)
rows_lead_all app lists ready rows hits law =
    all_led app lists (Among rows)
    (step_leads app lists hits)
    (effect_leads app hits)
    (call_leads app lists hits)
    (library_leads app lists hits)
    (event_leads app lists hits)
    (handed_leads app lists hits)
    (steps_led app lists (Among rows) hits law)
    (effects_led app (Among rows) hits law)
    (calls_led app lists (Among rows) hits law)
    (library_led app lists (Among rows) hits law)
    (events_led app lists ready.events (Among rows) hits law)
    (handed_led app lists ready.events (Among rows) hits law)
