-- What the kept families of the first set list is just what they give, and rows lead all of it.
use Rattle.std.proofs.Common.{◌++◌, List}
use Rattle.app_machine.specs.declared.lists.Lists.{Lists}
use Rattle.app_machine.specs.declared.app.App.{App}
use Rattle.call_rules.specs.CallGiven.{call_given, call_leads}
use Rattle.call_rules.specs.exact.CallsExact.{calls_exact, calls_led}
use Rattle.event_rules.specs.RowGiven.{EventsReady, event_given, event_leads}
use Rattle.event_rules.specs.exact.EventsExact.{events_exact, events_led}
use Rattle.fact_rows.specs.declared.row.Row.{Row}
use Rattle.flow_rules.specs.CallRules.{CallRule}
use Rattle.flow_rules.specs.EventRules.{EventRule}
use Rattle.flow_rules.specs.LibraryRules.{LibraryRule}
use Rattle.flow_rules.specs.LocalRules.{LocalRule}
use Rattle.library_heap_rules.specs.LibraryGiven.{library_given, library_leads}
use Rattle.library_heap_rules.specs.exact.LibraryExact.{library_exact, library_led}
use Rattle.rule_ground.specs.declared.key.Key.{Key}
use Rattle.rule_ground.specs.Exact.{IsJust, IsLed}
use Rattle.rule_ground.specs.Families.{joined}
use Rattle.rule_ground.specs.Hits.{Among, IsHits}
use Rattle.step_rules.specs.StepGiven.{step_given, step_leads}
use Rattle.step_rules.specs.exact.StepsExact.{steps_exact, steps_led}
use Rattle.vet_base.specs.Members.{In}
use Rattle.cell_app_rules.specs.Families.{Either, led_joined}
use Rattle.cell_app_rules.specs.FirstGiven.{FirstRule, first_given, first_leads}

module _ (app : App) (lists : Lists) (ready : EventsReady app lists) (rows : List Row) (hits : Key → List Row)
    (law : (key : Key) → IsHits (Among rows) key (hits key)) where
  pub first_exact : (row : Row) → In row rows → IsJust (FirstRule app lists) (Among rows) row (first_given app lists hits row)
  first_exact row there =
      let has : Row → Type 0 = Among rows in
      let C = call_given app lists hits row in
      let Y = library_given app lists hits row in
      let E = event_given app lists hits row in
      joined (LocalRule app lists) (Either (CallRule app lists) (Either (LibraryRule app lists) (EventRule app lists))) has row
      (step_given app lists hits row) (C ++ (Y ++ E))
      (steps_exact app lists has hits law row there)
      (joined (CallRule app lists) (Either (LibraryRule app lists) (EventRule app lists)) has row C (Y ++ E)
      (calls_exact app lists has hits law row there)
      (joined (LibraryRule app lists) (EventRule app lists) has row Y E
      (library_exact app lists has hits law row there)
      (events_exact app lists ready.events has hits law row there)))

  pub first_led : IsLed (FirstRule app lists) (Among rows) (first_leads app lists hits)
  first_led =
      let has : Row → Type 0 = Among rows in
      led_joined (LocalRule app lists) (Either (CallRule app lists) (Either (LibraryRule app lists) (EventRule app lists))) has
      (step_leads app lists hits)
      (λ row. call_leads app lists hits row ++ (library_leads app lists hits row ++ event_leads app lists hits row))
      (steps_led app lists has hits law)
      (led_joined (CallRule app lists) (Either (LibraryRule app lists) (EventRule app lists)) has
      (call_leads app lists hits) (λ row. library_leads app lists hits row ++ event_leads app lists hits row)
      (calls_led app lists has hits law)
      (led_joined (LibraryRule app lists) (EventRule app lists) has
      (library_leads app lists hits) (event_leads app lists hits)
      (library_led app lists has hits law)
      (events_led app lists ready.events has hits law)))
