-- What the code lists is just what the second set's rules give, and rows lead all that they give.
use Rattle.std.proofs.Common.{◌⊎◌, ◌++◌, ℕ, List, filter, inl, inr}
use Rattle.app_index.specs.Handed.{handed_rows}
use Rattle.app_machine.specs.declared.lists.Lists.{Lists}
use Rattle.app_machine.specs.declared.app.App.{App}
use Rattle.cell_call_rules.specs.CellCallGiven.{cell_call_given, cell_call_leads}
use Rattle.cell_call_rules.specs.exact.CellCallsExact.{cell_calls_exact, cell_calls_led}
use Rattle.cell_event_rules.specs.CellRowGiven.{cell_event_given, cell_event_leads}
use Rattle.cell_event_rules.specs.exact.CellEventsExact.{cell_events_exact, cell_events_led}
use Rattle.cell_ground.specs.Ready.{Ready}
use Rattle.cell_handed_rules.specs.CellHandedGiven.{cell_handed_given, cell_handed_leads}
use Rattle.cell_handed_rules.specs.exact.CellHandedExact.{cell_handed_exact, cell_handed_led}
use Rattle.cell_library_rules.specs.CellLibraryGiven.{cell_library_given, cell_library_leads}
use Rattle.cell_library_rules.specs.exact.CellLibraryExact.{cell_library_exact, cell_library_led}
use Rattle.cell_rules.specs.CallRules.{CallRule}
use Rattle.cell_rules.specs.EventRules.{EventRule}
use Rattle.cell_rules.specs.HandedRules.{HandedRule}
use Rattle.cell_rules.specs.KeptRules.{KeptRule, IsKept, kept}
use Rattle.cell_rules.specs.LibraryRules.{LibraryRule}
use Rattle.cell_rules.specs.Rules.{Follows, by_kept, by_local, by_heap, by_call, by_library, by_event, by_handed}
use Rattle.cell_step_rules.specs.CellStepGiven.{StepRule, cell_step_given, cell_step_leads}
use Rattle.cell_step_rules.specs.exact.CellStepsExact.{cell_steps_exact, cell_steps_led}
use Rattle.event_rules.specs.RowGiven.{EventsReady}
use Rattle.fact_rows.specs.declared.row.Row.{Row}
use Rattle.flow_rules.specs.EffectRules as effects
use Rattle.flow_rules.specs.HandedRules as handed
use Rattle.flow_rules.specs.Rules as first
use Rattle.kept_rules.specs.Kept.{KeptBy, is_kept}
use Rattle.kept_rules.specs.exact.KeptExact.{kept_exact, kept_led}
use Rattle.register_readers.specs.Readings.{Readings}
use Rattle.rule_ground.specs.declared.conclusion.Conclusion.{Conclusion}
use Rattle.rule_ground.specs.declared.key.Key.{Key}
use Rattle.rule_ground.specs.Exact.{IsJust, IsLed}
use Rattle.rule_ground.specs.Families.{joined, renamed}
use Rattle.rule_ground.specs.Hits.{Among, IsHits}
use Rattle.vet_base.specs.Members.{In}
use Rattle.cell_app_rules.specs.CellAllGiven.{cell_all_given, cell_all_leads}
use Rattle.cell_app_rules.specs.Families.{Either, led_joined, led_renamed}
use Rattle.cell_app_rules.specs.FirstGiven.{FirstRule, first_given, first_leads}
use Rattle.cell_app_rules.specs.exact.FirstExact.{first_exact, first_led}

-- nothing is kept of the rules of effects and of handed results
no_effect : (app : App) (rule : ℕ) (premises : List Row) (x : Row) → effects.EffectRule app rule premises x → IsKept x → ⊥
no_effect app rule premises x effects.lift_effect is = is
no_effect app rule premises x (effects.effect_next goes) is = is
no_effect app rule premises x (effects.effect_caught caught) is = is
no_effect app rule premises x effects.method_effect is = is
no_effect app rule premises x effects.caller_effect is = is
no_effect app rule premises x effects.effect_static is = is
no_effect app rule premises x effects.effect_handed is = is
no_effect app rule premises x (effects.effect_own at there) is = is
no_effect app rule premises x (effects.effect_other beside there) is = is

no_handed : (app : App) (lists : Lists) (rule : ℕ) (premises : List Row) (x : Row) → handed.HandedRule app lists rule premises x → IsKept x → ⊥
no_handed app lists rule premises x (handed.handed_points may goes) is = is
no_handed app lists rule premises x (handed.handed_taint may goes) is = is
no_handed app lists rule premises x (handed.live_points may there goes) is = is
no_handed app lists rule premises x (handed.live_taint may there goes) is = is

module _ (app : App) (lists : Lists) where
  abbrev Kept : ℕ → List Row → Row → Type 0
  Kept = KeptBy (FirstRule app lists)

  abbrev Last : ℕ → List Row → Row → Type 0
  Last = Either (EventRule app lists) (HandedRule app lists)

  abbrev Behind : ℕ → List Row → Row → Type 0
  Behind = Either (CallRule app lists) (Either (LibraryRule app lists) Last)

  abbrev All : ℕ → List Row → Row → Type 0
  All = Either Kept (Either (StepRule app lists) Behind)

  from_first : (rule : ℕ) (premises : List Row) (x : Row) → FirstRule app lists rule premises x → first.Follows app lists rule premises x
  from_first rule premises x (inl local) = first.by_local local
  from_first rule premises x (inr (inl call)) = first.by_call call
  from_first rule premises x (inr (inr (inl library))) = first.by_library library
  from_first rule premises x (inr (inr (inr event))) = first.by_event event

  to_first : (rule : ℕ) (premises : List Row) (x : Row) → first.Follows app lists rule premises x → IsKept x → FirstRule app lists rule premises x
  to_first rule premises x (first.by_local h) is = inl h
  to_first rule premises x (first.by_effect h) is = absurd (no_effect app rule premises x h is)
  to_first rule premises x (first.by_call h) is = inr (inl h)
  to_first rule premises x (first.by_library h) is = inr (inr (inl h))
  to_first rule premises x (first.by_event h) is = inr (inr (inr h))
  to_first rule premises x (first.by_handed h) is = absurd (no_handed app lists rule premises x h is)

  to_all : (rule : ℕ) (premises : List Row) (x : Row) → Follows app lists rule premises x → All rule premises x
  to_all rule premises x (by_kept (kept by is other)) = inl (record { by = to_first rule premises x by is; is = is; other = other })
  to_all rule premises x (by_local h) = inr (inl (inl h))
  to_all rule premises x (by_heap h) = inr (inl (inr h))
  to_all rule premises x (by_call h) = inr (inr (inl h))
  to_all rule premises x (by_library h) = inr (inr (inr (inl h)))
  to_all rule premises x (by_event h) = inr (inr (inr (inr (inl h))))
  to_all rule premises x (by_handed h) = inr (inr (inr (inr (inr h))))

  from_all : (rule : ℕ) (premises : List Row) (x : Row) → All rule premises x → Follows app lists rule premises x
  from_all rule premises x (inl k) = by_kept (kept (from_first rule premises x k.by) k.is k.other)
  from_all rule premises x (inr (inl (inl h))) = by_local h
  from_all rule premises x (inr (inl (inr h))) = by_heap h
  from_all rule premises x (inr (inr (inl h))) = by_call h
  from_all rule premises x (inr (inr (inr (inl h)))) = by_library h
  from_all rule premises x (inr (inr (inr (inr (inl h))))) = by_event h
  from_all rule premises x (inr (inr (inr (inr (inr h))))) = by_handed h

module _ (app : App) (readings : Readings) (lists : Lists) (events : EventsReady app lists) (ready : Ready app readings)
    (rows : List Row) (hits : Key → List Row) (law : (key : Key) → IsHits (Among rows) key (hits key)) where
  pub cell_all_exact : (row : Row) → In row rows → IsJust (Follows app lists) (Among rows) row (cell_all_given app readings lists hits row)
  cell_all_exact row there =
      let has : Row → Type 0 = Among rows in
      let F = filter is_kept (first_given app lists hits row) in
      let P = cell_step_given app readings lists hits row in
      let C = cell_call_given app readings lists hits row in
      let Y = cell_library_given app readings lists hits row in
      let E = cell_event_given app readings lists hits row in
      let H = cell_handed_given app readings lists (handed_rows lists) hits row in
      renamed (All app lists) (Follows app lists) has row (F ++ (P ++ (C ++ (Y ++ (E ++ H))))) (from_all app lists) (to_all app lists)
      (joined (Kept app lists) (Either (StepRule app lists) (Behind app lists)) has row F (P ++ (C ++ (Y ++ (E ++ H))))
      (kept_exact (FirstRule app lists) has row (first_given app lists hits row) (first_exact app lists events rows hits law row there))
      (joined (StepRule app lists) (Behind app lists) has row P (C ++ (Y ++ (E ++ H)))
      (cell_steps_exact app readings lists ready has hits law row there)
      (joined (CallRule app lists) (Either (LibraryRule app lists) (Last app lists)) has row C (Y ++ (E ++ H))
      (cell_calls_exact app readings lists ready has hits law row there)
      (joined (LibraryRule app lists) (Last app lists) has row Y (E ++ H)
      (cell_library_exact app readings lists (record { sound_app = events.sound_app; sound_lists = events.sound_lists; ready = ready }) has hits law row there)
      (joined (EventRule app lists) (HandedRule app lists) has row E H
      (cell_events_exact app readings lists (record { events = events; ready = ready }) has hits law row there)
      (cell_handed_exact app readings lists ready events.events has hits law row there))))))

  pub cells_lead_all : IsLed (Follows app lists) (Among rows) (cell_all_leads app readings lists hits)
  cells_lead_all =
      let has : Row → Type 0 = Among rows in
      let F : Row → List Conclusion = λ row. filter is_kept (first_leads app lists hits row) in
      let P = cell_step_leads app readings lists hits in
      let C = cell_call_leads app readings lists hits in
      let Y = cell_library_leads app readings lists hits in
      let E = cell_event_leads app readings lists hits in
      let H = cell_handed_leads app readings lists hits in
      led_renamed (All app lists) (Follows app lists) has (λ row. F row ++ (P row ++ (C row ++ (Y row ++ (E row ++ H row)))))
      (from_all app lists) (to_all app lists)
      (led_joined (Kept app lists) (Either (StepRule app lists) (Behind app lists)) has F (λ row. P row ++ (C row ++ (Y row ++ (E row ++ H row))))
      (kept_led (FirstRule app lists) has (first_leads app lists hits) (first_led app lists events rows hits law))
      (led_joined (StepRule app lists) (Behind app lists) has P (λ row. C row ++ (Y row ++ (E row ++ H row)))
      (cell_steps_led app readings lists ready has hits law)
      (led_joined (CallRule app lists) (Either (LibraryRule app lists) (Last app lists)) has C (λ row. Y row ++ (E row ++ H row))
      (cell_calls_led app readings lists ready has hits law)
      (led_joined (LibraryRule app lists) (Last app lists) has Y (λ row. E row ++ H row)
      (cell_library_led app readings lists (record { sound_app = events.sound_app; sound_lists = events.sound_lists; ready = ready }) has hits law)
      (led_joined (EventRule app lists) (HandedRule app lists) has E H
      (cell_events_led app readings lists (record { events = events; ready = ready }) has hits law)
      (cell_handed_led app readings lists ready events.events has hits law))))))
