-- What follows where the callbacks come that come to objects of a class: on handed objects, or on a component.
use Rattle.std.specs.Prelude.{ℕ, List, [], Option, Some, None, length, slice_get}
use Rattle.app_machine.specs.declared.lists.Callback.{Callback}
use Rattle.app_machine.specs.declared.lists.Lists.{Lists}
use Rattle.app_machine.specs.declared.app.App.{App}
use Rattle.app_machine.specs.Names.{Name}
use Rattle.app_model.specs.EventBodies.{handed_callback}
use Rattle.event_index.specs.declared.comings.Coming.{Coming}
use Rattle.fact_rows.specs.declared.context.Ctx.{Ctx}
use Rattle.fact_rows.specs.declared.context.Ctx.TheVariants as ctx
use Rattle.rule_ground.specs.declared.conclusion.Conclusion.{Conclusion}
use Rattle.rule_ground.specs.Below.{for_below}
use Rattle.event_rules.specs.declared.arrival.Arrival.{Arrival}
use Rattle.event_rules.specs.declared.arrival.On.{On}
use Rattle.event_rules.specs.declared.arrival.On.TheVariants as on
use Rattle.event_rules.specs.EventGiven.{is_called}

abbrev pub context_on : On → ℕ → Ctx
context_on on.Handed q = ctx.Handed q
context_on (on.Component c) q = ctx.Callback c q

-- the labelled positions of a callback row
abbrev pub sources_in : Option Callback → List (ℕ × ℕ)
sources_in None = []
sources_in (Some callback) = callback.sources

abbrev pub sources_at : Lists → ℕ → List (ℕ × ℕ)
sources_at lists q = sources_in (slice_get lists.callbacks q)

-- a callback that comes, the callback row where it comes, and all callback rows
abbrev pub call_gives : App → Lists → Arrival → On → Coming → List Conclusion
call_gives app lists arrival receiver coming = is_called app arrival (context_on receiver coming.row) (Some (sources_at lists coming.row, coming.body))

abbrev pub row_gives : App → Lists → Arrival → On → Name → ℕ → List Conclusion
row_gives app lists arrival receiver class q = is_called app arrival (context_on receiver q) (handed_callback app lists q class)

abbrev pub calls_give : App → Lists → Arrival → On → Name → List Conclusion
calls_give app lists arrival receiver class = for_below (row_gives app lists arrival receiver class) (length lists.callbacks)
