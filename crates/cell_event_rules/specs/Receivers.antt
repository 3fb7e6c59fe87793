-- To what events come: a component in a state, or objects of a site that were handed.
use Rattle.std.specs.Prelude.{◌≢◌, ℕ}
use Rattle.fact_rows.specs.declared.context.Ctx.{Ctx}
use Rattle.fact_rows.specs.declared.context.Ctx.TheVariants as ctx
use Rattle.fact_rows.specs.declared.site.Site.{Site}
use Rattle.fact_rows.specs.declared.site.Site.TheVariants.{Component}
use Rattle.fact_rows.specs.declared.row.Row.{Row}
use Rattle.fact_rows.specs.declared.row.Row.TheVariants as fact
use Rattle.begin_rules.specs.declared.parameters.Start.{Start}
use Rattle.rule_ground.specs.Given.{of_one}
use Rattle.cell_event_rules.specs.declared.receiver.Receiver.{Receiver}
use Rattle.cell_event_rules.specs.declared.receiver.Receiver.TheVariants.{Live, Handed}
use Rattle.cell_event_rules.specs.declared.receiver.Arrival.{Arrival}

abbrev pub site_of : Receiver → Site
site_of (Live c state) = Component c
site_of (Handed s) = s

abbrev pub there_as : Receiver → Row
there_as (Live c state) = fact.Live c state
there_as (Handed s) = fact.Handed s

-- a component in the state 0 is not there
abbrev pub IsPresent : Receiver → Type 0
IsPresent (Live c state) = state ≢ 0
IsPresent (Handed s) = Unit {0}

-- by which rule callbacks come, and in which context
abbrev pub callback_rule : Receiver → ℕ
callback_rule (Live c state) = 42
callback_rule (Handed s) = 43

abbrev pub callback_context : Receiver → ℕ → Ctx
callback_context (Live c state) q = ctx.Callback c q
callback_context (Handed s) q = ctx.Handed q

-- what comes: an event in the life of a component, a click, a callback
abbrev pub life_arrival : ℕ → ℕ → ℕ → Arrival
life_arrival c state e = record { receiver = Live c state; rule = 40; ctx = ctx.Row c e }

abbrev pub click_arrival : ℕ → ℕ → ℕ → Arrival
click_arrival c state i = record { receiver = Live c state; rule = 42; ctx = ctx.Click c i }

abbrev pub callback_arrival : Receiver → ℕ → Arrival
callback_arrival receiver q = record { receiver = receiver; rule = callback_rule receiver; ctx = callback_context receiver q }

-- where it begins the body
abbrev pub start_of : Arrival → ℕ → Start
start_of arrival body = record { rule = arrival.rule; premises = of_one (there_as arrival.receiver); ctx = arrival.ctx; body = body }
