-- What comes to a component or to handed objects by the second set, as a list of conclusions.
use Rattle.std.specs.Prelude.{◌==◌, ℕ, List, [], ◌++◌, Option, Some, None, cond, length}
use Rattle.app_machine.specs.declared.lists.Lists.{Lists}
use Rattle.app_machine.specs.declared.app.App.{App}
use Rattle.app_machine.specs.LifeEvents.{LifeEvent}
use Rattle.app_machine.specs.Names.{Name}
use Rattle.app_model.specs.EventBodies.{click, handed_callback, life_event}
use Rattle.event_index.specs.declared.comings.Coming.{Coming}
use Rattle.event_index.specs.Comings.{callback_run}
use Rattle.fact_rows.specs.declared.site.Site.{Site}
use Rattle.flow_rules.specs.Sites.{site_class}
use Rattle.rule_ground.specs.declared.conclusion.Conclusion.{Conclusion}
use Rattle.rule_ground.specs.Below.{for_below}
use Rattle.event_rules.specs.Calling.{sources_at}
use Rattle.event_rules.specs.EventGiven.{event_count}
use Rattle.register_readers.specs.Readings.{Readings}
use Rattle.cell_ground.specs.declared.content.Content.TheVariants.{Object}
use Rattle.cell_begin_rules.specs.CellBeginGiven.{enters}
use Rattle.cell_event_rules.specs.declared.receiver.Receiver.{Receiver}
use Rattle.cell_event_rules.specs.declared.receiver.Receiver.TheVariants.{Live, Handed}
use Rattle.cell_event_rules.specs.declared.receiver.Arrival.{Arrival}
use Rattle.cell_event_rules.specs.Receivers.{site_of, life_arrival, click_arrival, callback_arrival, start_of}

module _ (app : App) (readings : Readings) where
  -- the body runs on what it comes to, with these labelled positions, where there is one
  abbrev pub runs : Arrival → List (ℕ × ℕ) → Option ℕ → List Conclusion
  runs arrival sources None = []
  runs arrival sources (Some body) = enters app readings (start_of arrival body) sources (Object (site_of arrival.receiver))

  -- 40. The events in the life of a component.
  abbrev pub by_life : ℕ → ℕ → ℕ → Option (Name × LifeEvent × Option ℕ) → List Conclusion
  by_life c state e None = []
  by_life c state e (Some found) = cond (found.1.from == state) (runs (life_arrival c state e) [] found.2) []

  abbrev pub event_gives : ℕ → ℕ → ℕ → List Conclusion
  event_gives c state e = by_life c state e (life_event app c e)

  abbrev pub life_gives : ℕ → ℕ → List Conclusion
  life_gives c state = for_below (event_gives c state) (event_count app c)

  -- 42. Clicks.
  abbrev pub click_gives : ℕ → ℕ → ℕ → List Conclusion
  click_gives c state i = runs (click_arrival c state i) [] (click app c i)

  abbrev pub clicks_give : ℕ → ℕ → List Conclusion
  clicks_give c state = for_below (click_gives c state) (length app.clicks)

module _ (app : App) (readings : Readings) (lists : Lists) where
  -- 42, 43. Callbacks: one that comes, and each where it comes to objects of the class.
  abbrev pub coming_gives : Receiver → Coming → List Conclusion
  coming_gives receiver coming = runs app readings (callback_arrival receiver coming.row) (sources_at lists coming.row) (Some coming.body)

  abbrev pub callback_gives : Receiver → Name → ℕ → List Conclusion
  callback_gives receiver class q = runs app readings (callback_arrival receiver q) (sources_at lists q) (callback_run (handed_callback app lists q class))

  abbrev pub callbacks_give : Receiver → Name → List Conclusion
  callbacks_give receiver class = for_below (callback_gives receiver class) (length lists.callbacks)

  abbrev pub calls_as : Receiver → Option Name → List Conclusion
  calls_as receiver None = []
  calls_as receiver (Some class) = callbacks_give receiver class

  abbrev pub calls_give : Receiver → List Conclusion
  calls_give receiver = calls_as receiver (site_class app lists (site_of receiver))

  -- what comes to a component in a state, of which callbacks and clicks come only where it is there
  abbrev pub present_gives : ℕ → ℕ → List Conclusion
  present_gives c state = calls_give (Live c state) ++ clicks_give app readings c state

  abbrev pub live_gives : ℕ → ℕ → List Conclusion
  live_gives c state = life_gives app readings c state ++ cond (state == 0) [] (present_gives c state)

  -- and to objects that were handed
  abbrev pub handed_on : Site → List Conclusion
  handed_on s = calls_give (Handed s)
