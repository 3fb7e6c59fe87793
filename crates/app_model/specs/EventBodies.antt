-- Events by their numbers: which body runs, and what comes labelled.
use Rattle.std.specs.Prelude.{ℕ, Bool, true, false, List, Option, Some, None, option_map, slice_get, if◌then◌else◌}
use Rattle.app_machine.specs.declared.app.App.{App}
use Rattle.app_machine.specs.declared.component.Component.{Component}
use Rattle.app_machine.specs.declared.component.Kind.{Kind}
use Rattle.app_machine.specs.declared.component.Kind.TheVariants.{Activity}
use Rattle.app_machine.specs.declared.lists.Callback.{Callback}
use Rattle.app_machine.specs.declared.lists.Lists.{Lists}
use Rattle.app_machine.specs.LifeEvents.{LifeEvent, life_events}
use Rattle.app_machine.specs.Events.{life_body, callback_body, click_body}
use Rattle.app_machine.specs.Names.{Name}
use Rattle.app_model.specs.declared.lookups.events.CalledBack.{CalledBack}
use Rattle.app_model.specs.declared.lookups.events.ComponentEvent.{ComponentEvent}
use Rattle.app_model.specs.Above.{is_below}
use Rattle.app_model.specs.EventTable.{shown_event}

-- an event in the life of a component: the component's class, the event, and the body, where there is one
abbrev pub life_at : App → Component → Option LifeEvent → Option (Name × LifeEvent × Option ℕ)
life_at app component None = None
life_at app component (Some life) = Some (component.class, life, life_body app component.class life)

abbrev pub life_of : App → Component → ℕ → Option (Name × LifeEvent × Option ℕ)
life_of app component e = life_at app component (slice_get (life_events component.kind) e)

abbrev pub life_on : App → ℕ → Option Component → Option (Name × LifeEvent × Option ℕ)
life_on app e None = None
life_on app e (Some component) = life_of app component e

unfoldable pub life_event : App → ℕ → ℕ → Option (Name × LifeEvent × Option ℕ)
life_event app c e = life_on app e (slice_get app.components c)

abbrev pub called : List (ℕ × ℕ) → ℕ → List (ℕ × ℕ) × ℕ
called sources body = (sources, body)

-- a callback on an object of the class: the labelled positions and the body, where the class is below the row's and has one
abbrev pub callback_of : App → Lists → Name → Option Callback → Option (List (ℕ × ℕ) × ℕ)
callback_of app lists class None = None
callback_of app lists class (Some callback) = if is_below app lists class callback.class then option_map (called callback.sources) (callback_body app class callback) else None

unfoldable pub handed_callback : App → Lists → ℕ → Name → Option (List (ℕ × ℕ) × ℕ)
handed_callback app lists q class = callback_of app lists class (slice_get lists.callbacks q)

abbrev pub callback_on : App → Lists → ℕ → Option Component → Option (List (ℕ × ℕ) × ℕ)
callback_on app lists q None = None
callback_on app lists q (Some component) = handed_callback app lists q component.class

unfoldable pub component_callback : App → Lists → ℕ → ℕ → Option (List (ℕ × ℕ) × ℕ)
component_callback app lists c q = callback_on app lists q (slice_get app.components c)

abbrev pub is_activity : Kind → Bool
is_activity Activity = true
is_activity other = false

-- a click on a component, where it is an activity and has a body for it
abbrev pub click_of : App → Component → Option Name → Option ℕ
click_of app component None = None
click_of app component (Some name) = if is_activity component.kind then click_body app component.class name else None

abbrev pub click_on : App → ℕ → Option Component → Option ℕ
click_on app i None = None
click_on app i (Some component) = click_of app component (slice_get app.clicks i)

unfoldable pub click : App → ℕ → ℕ → Option ℕ
click app c i = click_on app i (slice_get app.components c)

-- an answer as these say it
abbrev pub shown_component_event : ComponentEvent → Name × LifeEvent × Option ℕ
shown_component_event found = (found.class.now, shown_event found.event, found.body)

abbrev pub shown_callback : CalledBack → List (ℕ × ℕ) × ℕ
shown_callback found = (found.sources.now, found.body)
