-- The events that may come to a component, as the code has them.
use Rattle.std.specs.Prelude.{ℕ, ◌==◌, Bool, if◌then◌else◌, List, [], ◌∷◌, ◌++◌, map, length, Option, Some, None, option_map, slice_get}
use Rattle.app_machine.specs.declared.app.App.{App}
use Rattle.app_machine.specs.declared.lists.Callback.{Callback}
use Rattle.app_machine.specs.declared.lists.Lists.{Lists}
use Rattle.app_machine.specs.Events.{set_component, life_body}
use Rattle.app_machine.specs.LifeEvents.{LifeEvent}
use Rattle.app_machine.specs.Names.{Name}
use Rattle.app_machine.specs.State.{World, ComponentState, new_object}
use Rattle.app_model.specs.EventBodies.{called, click}
use Rattle.event_index.specs.declared.comings.Coming.{Coming}
use Rattle.played_machine.specs.Coming.{Event, Receives, Initialiser}
use Rattle.runner_choices.specs.declared.choice.Choice.{Choice}
use Rattle.runner_choices.specs.declared.choice.Choice.TheVariants.{Born, Lives, Called, Initialises}
use Rattle.runner_choices.specs.declared.lives.LifeRow.{LifeRow}

-- a component in the state: without its object where the state is 0
abbrev pub in_state : ℕ → Option ℕ → ComponentState
in_state to place = record { state = to; place = if to == 0 then None else place }

-- it comes to life, as a new object
abbrev pub born_by : World → ℕ → Name → ℕ → Option ℕ → Event
born_by w c class to body = Receives body (Some (length w.heap)) [] (record w { heap = w.heap ++ new_object class ∷ []; components = set_component w.components c (in_state to (Some (length w.heap))) })

-- it goes on in its life
abbrev pub lived_by : World → ℕ → ℕ → Option ℕ → Event
lived_by w c to body = Receives body (w.components c).place [] (record w { components = set_component w.components c (in_state to (w.components c).place) })

-- the event that is chosen in the world
abbrev pub event_of : World → Choice → Event
event_of w (Born c class to body) = born_by w c class.now to body
event_of w (Lives c to body) = lived_by w c to body
event_of w (Called place sources body) = Receives (Some body) place sources.now w
event_of w (Initialises body) = Initialiser body

-- an event in the life of a component of the class, as it is kept
abbrev pub row_on : App → Name → LifeEvent → LifeRow
row_on app class life = record { from = life.from; to = life.to; body = life_body app class life }

-- the event of the row, where it comes in the state in which the component is
abbrev pub life_with : World → ℕ → Name → Bool → LifeRow → Option Event
life_with w c class begins row =
    if row.from == (w.components c).state then (if row.from == 0 then (if begins then Some (born_by w c class row.to row.body) else None) else Some (lived_by w c row.to row.body)) else None

-- a callback or a click on the object at the place
abbrev pub called_back : World → Option ℕ → List (ℕ × ℕ) × ℕ → Event
called_back w place called = Receives (Some called.1) place called.0 w

-- what comes besides its life: to a component that is absent its initialisers, and else its callbacks and clicks
abbrev pub by_state : World → ComponentState → Bool → List (List (ℕ × ℕ) × ℕ) → List ℕ → List Event
by_state w component begins called bodies =
    if component.state == 0 then (if begins then map (λ body. Initialiser body) bodies else []) else map (called_back w component.place) called

-- what the callback runs, with the positions whose values come labelled
abbrev pub called_by : Lists → Coming → Option (List (ℕ × ℕ) × ℕ)
called_by lists coming = option_map (λ (callback : Callback). called callback.sources coming.body) (slice_get lists.callbacks coming.row)

-- what the click runs
abbrev pub clicked : App → ℕ → ℕ → Option (List (ℕ × ℕ) × ℕ)
clicked app c i = option_map (called []) (click app c i)
