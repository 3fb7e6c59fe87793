-- What runs in the context of an event.
use Rattle.std.specs.Prelude.{ℕ, List, [], Option, Some, None, slice_get}
use Rattle.std.specs.Option.{option_and_then}
use Rattle.app_machine.specs.declared.app.App.{App}
use Rattle.app_machine.specs.declared.component.Component.{Component}
use Rattle.app_machine.specs.declared.lists.Callback.{Callback}
use Rattle.app_machine.specs.declared.lists.Lists.{Lists}
use Rattle.app_machine.specs.Names.{Name}
use Rattle.app_machine.specs.LifeEvents.{life_events}
use Rattle.app_machine.specs.Events.{life_body, callback_body, click_body}
use Rattle.fact_rows.specs.declared.context.Ctx.{Ctx}
use Rattle.fact_rows.specs.declared.context.Ctx.TheVariants.{Row, Callback as CallbackOf, Click, Handed, Call, Call2}

-- the context is that of an event
abbrev pub IsEvent : Ctx → Type 0
IsEvent (Call m pc) = ⊥
IsEvent (Call2 m pc n qc) = ⊥
IsEvent _ = Unit {0}

-- the body that an event runs on its component
abbrev pub body_on : App → Lists → Ctx → Component → Option ℕ
body_on app lists (Row c e) component = option_and_then (life_body app component.class) (slice_get (life_events component.kind) e)
body_on app lists (CallbackOf c q) component = option_and_then (callback_body app component.class) (slice_get lists.callbacks q)
body_on app lists (Click c i) component = option_and_then (click_body app component.class) (slice_get app.clicks i)
body_on app lists _ component = None

abbrev pub body_at : App → Lists → Ctx → Option Component → Option ℕ
body_at app lists ctx None = None
body_at app lists ctx (Some component) = body_on app lists ctx component

-- the types of a method's parameters
abbrev pub types_of : App → Option ℕ → List Name
types_of app None = []
types_of app (Some body) = elim (slice_get app.methods body) [ None ↦ [] | Some m ↦ m.at.proto.params ]

abbrev pub callback_types : Option Callback → List Name
callback_types None = []
callback_types (Some callback) = callback.proto.params

-- The types of an event's parameters: those of the body that it runs on its component, and for a handed object those of the
-- callback row.
unfoldable pub event_types : App → Lists → Ctx → List Name
event_types app lists (Row c e) = types_of app (body_at app lists (Row c e) (slice_get app.components c))
event_types app lists (CallbackOf c q) = types_of app (body_at app lists (CallbackOf c q) (slice_get app.components c))
event_types app lists (Click c i) = types_of app (body_at app lists (Click c i) (slice_get app.components c))
event_types app lists (Handed q) = callback_types (slice_get lists.callbacks q)
event_types app lists _ = []
