-- Which bodies the events of components run.
use Rattle.std.specs.Prelude.{◌≡◌, ℕ, List, Option, Some, None, slice_get}
use Rattle.std.specs.declared.vec.Vec.{Vec}
use Rattle.app_machine.specs.declared.app.App.{App}
use Rattle.app_machine.specs.LifeEvents.{LifeEvent}
use Rattle.app_machine.specs.Names.{Name}
use Rattle.app_model.specs.EventBodies.{click, life_event}
use Rattle.event_index.specs.declared.bodies.Event.{Event}
use Rattle.event_index.specs.declared.bodies.Event.TheVariants as event

abbrev pub life_run : Option (Name × LifeEvent × Option ℕ) → Option ℕ
life_run None = None
life_run (Some event) = event.2

-- the body that the event of this number runs on the component
abbrev pub body_of : App → Event → ℕ → ℕ → Option ℕ
body_of app event.Life c e = life_run (life_event app c e)
body_of app event.Click c i = click app c i

-- each body that stands at a number is that of the event
pub record AreBodies (app : App) (kind : Event) (c : ℕ) (bodies : List (Option ℕ)) : Type 0 where
  pub at : (j : ℕ) (body : Option ℕ) → slice_get bodies j ≡ Some body → body ≡ body_of app kind c j

pub record HasBodies {A : Type 0} (app : App) (kind : Event) (rows : List (Vec (Option ℕ) A)) : Type 0 where
  pub at : (c : ℕ) (row : Vec (Option ℕ) A) → slice_get rows c ≡ Some row → AreBodies app kind c row.items
