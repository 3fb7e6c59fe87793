-- Events by their numbers are those of the machine.
use Rattle.std.specs.Prelude.{◌≡◌, ◌↔◌, ℕ, IsTrue, List, Option, Some}
use Rattle.app_machine.specs.declared.app.App.{App}
use Rattle.app_machine.specs.declared.lists.Lists.{Lists}
use Rattle.app_machine.specs.Events.{LifeEventAt, CallbackAt, ClickAt, HandedAt, InitialiserAt}
use Rattle.app_machine.specs.LifeEvents.{LifeEvent}
use Rattle.app_machine.specs.Names.{Name}
use Rattle.app_machine.specs.Summaries.{Below, ClassBelow}
use Rattle.vet_base.specs.Members.{In}
use Rattle.app_model.specs.Above.{is_below, is_class_below}
use Rattle.app_model.specs.EventBodies.{click, component_callback, handed_callback, life_event}
use Rattle.app_model.specs.Initialisers.{component_initialisers}

pub record EventsAreExact (app : App) (lists : Lists) : Type 0 where
  pub below : (class type : Name) → IsTrue (is_below app lists class type) ↔ Below app lists class type
  pub class_below : (class type : Name) → IsTrue (is_class_below app lists class type) ↔ ClassBelow app lists class type
  pub life : (c e : ℕ) (class : Name) (life : LifeEvent) (body : Option ℕ) → LifeEventAt app c e class life body ↔ (life_event app c e ≡ Some (class, life, body))
  pub callback : (c q : ℕ) (sources : List (ℕ × ℕ)) (body : ℕ) → CallbackAt app lists c q sources body ↔ (component_callback app lists c q ≡ Some (sources, body))
  pub clicked : (c i body : ℕ) → ClickAt app c i body ↔ (click app c i ≡ Some body)
  pub handed : (q : ℕ) (class : Name) (sources : List (ℕ × ℕ)) (body : ℕ) → HandedAt app lists q class sources body ↔ (handed_callback app lists q class ≡ Some (sources, body))
  pub initialiser : (c body : ℕ) → InitialiserAt app c body ↔ In body (component_initialisers app c)
