-- What a step leaves as it was.
use Rattle.std.specs.Prelude.{◌≡◌, ℕ, List, ◌++◌, map, Some}
use Rattle.app_machine.specs.declared.app.App.{App}
use Rattle.app_machine.specs.declared.lists.Lists.{Lists}
use Rattle.app_machine.specs.Heap.{Object}
use Rattle.app_machine.specs.Names.{Name}
use Rattle.app_machine.specs.State.{World}
use Rattle.played_alike.specs.Alike.{AlikeWorld}
use Rattle.played_machine.specs.Drawn.{drawn_step}
use Rattle.played_machine.specs.Local.{Playing}
use Rattle.played_machine.specs.Reading.{handed_places}

-- the new list is the old one, with more behind it
abbrev pub Extends : {A : Type 0} → List A → List A → Type 0
Extends {A} old new = (more : List A) × (new ≡ old ++ more)

-- the classes of the objects by place
abbrev pub classes_of : List Object → List Name
classes_of heap = map (λ (o : Object). o.class) heap

-- objects and handed places are added behind those of the world before
pub record Grows (w u : World) : Type 0 where
  pub classes : Extends (classes_of w.heap) (classes_of u.heap)
  pub handed : Extends (handed_places w.handed) (handed_places u.handed)

-- a step makes the world grow, and so does each that is alike to what it makes
abbrev pub StepsGrow : Type 0
StepsGrow =
    (app : App) (lists : Lists) (s t : Playing) (u : World) (bytes rest : List ℕ) →
    drawn_step app lists s bytes ≡ Some (t, rest) → AlikeWorld t.world u → Grows s.world u
