-- Walks over the app's classes from one upward along superclasses.
use Rattle.std.specs.Prelude.{List, [], Option, Some, None}
use Rattle.std.specs.Option.{option_copied}
use Rattle.app_machine.specs.declared.app.App.{App}
use Rattle.app_machine.specs.declared.app.Class.{Class}
use Rattle.app_machine.specs.Names.{Name}
use Rattle.app_machine.specs.Lookups.{up, up_within}
use Rattle.app_model.specs.declared.lookups.class_walk.ClassWalk.{ClassWalk}

-- the classes to which the walk still comes
unfoldable pub classes_left : App → ClassWalk → List Class
classes_left app walk = up_within walk.steps app.classes (option_copied walk.name)

-- the classes upward from a name, where there is one
abbrev pub classes_from : App → Option Name → List Class
classes_from app None = []
classes_from app (Some name) = up app name
