-- What is asked of the app classes and interfaces above a class.
use Rattle.std.specs.Prelude.{Bool, false, ◌==◌, ◌&&◌, ◌||◌, List, [], ◌∷◌}
use Rattle.std.specs.List.{list_any}
use Rattle.app_machine.specs.declared.call.Proto.{Proto}
use Rattle.app_machine.specs.declared.app.App.{App}
use Rattle.app_machine.specs.declared.app.Class.{Class}
use Rattle.app_machine.specs.declared.lists.Lists.{Lists}
use Rattle.app_model.specs.declared.lookups.above.Quality.{Quality}
use Rattle.app_model.specs.declared.lookups.above.Quality.TheVariants as quality
use Rattle.app_machine.specs.Names.{Name, same_name, same_proto, is_reference, array_types, object_class}
use Rattle.app_machine.specs.Lookups.{directly_above, all_above}
use Rattle.app_machine.specs.Summaries.{listed_above}

unfoldable pub is_among : List Name → Name → Bool
is_among names name = list_any (λ other. same_name other name) names

-- the names are the same, or the lists have the second one above the first
unfoldable pub is_listed_below : Lists → Name → Name → Bool
is_listed_below lists class type = same_name class type || is_among (listed_above lists class) type

unfoldable pub has_bare : Class → Name → Proto → Bool
has_bare c name proto = list_any (λ (b : Name × Proto). same_name b.0 name && same_proto b.1 proto) c.bare

unfoldable pub any_listed_below : Lists → List Name → Name → Bool
any_listed_below lists classes type = list_any (λ class. is_listed_below lists class type) classes

unfoldable pub has_below : Class → Lists → Name → Bool
has_below c lists type = any_listed_below lists (directly_above c) type

-- the answer to whether the class is below the type as a class or interface
unfoldable pub is_class_below : App → Lists → Name → Name → Bool
is_class_below app lists class type = same_name type object_class || (is_listed_below lists class type || list_any (λ (c : Class). has_below c lists type) (all_above app class))

-- the answer to whether it is an array, and below the type as one
unfoldable pub is_array_below : App → Lists → Name → Name → Bool
is_array_below app lists [] type = false
is_array_below app lists (c ∷ class) [] = (c == 91) && is_among array_types []
is_array_below app lists (c ∷ class) (t ∷ type) =
    (c == 91) && (is_among array_types (t ∷ type) || ((t == 91) && (is_reference class && (is_class_below app lists class type || is_array_below app lists class type))))

-- the answer to whether the class is below the type
unfoldable pub is_below : App → Lists → Name → Name → Bool
is_below app lists class type = is_class_below app lists class type || is_array_below app lists class type

abbrev pub has : Quality → Class → Bool
has (quality.Bare name proto) c = has_bare c name.now proto.now
has (quality.Below lists type) c = has_below c lists.now type.now
