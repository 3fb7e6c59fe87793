-- The field that a reference to a static field stands for: the one of the first class that defines it, upward along superclasses,
-- and then through the interfaces of these classes in the order met, and behind them those interfaces' own interfaces, each once.
-- Android documentation, Dalvik bytecode: `sstaticop`. All superclasses come before the interfaces.
use Rattle.std.specs.Prelude.{ℕ, zero, suc, Bool, false, List, [], ◌++◌, length, Option, Some, None, filter_map, flat_map, unwrap_or, if◌then◌else◌}
use Rattle.app_machine.specs.declared.app.App.{App}
use Rattle.app_machine.specs.declared.app.Class.{Class}
use Rattle.app_machine.specs.Names.{Name}
use Rattle.vet_base.specs.Members.{first_index, first_given}
use Rattle.dex_tables.specs.declared.dex.Dex.{Dex}
use Rattle.app_machine.specs.Lookups.{class_named, up}
use Rattle.link_hierarchy.specs.Hierarchy.{firsts}
use Rattle.link_listing.specs.Texts.{Triple, same_triple, field_of}
use Rattle.link_listing.specs.MemberRows.{Fields}
use Rattle.link_listing.specs.Orders.{named_triple}

abbrev pub is_true : Option Bool → Bool
is_true None = false
is_true (Some b) = b

-- the class itself defines a static field of the name and type
unfoldable pub defines : Fields → Name → Name → Class → Bool
defines fields name kind class = is_true (named_triple fields (class.name, name, kind))

abbrev pub own_name : Fields → Name → Name → Class → Option Name
own_name fields name kind class = if defines fields name kind class then Some class.name else None

abbrev pub own_interfaces : Class → List Name
own_interfaces class = class.interfaces

-- the interfaces of a class and of the app classes above it along superclasses, in the order met
unfoldable pub first_interfaces : App → Name → List Name
first_interfaces app class = flat_map own_interfaces (up app class)

-- the interfaces of the app class of that name
unfoldable pub interfaces_named : App → Name → List Name
interfaces_named app name = elim (class_named app name) [ None ↦ [] | Some class ↦ class.interfaces ]

-- the interfaces met in so many turns: in each these first, and behind them the own interfaces of all that were met before, each once
unfoldable pub met_within : App → List Name → ℕ → List Name
met_within app first zero = []
met_within app first (suc n) = firsts (first ++ flat_map (interfaces_named app) (met_within app first n))

-- all interfaces met from a class upward: no more turns meet a new one than the classes of the app name interfaces
unfoldable pub met : App → Name → List Name
met app class = met_within app (first_interfaces app class) (length (flat_map own_interfaces app.classes))

-- where a static field is looked for: in the classes upward along superclasses, and then in the interfaces met
unfoldable pub classes_asked : App → Name → List Class
classes_asked app class = up app class ++ filter_map (class_named app) (met app class)

-- the first of them that itself defines the field of the reference, and otherwise the reference's own class
unfoldable pub class_of_static : App → Fields → Triple → Name
class_of_static app fields at = unwrap_or (first_given (own_name fields at.1 at.2) (classes_asked app at.0)) at.0

-- the field that a reference to a static field stands for
unfoldable pub resolved : App → Fields → Triple → Triple
resolved app fields at = (class_of_static app fields at, at.1, at.2)

unfoldable pub number_among : List Triple → Triple → ℕ
number_among statics at = unwrap_or (first_index (λ s. same_triple s at) statics) 0

-- the number of the static that the field of that index stands for
unfoldable pub number_of : App → Fields → List Triple → Dex → ℕ → ℕ
number_of app fields statics dex i = number_among statics (resolved app fields (field_of dex i))
