-- Classes and interfaces above others: none may be above itself. The library classes above a class.
use Rattle.std.specs.Prelude.{◌≡◌, Bool, IsTrue, List, [], ◌∷◌, ◌++◌, flat_map, fold, Some, None, if◌then◌else◌}
use Rattle.std.specs.List.{list_any}
use Rattle.std.specs.BTreeMap.{is_at}
use Rattle.std.specs.declared.cmp.Ordering.TheVariants.{Less}
use Rattle.app_machine.specs.declared.app.Class.{Class}
use Rattle.vet_base.specs.Members.{In}
use Rattle.app_machine.specs.Names.{Name}
use Rattle.app_machine.specs.Lookups.{directly_above, class_among}
use Rattle.app_machine.specs.Sound.{name_order}
use Rattle.link_listing.specs.Orders.{named, has_name}

-- the second class or interface is above the first one
pub data Above (classes : List (Name × Class)) : Name → Name → Type 0 where
  directly : {name above : Name} (class : Class) → named classes name ≡ Some class → In above (directly_above class) → Above classes name above
  beyond : {name middle above : Name} → Above classes name middle → Above classes middle above → Above classes name above

-- no class is above itself
pub record NoCircle (classes : List (Name × Class)) : Type 0 where
  pub none : (name : Name) → Above classes name name → ⊥

-- the class is above itself, and none before it in the order of names is
pub record IsLeastCircle (classes : List (Name × Class)) (name : Name) : Type 0 where
  pub circle : Above classes name name
  pub least : (other : Name) → Above classes other other → name_order other name ≡ Less → ⊥

abbrev pub is_among : List Name → Name → Bool
is_among names name = list_any (is_at (name_order name)) names

-- one more name, where it is new
abbrev pub add_once : List Name → Name → List Name
add_once names name = if is_among names name then names else names ++ name ∷ []

-- the same names, in whatever order
pub record SameNames (xs ys : List Name) : Type 0 where
  pub each : (name : Name) → is_among xs name ≡ is_among ys name

-- the names, of one that comes twice the first
unfoldable pub firsts : List Name → List Name
firsts names = fold add_once [] names

-- what a class or interface gives to those below it: one of the app its own library classes, any other itself
unfoldable pub given_by : List Class → Name → List Name
given_by classes name = elim (class_among classes name) [ None ↦ name ∷ [] | Some c ↦ c.outer ]

-- the library classes above a class: what its superclass gives, and then what each interface gives
unfoldable pub outer_of : List Class → Class → List Name
outer_of classes c = firsts (flat_map (given_by classes) (directly_above c))

-- each class lists the library classes above it
pub record HasOuters (classes : List Class) : Type 0 where
  pub each : (c : Class) → In c classes → c.outer ≡ outer_of classes c

-- the class but for the library classes above it
abbrev pub without_outer : Class → Class
without_outer class = record class { outer = [] }

-- the class of an entry, under the entry's name
abbrev pub renamed : Name × Class → Class
renamed entry = record entry.1 { name = entry.0; outer = [] }

-- each of these names is a class's
pub record AreOfClasses (classes : List (Name × Class)) (names : List Name) : Type 0 where
  pub each : (name : Name) → In name names → IsTrue (has_name classes name)
