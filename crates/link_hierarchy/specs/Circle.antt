-- What a search for a class above itself keeps.
use Rattle.std.specs.Prelude.{◌≡◌, Bool, true, List, [], Option, Some, None, if◌then◌else◌}
use Rattle.std.specs.Ordering.{is_lt}
use Rattle.std.specs.declared.cmp.Ordering.TheVariants.{Less}
use Rattle.app_machine.specs.declared.app.Class.{Class}
use Rattle.app_machine.specs.Lookups.{directly_above}
use Rattle.vet_base.specs.Members.{In}
use Rattle.app_machine.specs.Names.{Name}
use Rattle.app_machine.specs.Sound.{name_order}
use Rattle.link_hierarchy.specs.Hierarchy.{Above, is_among}
use Rattle.link_listing.specs.Orders.{named}

-- the names directly above a class of that name
unfoldable pub above_named : List (Name × Class) → Name → List Name
above_named classes name = elim (named classes name) [ None ↦ [] | Some c ↦ directly_above c ]

-- what a visit of the name puts behind the queue
unfoldable pub newly : List (Name × Class) → List Name → Name → List Name
newly classes seen name = if is_among seen name then [] else above_named classes name

-- the name comes before the best so far
abbrev pub comes_first : Name → Option Name → Bool
comes_first name None = true
comes_first name (Some best) = is_lt (name_order name best)

-- the least of these names that are above themselves, where one is
abbrev pub LeastAmong : List (Name × Class) → List Name → Option Name → Type 0
LeastAmong classes names None = (name : Name) → In name names → Above classes name name → ⊥
LeastAmong classes names (Some best) = Above classes best best × ((name : Name) → In name names → Above classes name name → name_order name best ≡ Less → ⊥)
