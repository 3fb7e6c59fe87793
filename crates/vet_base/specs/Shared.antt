-- A list over storage that its copies share.
use Rattle.std.specs.Prelude.{List, [], Option, Some, None}
use Rattle.std.specs.Arc.{arc_value}
use Rattle.std.specs.declared.sync.Arc.{Arc}
use Rattle.std.specs.declared.vec.Vec.{Vec}

-- the items, none where there is no storage
abbrev pub items_of : {X Z W : Type 0} → Option (Arc (Vec X Z) W) → List X
items_of None = []
items_of (Some a) = (arc_value a).items
