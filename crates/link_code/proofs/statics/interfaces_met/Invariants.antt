use Rattle.std.proofs.Common.{◌-◌, length}
use Rattle.std.specs.Prelude.{flat_map}
use Rattle.link_hierarchy.specs.Hierarchy.{SameNames}
use Rattle.link_code.specs.Statics.{own_interfaces}
use Rattle.link_code.proofs.Meeting.{Meets}
use Rattle.link_code.proofs.statics.interfaces_met.Given as goal

abbrev pub invariant-loop-i : goal.invariant-loop-i
invariant-loop-i l = record { same : SameNames l.seen.keys l.names.items; meets : Meets l.app l.class l.i l.names.items }

abbrev pub decreases-loop-i : goal.decreases-loop-i
decreases-loop-i l = length (flat_map own_interfaces l.app.classes) - l.i
