use Rattle.device_causes.proofs.Marks.{SpotsSoFar}
use Rattle.device_causes.proofs.libraries.static_spots.Given as goal

abbrev pub invariant-loop-i : goal.invariant-loop-i
invariant-loop-i l = SpotsSoFar l.app l.access.entries l.lists l.i l.spots.items
