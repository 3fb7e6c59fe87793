use Rattle.std.proofs.Common.{◌≡◌, ◌+◌, ◌*◌, ◌-◌, ◌++◌}
use Rattle.dex_bodies.specs.Code.{units_from}
use Rattle.dex_bodies.proofs.code.units_in.Given as goal

abbrev pub invariant-loop-i : goal.invariant-loop-i
invariant-loop-i l = l.units.items ++ units_from l.file (l.at + 2 * l.i) (l.count - l.i) ≡ units_from l.file l.at l.count
