use Rattle.std.proofs.Common.{◌≡◌, ◌++◌, ◌-◌}
use Rattle.made_apps.specs.Made.{methods_from}
use Rattle.made_apps.proofs.listing.methods_drawn.Given as goal

abbrev pub invariant-loop-i : goal.invariant-loop-i
invariant-loop-i l = l.methods.items ++ methods_from (l.size - l.i) l.size l.i l.draws.state ≡ methods_from l.size l.size 0 l.seed
