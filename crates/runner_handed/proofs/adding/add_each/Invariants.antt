use Rattle.std.proofs.Common.{take}
use Rattle.runner_handed.specs.Reached.{AddsEach}
use Rattle.runner_handed.proofs.adding.add_each.Given as goal

abbrev pub invariant-loop-coming : goal.invariant-loop-coming
invariant-loop-coming l = AddsEach l.place (take l.coming-index l.comings) l.initial.rows.items l.rows.items
