use Rattle.std.proofs.Common.{take}
use Rattle.runner_library.proofs.Added.{AreFor}
use Rattle.runner_library.proofs.adding.add_to.Given as goal

abbrev pub invariant-loop-value : goal.invariant-loop-value
invariant-loop-value l = AreFor l.place l.initial.all.items (take l.value-index l.elements) l.all.items
