use Rattle.std.proofs.Common.{◌≡◌, fold, take}
use Rattle.cell_ground.specs.Coming.{at_each}
use Rattle.cell_ground.proofs.coming.put_each.Given as goal

abbrev pub invariant-loop-pc : goal.invariant-loop-pc
invariant-loop-pc g l = l.out ≡ fold g.S.Sink.then l.fn.out (at_each l.inference.rule l.inference.premises l.content l.node l.register (take l.pc-index l.pcs))
