use Rattle.std.proofs.Common.{◌≡◌, fold, take}
use Rattle.cell_ground.specs.Coming.{coming}
use Rattle.cell_ground.proofs.coming.come_to.Given as goal

abbrev pub invariant-loop-pc : goal.invariant-loop-pc
invariant-loop-pc g l = l.out ≡ fold g.S.Sink.then l.fn.out (coming l.readers l.inference.rule l.inference.premises l.content l.node l.register (take l.pc-index l.pcs))
