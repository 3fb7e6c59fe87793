use Rattle.std.proofs.Common.{◌≡◌, fold, take}
use Rattle.cell_ground.specs.Coming.{coming_to_all}
use Rattle.cell_ground.proofs.coming.come_to_all.Given as goal

abbrev pub invariant-loop-register : goal.invariant-loop-register
invariant-loop-register g l = l.out ≡ fold g.S.Sink.then l.fn.out (coming_to_all l.readers l.inference.rule l.inference.premises l.content l.node (take l.register-index l.registers) l.pcs)
