use Rattle.std.proofs.Common.{arith}
use Rattle.event_index.proofs.Words.{joined_all}
use Rattle.event_index.proofs.bits.join.Goals as goal

pub returns-clause-marks : goal.returns-clause-marks
returns-clause-marks c = joined_all _ _ _ c.loop-at.at c.requires (omega arith) c.loop-at.invariant
