use Rattle.event_index.proofs.Words.{marked_by}
use Rattle.event_index.proofs.bits.set.Goals as goal

pub returns-clause-marks : goal.returns-clause-marks
returns-clause-marks c = marked_by c.args.words.now c.args.number c.with_bit.result c.requires c.with_bit.ensures.set c.with_bit.ensures.others
