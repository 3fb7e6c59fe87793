use Rattle.std.proofs.Common.{rules}
use Rattle.gated_log.proofs.Known.{is_known}
use Rattle.gated_log.proofs.reading.begins_as_log.Goals as goal

pub returns-clause-answer : goal.returns-clause-answer
returns-clause-answer g c =
    is_known (g.D.Disk.told c.args.disk.now) c.in_ok-found.found.items _ (search rules) c.in_ok-found.ensures.piece
