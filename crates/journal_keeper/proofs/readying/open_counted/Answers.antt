use Rattle.journal_reading.specs.declared.opening.Opened.{Opened}
use Rattle.journal_keeper.proofs.Counting.{open_counts}
use Rattle.journal_keeper.proofs.readying.open_counted.Goals as goal

pub returns-in-Err-clause-counts : goal.returns-in-Err-clause-counts
returns-in-Err-clause-counts g c =
    open_counts Opened Opened (g.D.Disk.told c.args.disk.now) _ _ _ _ c.in-Err.fault c.counted.result c.in-Err.ensures.cause c.counted.ensures c.in-Err.ensures.answer
