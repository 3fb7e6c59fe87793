use Rattle.journal_keeper.proofs.Safe.{kept_same}
use Rattle.journal_keeper.proofs.looking.first_queued_in.Goals as goal

pub returns-clause-same : goal.returns-clause-same
returns-clause-same c =
    kept_same c.args.opened.now c.first_queued.new.self c.requires c.first_queued.ensures.told c.first_queued.ensures.counted.failing
