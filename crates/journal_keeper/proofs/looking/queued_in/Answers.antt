use Rattle.journal_keeper.proofs.Safe.{kept_same}
use Rattle.journal_keeper.proofs.looking.queued_in.Goals as goal

pub returns-clause-same : goal.returns-clause-same
returns-clause-same c =
    kept_same c.args.opened.now c.queued.new.self c.requires c.queued.ensures.told c.queued.ensures.counted.failing
