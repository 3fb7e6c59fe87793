use Rattle.journal_keeper.proofs.Safe.{kept_same}
use Rattle.journal_keeper.proofs.looking.history_in.Goals as goal

pub returns-clause-same : goal.returns-clause-same
returns-clause-same c =
    kept_same c.args.opened.now c.history.new.self c.requires c.history.ensures.told c.history.ensures.counted.failing
