use Rattle.journal_keeper.proofs.Safe.{kept_same}
use Rattle.journal_keeper.proofs.looking.listed_in.Goals as goal

pub returns-clause-same : goal.returns-clause-same
returns-clause-same c =
    kept_same c.args.opened.now c.list.new.self c.requires c.list.ensures.told c.list.ensures.counted.failing
