use Rattle.journal_keeper.proofs.Safe.{kept_same}
use Rattle.journal_keeper.proofs.looking.appealed_in.Goals as goal

pub returns-clause-same : goal.returns-clause-same
returns-clause-same c =
    kept_same c.args.opened.now c.appeals.new.self c.requires c.appeals.ensures.told c.appeals.ensures.counted.failing
