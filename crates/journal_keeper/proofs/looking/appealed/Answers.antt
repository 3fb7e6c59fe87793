use Rattle.journal_keeper.proofs.Safe.{some_same}
use Rattle.journal_keeper.proofs.looking.appealed.Goals as goal

pub returns-clause-same : goal.returns-clause-same
returns-clause-same c = some_same c.args.opened.now c.in-Some.journal c.appealed_in.new.opened c.in-Some.is c.appealed_in.ensures.same
