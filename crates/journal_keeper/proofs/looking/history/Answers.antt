use Rattle.journal_keeper.proofs.Safe.{some_same}
use Rattle.journal_keeper.proofs.looking.history.Goals as goal

pub returns-clause-same : goal.returns-clause-same
returns-clause-same c = some_same c.args.opened.now c.in-Some.journal c.history_in.new.opened c.in-Some.is c.history_in.ensures.same
