use Rattle.case_keeper.proofs.Owning.{waiting_noted}
use Rattle.case_keeper.proofs.placing.note_waiting.Goals as goal

pub returns-clause-ok : goal.returns-clause-ok
returns-clause-ok c = λ other.
    waiting_noted c.args.waiting.now c.insert.new.self c.args.party other c.args.count
    (c.in_ok-insert.ensures.updates.0 other)
