use Rattle.case_keeper.proofs.Bare.{told_bare}
use Rattle.case_keeper.proofs.viewing.found_bare.Goals as goal

pub returns-clause-answer : goal.returns-clause-answer
returns-clause-answer g c = λ cases is.
    told_bare c.args.party.now c.args.reference.now cases _ c.in_ok-history.history c.in_ok-if_bare.ensures
    (c.in_ok-history.ensures.answer cases is)
