use Rattle.case_rules.specs.Rules.{session_of}
use Rattle.desk_serving.proofs.Obeyed.{docket_then}
use Rattle.desk_serving.proofs.obeying.obey.Goals as goal

pub returns-clause-docket : goal.returns-clause-docket
returns-clause-docket g c =
    docket_then c.each_thing_is_done_once.ensures.one_decision_an_edition (g.J.Judge.finds c.args.desk.now.judge)
    (session_of c.args.party.now c.args.desk.now.office.appeal_days c.args.day (g.J.Judge.edition c.args.desk.now.judge))
    c.args.command.now (g.K.Keeper.told c.args.keeper.now) _ c.obeyed.result c.requires.docket
    c.obeyed.ensures.obeys c.obeyed.ensures.err
