use Rattle.desk_service.proofs.Ended.{serves_desk}
use Rattle.desk_service.proofs.saying.taken.Goals as goal

pub returns-clause-serves : goal.returns-clause-serves
returns-clause-serves g c =
    serves_desk c.a_clear_decision_is_of_a_safe_app.ensures.runs c.an_added_decision_is_a_verdict.ensures.runs c.args.desk
    (g.C.Clock.told c.args.outside.now.clock) c.args.most _ _ c.serve_ahead.result c.requires.edition
    c.serve_ahead.ensures.runs c.serve_ahead.ensures.machine c.serve_ahead.ensures.talks c.serve_ahead.ensures.count
