use Rattle.std.proofs.Common.{refl, sym, ◌∙◌, arith}
use Rattle.desk_serving.specs.Serving.{outside}
use Rattle.desk_serving.proofs.Connections.{not_asked, asked}
use Rattle.desk_serving.proofs.serving.serve_one.Goals as goal

pub returns-in-Some-clause-serves : goal.returns-in-Some-clause-serves
returns-in-Some-clause-serves g c =
    not_asked (g.J.Judge.finds c.args.desk.now.judge) c.args.desk.now.office (g.J.Judge.edition c.args.desk.now.judge)
    (g.C.Clock.told c.args.clock.now)
    (outside (g.K.Keeper.told c.args.keeper.now) (g.K.Keeper.fault_count c.args.keeper.now)
    (g.L.Link.told c.args.link.now) (g.L.Link.fault_count c.args.link.now))
    (outside (g.K.Keeper.told c.args.keeper.now) (g.K.Keeper.fault_count c.args.keeper.now)
    (g.L.Link.told c.read_request-request.new.link) (g.L.Link.fault_count c.read_request-request.new.link))
    c.read_request-request.result c.in-Some.said (sym c.unasked.ensures ∙ c.in-Some.is)
    c.read_request-request.ensures.answer c.read_request-request.ensures.taken refl (omega arith)
    c.read_request-request.ensures.never_falls c.read_request-request.ensures.cause

pub returns-clause-serves : goal.returns-clause-serves
returns-clause-serves g c =
    asked (g.J.Judge.finds c.args.desk.now.judge) c.args.desk.now.office (g.J.Judge.edition c.args.desk.now.judge)
    (g.C.Clock.told c.args.clock.now) c.today-day.result
    (outside (g.K.Keeper.told c.args.keeper.now) (g.K.Keeper.fault_count c.args.keeper.now)
    (g.L.Link.told c.args.link.now) (g.L.Link.fault_count c.args.link.now))
    _ _ _ c.read_request-request.result _
    c.read_request-request.ensures.answer c.read_request-request.ensures.taken
    c.read_request-request.ensures.never_falls c.today-day.ensures.answer c.answered.ensures.served
