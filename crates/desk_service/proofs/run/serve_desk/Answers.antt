use Rattle.std.proofs.Common.{ap, sym}
use Rattle.desk_service.specs.Serving.{Ends}
use Rattle.desk_words.specs.Serve.{asked_words}
use Rattle.desk_service.proofs.Ended.{ends_put}
use Rattle.desk_service.proofs.run.serve_desk.Goals as goal

pub returns-in-Ok-clause-ends : goal.returns-in-Ok-clause-ends
returns-in-Ok-clause-ends g c =
    ends_put (asked_words c.args.asked.now) (g.C.Clock.told c.args.outside.now.clock) _ _ _ _
    (g.O.Sink.taken c.said.new.outside.out) (g.O.Sink.taken c.printed.new.out)
    (g.O.Sink.fault_count c.said.new.outside.out) (g.O.Sink.fault_count c.printed.new.out)
    (g.O.Sink.handed c.said.new.outside.out) (g.O.Sink.handed c.printed.new.out) _ _ _ _
    c.in-Ok.status c.printed.result c.in-Ok.text.items c.deref.result.now
    c.deref.ensures.value (ap g.O.Sink.taken (sym c.said.ensures.out)) (ap g.O.Sink.fault_count (sym c.said.ensures.out)) (ap g.O.Sink.handed (sym c.said.ensures.out))
    c.in-Ok.ensures.says c.printed.ensures

pub returns-in-Err-clause-ends : goal.returns-in-Err-clause-ends
returns-in-Err-clause-ends g c =
    Ends.memory c.in-Err.ensures.says
    (record { printed = ap g.O.Sink.taken c.said.ensures.out; count = ap g.O.Sink.fault_count c.said.ensures.out; handed = ap g.O.Sink.handed c.said.ensures.out })
