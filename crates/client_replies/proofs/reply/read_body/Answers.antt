use Rattle.std.proofs.Common.{arith}
use Rattle.desk_http.proofs.Coming.{takes_nothing, takes_more}
use Rattle.client_replies.proofs.reply.read_body.Goals as goal

pub loop-body-init : goal.loop-body-init
loop-body-init g c = record { takes = takes_nothing (g.L.Link.told c.args.link.now) c.args.body.now.items; never_falls = omega arith }

pub loop-body-preserved : goal.loop-body-preserved
loop-body-preserved g c = record {
  takes = takes_more (g.L.Link.told c.args.link.now) (g.L.Link.told c.loop-body.link) (g.L.Link.told c.read_more.new.link) c.args.body.now.items c.loop-body.body.items c.read_more.new.bytes.items c.loop-body.invariant.takes c.read_more.ensures.takes;
  never_falls = omega (arith, c.loop-body.invariant.never_falls, c.read_more.ensures.never_falls);
}

pub returns-in-Err-clause-takes : goal.returns-in-Err-clause-takes
returns-in-Err-clause-takes g c =
    takes_more (g.L.Link.told c.args.link.now) (g.L.Link.told c.loop-body.link) (g.L.Link.told c.read_more.new.link) c.args.body.now.items c.loop-body.body.items c.read_more.new.bytes.items c.loop-body.invariant.takes c.read_more.ensures.takes

pub returns-in-Ok-false-clause-takes : goal.returns-in-Ok-false-clause-takes
returns-in-Ok-false-clause-takes g c =
    takes_more (g.L.Link.told c.args.link.now) (g.L.Link.told c.loop-body.link) (g.L.Link.told c.read_more.new.link) c.args.body.now.items c.loop-body.body.items c.read_more.new.bytes.items c.loop-body.invariant.takes c.read_more.ensures.takes
