use Rattle.std.proofs.Common.{◌+◌, length}
use Rattle.desk_http.proofs.Writing.{wrote_both, wrote_front, wrote_further}
use Rattle.desk_http.proofs.reply.write_both.Goals as goal

pub returns-in-Err-clause-front : goal.returns-in-Err-clause-front
returns-in-Err-clause-front g c =
    let front = c.in-Err.ensures.front in
    (front.0, wrote_front (g.L.Link.told c.args.link.now) (g.L.Link.told c.write_all.new.link) c.args.head.now c.args.body.now front.0 front.1 front.2)

pub returns-in-Err-write_all-clause-front : goal.returns-in-Err-write_all-clause-front
returns-in-Err-write_all-clause-front g c =
    let front = c.in-Err-write_all.ensures.front in
    (length c.args.head.now + front.0, wrote_further (g.L.Link.told c.args.link.now) (g.L.Link.told c.write_all.new.link) (g.L.Link.told c.write_all-2.new.link) c.args.head.now c.args.body.now front.0 c.in_default.ensures.all front.2)

pub returns-clause-all : goal.returns-clause-all
returns-clause-all g c =
    wrote_both (g.L.Link.told c.args.link.now) (g.L.Link.told c.write_all.new.link) (g.L.Link.told c.write_all-2.new.link) c.args.head.now c.args.body.now c.in_default.ensures.all c.in_default-write_all.ensures.all
