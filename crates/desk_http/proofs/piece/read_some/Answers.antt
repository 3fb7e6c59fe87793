use Rattle.std.proofs.Common.{[]}
use Rattle.desk_http.proofs.Coming.{takes_read}
use Rattle.desk_http.proofs.piece.read_some.Goals as goal

pub returns-in-Ok-clause-takes : goal.returns-in-Ok-clause-takes
returns-in-Ok-clause-takes g c =
    takes_read (g.L.Link.told c.args.link.now) (g.L.Link.told c.read.new.self) [] c.args.room.now c.read.new.room c.in-Ok.count c.in-Ok.ensures.told
