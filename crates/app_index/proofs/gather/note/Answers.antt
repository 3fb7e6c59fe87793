use Rattle.app_index.proofs.Held.{one_longer}
use Rattle.app_index.proofs.gather.note.Goals as goal

pub returns : goal.returns
returns c =
    one_longer c.args.readers.now.items c.lengthen.new.readers.items c.args.number c.index_mut-own.result.now c.push.new.self c.args.reader
    c.in_ok-lengthen.ensures.same c.in_ok-lengthen.ensures.long c.index_mut-own.ensures.value c.in_ok-push.ensures.items
