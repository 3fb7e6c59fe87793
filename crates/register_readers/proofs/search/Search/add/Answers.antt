use Rattle.std.proofs.Common.{refl}
use Rattle.register_readers.proofs.Adding.{adds_new}
use Rattle.register_readers.proofs.search.Search.add.Goals as goal

pub returns : goal.returns
returns c = adds_new c.args.self.now _ c.args.pc c.lengthen.new.marks.items refl c.in_ok-push.ensures.items c.in_ok-lengthen.ensures.same c.in_ok-lengthen.ensures.long refl
