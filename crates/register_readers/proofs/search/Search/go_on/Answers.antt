use Rattle.std.proofs.Common.{sym}
use Rattle.std.proofs.lemmas.Result.{on_ok_weaker}
use Rattle.register_readers.proofs.Adding.{keeps_at}
use Rattle.register_readers.proofs.search.Search.go_on.Goals as goal

pub returns-in_ok-add_next-in-Some : goal.returns-in_ok-add_next-in-Some
returns-in_ok-add_next-in-Some c = on_ok_weaker c.add_handlers.result
    (λ caught.
    keeps_at c.args.app.now c.args.method c.args.register c.args.pc c.args.self.now c.add_next.new.self c.add_handlers.new.self c.in-Some.step.now (sym c.in-Some.ensures.same)
    c.in_ok-add_next-in-Some.ensures caught) c.add_handlers.ensures
