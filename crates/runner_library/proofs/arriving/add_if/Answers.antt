use Rattle.std.proofs.Common.{refl, arith}
use Rattle.runner_library.proofs.Labelled.{is_added, not_added}
use Rattle.runner_library.proofs.arriving.add_if.Goals as goal

pub returns-then-not-has : goal.returns-then-not-has
returns-then-not-has c = not_added c.args.sink c.args.labels c.args.arrivals.now.items c.args.label c.has.result (omega (arith, c.ranges.label)) c.has.ensures c.if-not-has.true

pub returns : goal.returns
returns c =
    is_added c.args.sink c.args.labels c.args.arrivals.now.items c.push.new.self.items c.args.label (record { label = c.args.label; sink = c.args.sink.category; method = c.args.sink.method; pc = c.args.sink.pc }) c.has.result (omega (arith, c.ranges.label))
    c.has.ensures c.if-not-has.false c.in_ok-push.ensures.items refl
