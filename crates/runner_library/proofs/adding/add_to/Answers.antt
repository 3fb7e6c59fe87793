use Rattle.std.proofs.Common.{arith}
use Rattle.runner_library.proofs.Added.{for_all, for_more, for_none}
use Rattle.runner_library.proofs.adding.add_to.Goals as goal

pub loop-value-init : goal.loop-value-init
loop-value-init c = for_none c.args.place c.args.all.now.items

pub loop-value-preserved : goal.loop-value-preserved
loop-value-preserved c =
    for_more c.args.place c.args.all.now.items c.args.elements.now c.loop-value.value-index _ c.loop-value.all.items c.push.new.self.items c.loop-value-test.true c.in_ok-push.ensures.items c.loop-value.invariant

pub returns : goal.returns
returns c = for_all c.args.place c.args.all.now.items c.args.elements.now c.loop-value.value-index c.loop-value.all.items (omega arith) c.loop-value.invariant
