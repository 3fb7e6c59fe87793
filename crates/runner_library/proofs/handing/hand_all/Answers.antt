use Rattle.std.proofs.Common.{refl, arith}
use Rattle.runner_library.proofs.Handed.{all_handed, one_handed}
use Rattle.runner_library.proofs.handing.hand_all.Goals as goal

pub loop-value-init : goal.loop-value-init
loop-value-init c = refl

pub loop-value-preserved : goal.loop-value-preserved
loop-value-preserved c = one_handed c.args.values.now c.args.handed.now c.loop-value.handed c.hand.new.self c.loop-value.value-index _ c.loop-value-test.true c.in_ok-hand.ensures.ok c.loop-value.invariant

pub returns : goal.returns
returns c = all_handed c.args.values.now c.args.handed.now c.loop-value.handed c.loop-value.value-index (omega arith) c.loop-value.invariant
