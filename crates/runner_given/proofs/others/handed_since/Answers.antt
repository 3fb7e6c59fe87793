use Rattle.std.proofs.Common.{reverse, sym, ◌∙◌, arith}
use Rattle.runner_given.proofs.Since.{all_handed, none_handed, one_handed}
use Rattle.runner_given.proofs.others.handed_since.Goals as goal

pub loop-value-init : goal.loop-value-init
loop-value-init c = none_handed c.args.handed.now (reverse c.args.handed.now) c.args.values.now c.new-new.result.items c.new-new.ensures.items (sym c.places-before.ensures.places ∙ c.places-before.ensures.same)

pub loop-value-preserved : goal.loop-value-preserved
loop-value-preserved c =
    one_handed c.args.handed.now (reverse c.args.handed.now) c.args.values.now c.loop-value.value-index _ c.loop-value.new.items c.hand_value.new.new.items c.loop-value-test.true c.in_ok-hand_value.ensures c.loop-value.invariant

pub returns : goal.returns
returns c = all_handed c.args.handed.now (reverse c.args.handed.now) c.args.values.now c.loop-value.value-index c.loop-value.new.items (omega arith) c.loop-value.invariant
