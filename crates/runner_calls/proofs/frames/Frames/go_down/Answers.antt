use Rattle.std.proofs.Common.{length, ap, arith, ◌∙◌}
use Rattle.runner_calls.proofs.Stacking.{down_all, down_one, fewer_left, not_above}
use Rattle.runner_calls.proofs.frames.Frames.go_down.Goals as goal
use Rattle.runner_calls.specs.Landing.{down_to}

pub loop-self-preserved : goal.loop-self-preserved
loop-self-preserved c =
    ap (down_to c.args.below) c.leave.ensures ∙ (down_one c.args.below c.loop-self.self.called.items (c.is_above.ensures.0 c.loop-self-test.true) ∙ c.loop-self.invariant)

pub loop-self-smaller : goal.loop-self-smaller
loop-self-smaller c = fewer_left c.loop-self.self.called.items c.leave.new.self.called.items c.leave.ensures (omega (arith, c.is_above.ensures.0 c.loop-self-test.true))

pub returns : goal.returns
returns c =
    down_all c.args.below c.loop-self.self.called.items (not_above (length c.loop-self.self.called.items) c.args.below c.is_above.result c.is_above.ensures c.loop-self-test.false) ∙ c.loop-self.invariant
