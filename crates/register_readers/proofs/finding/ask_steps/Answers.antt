use Rattle.std.proofs.Common.{◌∙◌}
use Rattle.register_readers.proofs.Asking.{steps_more}
use Rattle.register_readers.proofs.finding.ask_steps.Goals as goal

pub loop-step-preserved : goal.loop-step-preserved
loop-step-preserved c = record {
  free = c.in_ok-ask_step.ensures.free;
  right = c.in_ok-ask_step.ensures.right;
  asks = steps_more c.args.found.now c.loop-step.found c.ask_step.new.found c.args.steps.now c.loop-step.step-index c.step-item.result c.loop-step-test.true c.step-item.is c.loop-step.invariant.asks c.in_ok-ask_step.ensures.asks;
  counted = c.in_ok-ask_step.ensures.counted ∙ c.loop-step.invariant.counted;
}
