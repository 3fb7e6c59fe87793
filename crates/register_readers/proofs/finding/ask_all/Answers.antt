use Rattle.std.proofs.Common.{◌∙◌}
use Rattle.register_readers.proofs.Asking.{of_more}
use Rattle.register_readers.proofs.finding.ask_all.Goals as goal

pub loop-register-preserved : goal.loop-register-preserved
loop-register-preserved c = record {
  free = c.in_ok-ask_at.ensures.free;
  right = c.in_ok-ask_at.ensures.right;
  asks = of_more c.args.found.now c.loop-register.found c.ask_at.new.found c.args.registers.now c.args.pcs.now c.loop-register.register-index c.loop-register-test.true c.loop-register.invariant.asks c.in_ok-ask_at.ensures.asks;
  counted = c.in_ok-ask_at.ensures.counted ∙ c.loop-register.invariant.counted;
}
