use Rattle.std.proofs.Common.{◌∙◌}
use Rattle.register_readers.proofs.Asking.{at_more}
use Rattle.register_readers.proofs.finding.ask_at.Goals as goal

pub loop-pc-preserved : goal.loop-pc-preserved
loop-pc-preserved c = record {
  free = c.in_ok-ask.ensures.free;
  right = c.in_ok-ask.ensures.right;
  asks = at_more c.args.found.now c.loop-pc.found c.ask.new.found c.args.register c.args.pcs.now c.loop-pc.pc-index c.loop-pc-test.true c.loop-pc.invariant.asks c.in_ok-ask.ensures.asks;
  counted = c.in_ok-ask.ensures.counted ∙ c.loop-pc.invariant.counted;
}
