use Rattle.std.proofs.Common.{◌∙◌}
use Rattle.register_readers.proofs.Asking.{argument_more}
use Rattle.register_readers.proofs.finding.ask_arguments.Goals as goal

pub loop-i-preserved : goal.loop-i-preserved
loop-i-preserved c = record {
  free = c.in_ok-ask.ensures.free;
  right = c.in_ok-ask.ensures.right;
  asks = argument_more c.args.found.now c.loop-i.found c.ask.new.found c.args.first c.loop-i.i c.loop-i.invariant.asks c.in_ok-ask.ensures.asks;
  counted = c.in_ok-ask.ensures.counted ∙ c.loop-i.invariant.counted;
}
