use Rattle.std.proofs.Common.{◌+◌, length}
use Rattle.app_model.specs.DescriptorText.{later_parts, text_left, BeginAlike}
use Rattle.app_model.proofs.lookups.descriptor.after.Given as goal

abbrev pub invariant-loop-front : goal.invariant-loop-front
invariant-loop-front l = BeginAlike (text_left l.fn.text) l.fn.front (text_left l.text) l.front

abbrev pub decreases-loop-front : goal.decreases-loop-front
decreases-loop-front l = length l.front + length (later_parts l.text.later)
