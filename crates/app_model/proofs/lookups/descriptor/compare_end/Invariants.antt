use Rattle.std.proofs.Common.{◌≡◌, length}
use Rattle.app_model.specs.DescriptorText.{later_parts, text_left}
use Rattle.app_model.proofs.lookups.descriptor.compare_end.Given as goal

abbrev pub invariant-loop-text : goal.invariant-loop-text
invariant-loop-text l = text_left l.fn.text ≡ text_left l.text

abbrev pub decreases-loop-text : goal.decreases-loop-text
decreases-loop-text l = length (later_parts l.text.later)
