use Rattle.std.proofs.Common.{◌≡◌, length}
use Rattle.app_machine.specs.Sound.{name_order}
use Rattle.app_model.specs.DescriptorText.{later_parts, text_left}
use Rattle.app_model.proofs.lookups.descriptor.compare_texts.Given as goal

abbrev pub invariant-loop-left : goal.invariant-loop-left
invariant-loop-left l = name_order (text_left l.fn.a) (text_left l.fn.b) ≡ name_order (text_left l.a) (text_left l.b)

abbrev pub decreases-loop-left : goal.decreases-loop-left
decreases-loop-left l = length (later_parts l.b.later)
