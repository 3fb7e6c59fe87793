use Rattle.std.proofs.Common.{sym, ◌∙◌}
use Rattle.app_machine.specs.Names.{joined}
use Rattle.app_model.specs.DescriptorText.{later_parts}
use Rattle.app_model.proofs.Descriptors.{above_empty}
use Rattle.app_model.proofs.lookups.descriptor.compare_end.Goals as goal

pub returns : goal.returns
returns c = rw c.loop-text.invariant (sym (above_empty c.loop-text.text.part.now (joined (later_parts c.loop-text.text.later)) (sym c.is_empty.ensures ∙ c.loop-text-test.false)))
