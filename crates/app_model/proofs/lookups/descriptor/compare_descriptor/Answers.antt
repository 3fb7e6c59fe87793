use Rattle.std.proofs.Common.{sym, ◌∙◌, [], append-nil}
use Rattle.app_model.specs.DescriptorText.{text_left}
use Rattle.app_model.proofs.Descriptors.{front_end}
use Rattle.app_model.proofs.lookups.descriptor.compare_descriptor.Goals as goal

pub returns-in-Ok : goal.returns-in-Ok
returns-in-Ok c = rw (← c.text_of.ensures) (c.compare_end.ensures ∙ sym (front_end (text_left c.text_of.result) c.args.text.now (text_left c.in-Ok.left) c.in-Ok.ensures.alike))

pub returns-in-Err : goal.returns-in-Err
returns-in-Err c = rw (← c.text_of.ensures) (sym (rw append-nil at (c.in-Err.ensures.differ [])))
