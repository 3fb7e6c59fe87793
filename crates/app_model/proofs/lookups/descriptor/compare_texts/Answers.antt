use Rattle.std.proofs.Common.{sym, ◌∙◌}
use Rattle.app_model.specs.DescriptorText.{later_parts, text_left}
use Rattle.app_model.proofs.Descriptors.{front_next, front_last}
use Rattle.app_model.proofs.lookups.descriptor.compare_texts.Goals as goal

pub loop-left-preserved : goal.loop-left-preserved
loop-left-preserved c =
    c.loop-left.invariant ∙ front_next (text_left c.loop-left.a) c.loop-left.b.part.now (text_left c.in-Ok.left) c.in-Some.next.part.now (later_parts c.loop-left.b.later) (later_parts c.in-Some.next.later) c.in-Ok.ensures.alike c.in-Some.ensures

pub returns-in-None : goal.returns-in-None
returns-in-None c =
    c.compare_end.ensures ∙ sym (c.loop-left.invariant ∙ front_last (text_left c.loop-left.a) c.loop-left.b.part.now (text_left c.in-Ok.left) (later_parts c.loop-left.b.later) c.in-Ok.ensures.alike c.in-None.ensures)
