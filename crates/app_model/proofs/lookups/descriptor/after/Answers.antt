use Rattle.std.proofs.Common.{sym, ◌∙◌, ◌++◌, arith}
use Rattle.app_machine.specs.Names.{joined}
use Rattle.app_model.specs.DescriptorText.{later_parts, text_left}
use Rattle.app_model.proofs.Descriptors.{no_text, ends_first, differs_on, alike_further, alike_part}
use Rattle.app_model.proofs.lookups.descriptor.after.Goals as goal

pub returns-in-None-clause-differ : goal.returns-in-None-clause-differ
returns-in-None-clause-differ c =
    let nothing = no_text c.loop-front.text.part.now (later_parts c.loop-front.text.later) (sym c.is_empty-in-loop-front.ensures ∙ c.if-is_empty.true) c.in-None.ensures in
    λ more. ends_first (text_left c.args.text) c.args.front.now (text_left c.loop-front.text) c.loop-front.front.now more c.loop-front.invariant nothing (grind arith)

pub loop-front-preserved : goal.loop-front-preserved
loop-front-preserved c =
    alike_further (text_left c.args.text) c.args.front.now (text_left c.loop-front.text) c.loop-front.front.now (c.in-Ok.part.now ++ joined (later_parts c.loop-front.text.later)) c.in-Ok.left.now c.loop-front.invariant
    (alike_part c.loop-front.text.part.now c.loop-front.front.now c.in-Ok.part.now c.in-Ok.left.now (joined (later_parts c.loop-front.text.later)) c.in-Ok.ensures.alike)

pub returns-in-Err-clause-differ : goal.returns-in-Err-clause-differ
returns-in-Err-clause-differ c =
    λ more. differs_on (text_left c.args.text) c.args.front.now c.loop-front.text.part.now (joined (later_parts c.loop-front.text.later)) c.loop-front.front.now c.in-Err.order more c.loop-front.invariant c.in-Err.ensures.differ
