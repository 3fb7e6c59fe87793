use Rattle.std.proofs.Common.{◌∙◌}
use Rattle.desk_answers.proofs.Adding.{wrote, and_then, printed}
use Rattle.desk_answers.proofs.Printed.{ruled_printed}
use Rattle.desk_answers.proofs.bodies.ruled_body.Goals as goal

pub returns : goal.returns
returns c =
    printed _ _ c.new-body.result _ _ (c.new-body.ensures.before ∙ c.new.ensures.items) c.new-body.ensures.tokens
    (and_then
    (and_then
    (and_then (and_then (wrote c.in_ok-begin_object.ensures) c.in_ok-put_text.ensures)
    c.in_ok-put_text-2.ensures)
    (rw c.ruling_word.ensures at c.in_ok-put_word.ensures))
    (wrote c.in_ok-end_object.ensures))
    c.into_inner.ensures.items
    (ruled_printed c.args.developer.now c.args.reference.now c.args.ruling)
