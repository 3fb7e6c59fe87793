use Rattle.std.proofs.Common.{◌∙◌}
use Rattle.desk_answers.proofs.Adding.{wrote, and_then, printed}
use Rattle.desk_answers.proofs.Printed.{lines_printed}
use Rattle.desk_answers.proofs.lines.lines_body.Goals as goal

pub returns : goal.returns
returns c =
    printed _ _ c.new-body.result _ _ (c.new-body.ensures.before ∙ c.new.ensures.items) c.new-body.ensures.tokens
    (and_then
    (and_then
    (and_then (and_then (wrote c.in_ok-begin_object.ensures) (wrote c.in_ok-key.ensures))
    (wrote c.in_ok-begin_array.ensures))
    c.in_ok-put_lines.ensures)
    (and_then (wrote c.in_ok-end_array.ensures) (wrote c.in_ok-end_object.ensures)))
    c.into_inner.ensures.items
    (lines_printed c.args.role c.args.lines.now)
