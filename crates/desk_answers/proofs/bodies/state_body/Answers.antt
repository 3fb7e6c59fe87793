use Rattle.std.proofs.Common.{◌∙◌}
use Rattle.desk_answers.proofs.Adding.{printed}
use Rattle.desk_answers.proofs.Printed.{state_printed}
use Rattle.desk_answers.proofs.bodies.state_body.Goals as goal

pub returns : goal.returns
returns c =
    printed _ _ c.new-body.result _ _ (c.new-body.ensures.before ∙ c.new.ensures.items) c.new-body.ensures.tokens
    c.in_ok-put_state.ensures c.into_inner.ensures.items (state_printed c.args.reference.now c.args.state)
