use Rattle.std.proofs.Common.{ap, ◌∙◌}
use Rattle.runner_state.proofs.Writing.{push_value, values_in}
use Rattle.runner_state.proofs.values.Values.push_blank.Goals as goal

pub returns-clause-kept : goal.returns-clause-kept
returns-clause-kept c = ap (λ xs. values_in xs) c.in_ok-push.ensures.items ∙ push_value c.args.self.now.items.items c.blank.result c.blank.ensures
