use Rattle.std.proofs.Common.{ap, ◌∙◌}
use Rattle.runner_world.proofs.Setting.{push_state, states_in}
use Rattle.runner_world.proofs.lives.Lives.push_absent.Goals as goal

pub returns-clause-kept : goal.returns-clause-kept
returns-clause-kept c = ap (λ xs. states_in xs) c.in_ok-push.ensures.items ∙ push_state c.args.self.now.items.items c.absent.result c.absent.ensures
