use Rattle.std.proofs.Common.{sym, ap, ◌∙◌}
use Rattle.runner_begin.specs.Events.{lives_by}
use Rattle.runner_begin.proofs.beginning.set_life.Goals as goal
use Rattle.runner_world.specs.Shown.{life_at}

pub returns-in-Keeps : goal.returns-in-Keeps
returns-in-Keeps c = ap (lives_by (life_at c.args.lives.now)) (sym c.in-Keeps.is)

pub returns-in_ok-set-in-Sets : goal.returns-in_ok-set-in-Sets
returns-in_ok-set-in-Sets c = c.in_ok-set-in-Sets.ensures.ok ∙ ap (lives_by (life_at c.args.lives.now)) (sym c.in-Sets.is)

pub returns-in_ok-set-in-Makes : goal.returns-in_ok-set-in-Makes
returns-in_ok-set-in-Makes c = c.in_ok-set-in-Makes.ensures.ok ∙ ap (lives_by (life_at c.args.lives.now)) (sym c.in-Makes.is)
