use Rattle.std.proofs.Common.{ap, ◌∙◌}
use Rattle.played_machine.specs.Coming.{lets_begin}
use Rattle.runner_choices.proofs.Exact.{first_lets}
use Rattle.runner_choices.proofs.beginning.may_begin.Goals as goal
use Rattle.runner_world.specs.World.{world_in}

pub returns : goal.returns
returns c = c.first_lets_begin.ensures ∙ (ap (lets_begin (world_in c.args.world.now) c.args.component 0) c.get.ensures ∙ first_lets c.args.app.now (world_in c.args.world.now) c.args.component c.requires)
