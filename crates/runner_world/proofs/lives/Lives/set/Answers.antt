use Rattle.std.proofs.Common.{ap, ◌∙◌, arith}
use Rattle.app_machine.specs.Events.{set_component}
use Rattle.runner_world.specs.Shown.{state_of}
use Rattle.runner_world.proofs.Setting.{set_state}
use Rattle.runner_world.proofs.lives.Lives.set.Goals as goal

pub returns-clause-ok : goal.returns-clause-ok
returns-clause-ok c = set_state c.grow.new.self.items.items c.args.component c.args.life (omega (arith, c.in_ok-grow.ensures.room)) ∙ ap (λ vs. set_component vs c.args.component (state_of c.args.life)) c.grow.ensures.kept
