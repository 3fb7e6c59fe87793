use Rattle.std.proofs.Common.{ap, ◌∙◌, arith}
use Rattle.app_machine.specs.State.{write}
use Rattle.runner_state.specs.Shown.{value_of}
use Rattle.runner_state.proofs.Writing.{set_value}
use Rattle.runner_state.proofs.values.Values.set.Goals as goal

pub returns-clause-ok : goal.returns-clause-ok
returns-clause-ok c = set_value c.grow.new.self.items.items c.args.number c.args.value (omega (arith, c.in_ok-grow.ensures.room)) ∙ ap (λ vs. write vs c.args.number (value_of c.args.value)) c.grow.ensures.kept
