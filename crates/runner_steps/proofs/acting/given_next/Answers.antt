use Rattle.std.proofs.Common.{ap, ◌∙◌}
use Rattle.played_machine.specs.Drawing.{one_of}
use Rattle.runner_state.specs.Shown.{value_of}
use Rattle.runner_steps.proofs.Acts.{next_none, next_some}
use Rattle.runner_steps.proofs.acting.given_next.Goals as goal

pub returns-in-None : goal.returns-in-None
returns-in-None c = next_none c.args.step.now.next (value_of c.args.read) c.args.script.left.now (c.in-None.ensures ∙ ap (λ xs. one_of xs c.args.script.left.now) c.as_slice.ensures)

pub returns-in-Some : goal.returns-in-Some
returns-in-Some c =
    next_some c.args.step.now.next (value_of c.args.read) c.args.script.left.now c.in-Some.pc c.in-Some.left.left.now (c.in-Some.ensures ∙ ap (λ xs. one_of xs c.args.script.left.now) c.as_slice.ensures)
