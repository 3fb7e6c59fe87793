use Rattle.runner_steps.proofs.Went.{on_none, on_some}
use Rattle.runner_steps.proofs.library.goes_on.Goals as goal

pub returns-in-None : goal.returns-in-None
returns-in-None c = on_none c.args.next.now c.args.script.left.now c.in-None.ensures

pub returns-in-Some : goal.returns-in-Some
returns-in-Some c = on_some c.args.next.now c.args.script.left.now c.in-Some.pc c.in-Some.left.left.now c.in-Some.ensures
