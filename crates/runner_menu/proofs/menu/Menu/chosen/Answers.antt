use Rattle.std.proofs.Common.{ap}
use Rattle.played_machine.specs.Drawing.{given}
use Rattle.runner_menu.proofs.menu.Menu.chosen.Goals as goal

pub returns-in-None : goal.returns-in-None
returns-in-None c = ap (λ o. given o c.args.left.left.now) c.in-None.ensures

pub returns-in-Some : goal.returns-in-Some
returns-in-Some c = ap (λ o. given o c.args.left.left.now) c.in-Some.ensures
