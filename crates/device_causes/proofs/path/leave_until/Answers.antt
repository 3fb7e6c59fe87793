use Rattle.std.proofs.Common.{◌≡◌, length, arith}
use Rattle.std.proofs.lemmas.Bool.Decides.{nat_tests}
use Rattle.device_causes.proofs.Standing.{on_ground}
use Rattle.device_causes.proofs.path.leave_until.Goals as goal

pub returns : goal.returns
returns c =
    let none : length c.steps.path.steps.items ≡ 0 = grind (arith, nat_tests) in
    on_ground c.args.app.now c.args.access.now.entries c.steps.path none c.steps.invariant
