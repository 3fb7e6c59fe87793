use Rattle.std.proofs.Common.{◌∙◌}
use Rattle.device_causes.proofs.Told.{as_told}
use Rattle.device_causes.proofs.hidden.told_of.Goals as goal

pub returns-in-Some : goal.returns-in-Some
returns-in-Some c =
    c.as_slice.ensures
    ∙ as_told c.args.app.now c.args.access.now.entries c.args.told.now c.args.class.now c.in-Some.methods.now c.requires.own c.in-Some.ensures.value c.requires.told
