use Rattle.device_causes.proofs.Told.{none_told}
use Rattle.device_causes.proofs.hidden.told_downward.Goals as goal

pub loop-i-init : goal.loop-i-init
loop-i-init c = record { path = c.requires.path; told = none_told c.args.app.now c.args.access.now.entries c.new-told.result c.new-told.ensures.empty }
