use Rattle.device_causes.specs.Path.{known_in}
use Rattle.device_causes.proofs.Paths.{enter_begins}
use Rattle.device_causes.proofs.path.enter.Goals as goal

pub loop-method-init : goal.loop-method-init
loop-method-init c = enter_begins c.args.class.now (known_in c.args.known.now) c.new-undo.result.items c.new-undo.ensures.items
