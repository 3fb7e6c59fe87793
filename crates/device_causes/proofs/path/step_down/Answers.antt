use Rattle.device_causes.specs.Path.{known_in}
use Rattle.device_causes.proofs.Standing.{stepped}
use Rattle.device_causes.proofs.path.step_down.Goals as goal

pub returns : goal.returns
returns c =
    stepped c.args.app.now c.args.access.now.entries c.args.class.now c.methods_of.result.now c.args.path.now.steps.items c.push.new.self.items (known_in c.args.path.now.known) (known_in c.enter.new.known) _
    c.in_ok-push.ensures.items c.in_ok-name.ensures c.methods_of.ensures c.in_ok-undo.ensures
