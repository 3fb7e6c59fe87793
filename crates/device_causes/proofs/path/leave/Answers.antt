use Rattle.device_causes.specs.Path.{known_in, taken_back}
use Rattle.device_causes.proofs.Paths.{back_goes_on}
use Rattle.device_causes.proofs.path.leave.Goals as goal

pub loop-change-preserved : goal.loop-change-preserved
loop-change-preserved c =
    back_goes_on c.loop-change.undo.items c.pop.new.self.items c.in-Some.change.0 c.in-Some.change.1 (known_in c.loop-change.known) (known_in c.put_back.new.known) (taken_back c.args.undo.items (known_in c.args.known.now))
    c.in-Some.ensures.items c.in_ok-put_back.ensures c.loop-change.invariant
