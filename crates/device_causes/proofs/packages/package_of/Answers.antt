use Rattle.device_causes.proofs.Slashes.{none_found}
use Rattle.device_causes.proofs.packages.package_of.Goals as goal

pub returns-then-class-end-eq47 : goal.returns-then-class-end-eq47
returns-then-class-end-eq47 c = none_found c.args.class.now c.loop-end.end c.loop-end-test.true c.loop-end.invariant c.if-class-end-eq47.true
