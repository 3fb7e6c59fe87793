use Rattle.runner_below.proofs.Looked.{none_seen}
use Rattle.runner_below.proofs.below.Below.new.Goals as goal

pub returns-clause-fits : goal.returns-clause-fits
returns-clause-fits c app lists classes handed = none_seen app lists c.args.kind.now classes handed
