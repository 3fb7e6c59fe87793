use Rattle.runner_below.proofs.Numbered.{none_kept}
use Rattle.runner_below.proofs.belows.Belows.new.Goals as goal

pub returns : goal.returns
returns c app lists classes handed = none_kept app lists classes handed c.new.result.items c.new.ensures.items
