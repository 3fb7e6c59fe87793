use Rattle.runner_below.proofs.Staying.{stay}
use Rattle.runner_below.proofs.belows.belows_stay.Goals as goal

pub returns : goal.returns
returns c = stay
