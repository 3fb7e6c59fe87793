use Rattle.runner_handed.proofs.Stays.{still_fits}
use Rattle.runner_handed.proofs.menus_stay.Goals as goal

pub returns : goal.returns
returns c = still_fits
