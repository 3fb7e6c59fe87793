use Rattle.runner_handed.proofs.Stays.{still_fits}
use Rattle.runner_menu.proofs.menus_stay.Goals as goal

pub returns : goal.returns
returns c app lists classes new handed more menu fits = record { tables = fits.tables; handed = still_fits app lists classes new handed more menu.handed fits.handed }
