use Rattle.std.proofs.Common.{true, refl}
use Rattle.runner_handed.proofs.Rows.{fits_new}
use Rattle.runner_handed.proofs.menu.HandedMenu.new.Goals as goal

pub returns-clause-fits : goal.returns-clause-fits
returns-clause-fits c app lists classes handed is = fits_new app lists classes handed (record { rows = c.in_ok-rows.rows; seen = 0; whole = true }) c.args.count c.in_ok-rows.ensures refl is
