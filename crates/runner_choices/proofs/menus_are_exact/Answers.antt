use Rattle.runner_choices.proofs.Exact.{menu_is}
use Rattle.runner_choices.proofs.menus_are_exact.Goals as goal

pub returns : goal.returns
returns c = menu_is
