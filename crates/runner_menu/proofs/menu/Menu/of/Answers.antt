use Rattle.std.proofs.Common.{length, ap, ◌∙◌}
use Rattle.app_machine.specs.declared.lists.Lists.{Lists}
use Rattle.runner_menu.proofs.menu.Menu.of.Goals as goal

pub returns : goal.returns
returns c classes handed = record {
  tables = c.in_ok-tables.ensures;
  handed = c.in_ok-handed.ensures.fits c.args.app.now c.args.lists.now classes handed (c.callback_count.ensures ∙ ap (λ (lists : Lists). length lists.callbacks) c.requires.of_lists);
}
