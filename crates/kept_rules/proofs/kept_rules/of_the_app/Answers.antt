use Rattle.kept_rules.proofs.OfApp.{is_the_apps_kept}
use Rattle.kept_rules.proofs.kept_rules.of_the_app.Goals as goal

pub returns : goal.returns
returns c = is_the_apps_kept
