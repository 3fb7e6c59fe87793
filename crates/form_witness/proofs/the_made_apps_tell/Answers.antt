use Rattle.form_witness.proofs.Telling.{made_apps_tell}
use Rattle.form_witness.proofs.the_made_apps_tell.Goals as goal

pub returns : goal.returns
returns c = made_apps_tell
