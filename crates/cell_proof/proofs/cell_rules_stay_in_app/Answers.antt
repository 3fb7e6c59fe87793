-- The law is proved over definitions alone.
use Rattle.cell_proof.proofs.Staying.{cell_rules_stay_in_app}
use Rattle.cell_proof.proofs.cell_rules_stay_in_app.Goals as goal

pub returns : goal.returns
returns c = cell_rules_stay_in_app
