-- The law is proved over definitions alone.
use Rattle.flow_proof.proofs.Staying.{rules_stay_in_app}
use Rattle.flow_proof.proofs.rules_stay_in_app.Goals as goal

pub returns : goal.returns
returns c = rules_stay_in_app c.paths_keep_their_laws.ensures
