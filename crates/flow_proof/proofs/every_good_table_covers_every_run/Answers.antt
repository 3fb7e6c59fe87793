-- The theorem is proved over definitions alone.
use Rattle.flow_proof.proofs.Covering.{every_good_table_covers_every_run}
use Rattle.flow_proof.proofs.every_good_table_covers_every_run.Goals as goal

pub returns : goal.returns
returns c = every_good_table_covers_every_run c.paths_keep_their_laws.ensures
