use Rattle.access_path.proofs.PathLaws.{path_laws}
use Rattle.access_path.proofs.paths_keep_their_laws.Goals as goal

pub returns : goal.returns
returns c = path_laws
