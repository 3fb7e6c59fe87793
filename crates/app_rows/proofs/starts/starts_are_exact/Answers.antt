use Rattle.app_rows.proofs.Starting.{starts_exact}
use Rattle.app_rows.proofs.starts.starts_are_exact.Goals as goal

pub returns : goal.returns
returns c = starts_exact
