use Rattle.outcomes.proofs.NothingLeftOut.{each_is_found, each_is_named}
use Rattle.outcomes.proofs.nothing_is_left_out.Goals as goal

pub returns-clause-findings : goal.returns-clause-findings
returns-clause-findings c = each_is_found

pub returns-clause-causes : goal.returns-clause-causes
returns-clause-causes c = each_is_named
