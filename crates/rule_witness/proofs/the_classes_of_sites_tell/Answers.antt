use Rattle.rule_witness.proofs.Withheld.{sites_tell}
use Rattle.rule_witness.proofs.the_classes_of_sites_tell.Goals as goal

pub returns : goal.returns
returns c = sites_tell
