use Rattle.link_hierarchy.proofs.Stuck.{no_circle}
use Rattle.link_hierarchy.proofs.filled.filled_classes.Goals as goal

pub returns-clause-no_circle : goal.returns-clause-no_circle
returns-clause-no_circle c = no_circle _ _ c.requires
