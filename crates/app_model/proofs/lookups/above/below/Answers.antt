use Rattle.app_model.proofs.ArrayRelation.{below_exactly}
use Rattle.app_model.proofs.lookups.above.below.Goals as goal

pub returns-clause-exact : goal.returns-clause-exact
returns-clause-exact c = below_exactly c.args.app.now c.args.lists.now c.requires.no_circle c.args.class.now c.args.kind.now c.is_below.result c.is_below.ensures
