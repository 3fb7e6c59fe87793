use Rattle.register_readers.proofs.Counting.{are_few}
use Rattle.register_readers.proofs.register_readers.RegisterReaders.of.Goals as goal

pub returns-clause-few : goal.returns-clause-few
returns-clause-few c = are_few c.args.app.now c.in_ok-methods.methods.items c.in_ok-methods.ensures
