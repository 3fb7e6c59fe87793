use Rattle.register_readers.proofs.Indexing.{indexed_native}
use Rattle.register_readers.proofs.finding.found_in_native.Goals as goal

pub returns-clause-found : goal.returns-clause-found
returns-clause-found c = indexed_native c.args.app.now c.args.number c.args.method.now c.new.result c.requires.app c.requires.there c.requires.native c.new.ensures.empty
