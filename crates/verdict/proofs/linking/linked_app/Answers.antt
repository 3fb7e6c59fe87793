use Rattle.verdict.proofs.Halting.{of_link, only_linked}
use Rattle.verdict.proofs.linking.linked_app.Goals as goal

pub returns-in-Ok-clause-only : goal.returns-in-Ok-clause-only
returns-in-Ok-clause-only c = only_linked c.args.dexes.now c.args.papers.now.manifest c.args.papers.now.layouts c.in-Ok.app (rw c.get.ensures at c.in-Ok.ensures.one)

pub returns-in-Err-clause-err : goal.returns-in-Err-clause-err
returns-in-Err-clause-err c =
    of_link c.lower_laws.ensures c.args.parts.now c.args.papers.now c.args.dexes.now c.in-Err.fault c.halt_of.result c.requires.papers c.requires.files (rw c.get.ensures at c.in-Err.ensures.fault) c.halt_of.ensures
