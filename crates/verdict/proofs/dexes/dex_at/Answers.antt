use Rattle.verdict.proofs.Halting.{of_dex}
use Rattle.verdict.proofs.dexes.dex_at.Goals as goal

pub returns-in-Err-clause-err : goal.returns-in-Err-clause-err
returns-in-Err-clause-err c =
    of_dex c.lower_laws.ensures c.args.parts.now c.args.papers.now c.args.before.now c.args.i c.at-file.result.now c.in-Err.fault c.halt_of.result c.requires.papers c.requires.before c.requires.within c.at-file.ensures
    (rw c.as_slice.ensures at c.in-Err.ensures.fault) c.halt_of.ensures
