use Rattle.form_texts.specs.Said.{manifest_of}
use Rattle.verdict.proofs.Halting.{of_layouts}
use Rattle.verdict.proofs.papers.layouts_of.Goals as goal

pub returns-in-Err-clause-err : goal.returns-in-Err-clause-err
returns-in-Err-clause-err c = of_layouts c.lower_laws.ensures c.args.parts.now (manifest_of c.args.manifest.now) c.in-Err.fault c.halt_of.result c.requires (rw c.as_slice.ensures at c.in-Err.ensures.err) c.halt_of.ensures
