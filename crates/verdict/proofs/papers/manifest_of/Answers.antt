use Rattle.std.proofs.Common.{rules}
use Rattle.form_texts.specs.Said.{manifest_of}
use Rattle.verdict.proofs.Halting.{of_count}
use Rattle.verdict.proofs.papers.manifest_of.Goals as goal

pub returns-then-count-len-clause-err : goal.returns-then-count-len-clause-err
returns-then-count-len-clause-err c = of_count c.lower_laws.ensures c.args.parts.now (manifest_of c.in_ok-manifest.manifest) c.in_ok-key.key c.in_ok-manifest.ensures.ok (search rules) (search rules)
