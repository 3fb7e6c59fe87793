use Rattle.std.proofs.Common.{arith}
use Rattle.std.proofs.lemmas.Grind.{common_steps}
use Rattle.std.proofs.lemmas.List.Elements.{filter_map-append}
use Rattle.outcomes.specs.Spots.{undeclared_in}
use Rattle.outcomes.proofs.findings.undeclared_in.Goals as goal

pub loop-row-preserved : goal.loop-row-preserved
unfolding undeclared_in
loop-row-preserved c = grind (arith, common_steps, filter_map-append)
