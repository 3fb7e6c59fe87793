use Rattle.std.proofs.Common.{◌≡◌, map}
use Rattle.outcomes.specs.Spots.{finding_at}
use Rattle.outcomes.proofs.findings.findings_from.Given as goal

abbrev pub invariant-loop-source : goal.invariant-loop-source
invariant-loop-source l = l.findings.items ≡ map (finding_at l.app) l.yielded
