use Rattle.std.proofs.Common.{reverse}
use Rattle.runner_given.proofs.Since.{AreHanded}
use Rattle.runner_given.proofs.others.handed_since.Given as goal

abbrev pub invariant-loop-value : goal.invariant-loop-value
invariant-loop-value l = AreHanded l.handed (reverse l.handed) l.values l.value-index l.new.items
