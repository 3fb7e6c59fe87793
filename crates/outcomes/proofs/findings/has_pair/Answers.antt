use Rattle.std.proofs.Common.{◌∙◌}
use Rattle.outcomes.proofs.Pairs.{contains_pair}
use Rattle.outcomes.proofs.findings.has_pair.Goals as goal

pub returns : goal.returns
returns c = c.contains.ensures ∙ contains_pair c.args.pairs.now.keys c.args.pair.now
