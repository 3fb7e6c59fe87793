use Rattle.std.proofs.Common.{sym, ◌∙◌}
use Rattle.dex_reader.proofs.WalkRest.{rest_is_done}
use Rattle.dex_reader.proofs.classes.classes_of.Goals as goal

pub returns : goal.returns
returns c = rw c.from_vec.ensures (rest_is_done _ _ _ _ _ (sym c.loop-row.invariant.len ∙ c.in-None.ensures.steps.0) c.loop-row.invariant.rest)
