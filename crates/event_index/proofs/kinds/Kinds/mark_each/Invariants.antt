use Rattle.std.proofs.Common.{take}
use Rattle.app_model.specs.Above.{is_among}
use Rattle.event_index.specs.Kinds.{Adds}
use Rattle.event_index.proofs.kinds.Kinds.mark_each.Given as goal

abbrev pub invariant-loop-name : goal.invariant-loop-name
invariant-loop-name l = Adds l.self l.fn.row l.row (is_among (take l.name-index l.names))
