use Rattle.std.proofs.Common.{take}
use Rattle.app_model.specs.Marks.{is_marked}
use Rattle.app_model.specs.Met.{Adds}
use Rattle.app_model.proofs.lookups.above.add_each.Given as goal

abbrev pub invariant-loop-name : goal.invariant-loop-name
invariant-loop-name l = Adds l.app (take l.name-index l.names) (is_marked l.fn.seen.words) (is_marked l.fn.waiting.words) (is_marked l.seen.words) (is_marked l.waiting.words)
