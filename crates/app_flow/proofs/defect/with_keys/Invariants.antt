use Rattle.std.proofs.Common.{take}
use Rattle.app_flow.specs.Defect.{SameRows}
use Rattle.app_flow.proofs.defect.with_keys.Given as goal

abbrev pub invariant-loop-row : goal.invariant-loop-row
invariant-loop-row l = SameRows l.keyed (take l.row-index l.rows)
