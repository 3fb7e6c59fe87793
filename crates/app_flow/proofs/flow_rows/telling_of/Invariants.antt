use Rattle.std.proofs.Common.{◌≡◌, filter, take}
use Rattle.app_flow.specs.InOrder.{in_order, tells}
use Rattle.app_flow.proofs.flow_rows.telling_of.Given as goal

abbrev pub invariant-loop-row : goal.invariant-loop-row
invariant-loop-row l = l.set.keys ≡ in_order (filter tells (take l.row-index l.rows))
