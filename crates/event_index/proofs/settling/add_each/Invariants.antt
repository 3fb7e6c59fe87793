use Rattle.std.proofs.Common.{take, true}
use Rattle.event_index.specs.Settled.{AddsIf, any_below}
use Rattle.event_index.proofs.settling.add_each.Given as goal

abbrev pub invariant-loop-name : goal.invariant-loop-name
invariant-loop-name l = AddsIf l.listed.kinds l.fn.row l.row (any_below l.app l.listed.lists.now (take l.name-index l.names)) true
