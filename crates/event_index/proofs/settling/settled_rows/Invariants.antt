use Rattle.event_index.specs.Settled.{AreSettled}
use Rattle.event_index.proofs.settling.settled_rows.Given as goal

abbrev pub invariant-loop-number : goal.invariant-loop-number
invariant-loop-number l = AreSettled l.app l.listed l.rows.items
