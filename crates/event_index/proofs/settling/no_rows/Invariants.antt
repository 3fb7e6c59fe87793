use Rattle.event_index.specs.Settled.{AreNone}
use Rattle.event_index.proofs.settling.no_rows.Given as goal

abbrev pub invariant-loop-class : goal.invariant-loop-class
invariant-loop-class l = AreNone l.rows.items
