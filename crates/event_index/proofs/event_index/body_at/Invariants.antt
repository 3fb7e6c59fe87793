use Rattle.app_index.proofs.First.{NothingBefore}
use Rattle.event_index.specs.Comings.{body_if}
use Rattle.event_index.proofs.event_index.body_at.Given as goal

abbrev pub invariant-loop-coming : goal.invariant-loop-coming
invariant-loop-coming l = NothingBefore (body_if l.row) l.comings l.coming-index
