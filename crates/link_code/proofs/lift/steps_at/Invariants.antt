use Rattle.std.proofs.Common.{length}
use Rattle.link_code.proofs.Steps.{Lifts}
use Rattle.link_code.proofs.lift.steps_at.Given as goal

abbrev pub invariant-loop-i : goal.invariant-loop-i
invariant-loop-i l = Lifts l.scope.app.now l.scope.fields.now.entries l.scope.statics.now l.scope.dex.now l.tries l.lines (length l.yielded) l.steps.items
