use Rattle.std.proofs.Common.{◌≡◌, length}
use Rattle.device_causes.specs.Path.{Signature, known_in, taken_back}
use Rattle.device_causes.proofs.path.leave.Given as goal

abbrev pub invariant-loop-change : goal.invariant-loop-change
invariant-loop-change l = (q : Signature) → taken_back l.undo.items (known_in l.known) q ≡ taken_back l.fn.undo.items (known_in l.fn.known) q

abbrev pub decreases-loop-change : goal.decreases-loop-change
decreases-loop-change l = length l.undo.items
