use Rattle.std.proofs.Common.{◌≤◌, length}
use Rattle.app_index.specs.contracts.keys.ClassKeyPartialEq.TheImpl.{ghosts as key_eq}
use Rattle.app_index.specs.Numbers.{has_default}
use Rattle.app_index.proofs.Numbering.{HasFrom}
use Rattle.app_index.proofs.numbers.number_defaults.Given as goal

abbrev pub invariant-loop-left : goal.invariant-loop-left
invariant-loop-left l = (l.left ≤ length l.classes) × HasFrom key_eq.eq has_default l.numbers l.left l.classes

abbrev pub decreases-loop-left : goal.decreases-loop-left
decreases-loop-left l = l.left
