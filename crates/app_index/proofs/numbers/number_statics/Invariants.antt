use Rattle.std.proofs.Common.{◌≤◌, length}
use Rattle.app_index.specs.contracts.keys.FieldKeyPartialEq.TheImpl.{ghosts as key_eq}
use Rattle.app_index.specs.Numbers.{is_field_of}
use Rattle.app_index.proofs.Numbering.{HasFrom}
use Rattle.app_index.proofs.numbers.number_statics.Given as goal

abbrev pub invariant-loop-left : goal.invariant-loop-left
invariant-loop-left l = (l.left ≤ length l.rows) × HasFrom key_eq.eq is_field_of l.numbers l.left l.rows

abbrev pub decreases-loop-left : goal.decreases-loop-left
decreases-loop-left l = l.left
