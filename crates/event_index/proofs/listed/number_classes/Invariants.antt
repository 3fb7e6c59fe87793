use Rattle.std.proofs.Common.{◌≤◌, length}
use Rattle.app_index.proofs.Numbering.{HasFrom}
use Rattle.event_index.specs.contracts.keys.NameKeyPartialEq.TheImpl.{ghosts as key_eq}
use Rattle.event_index.specs.Listed.{is_named}
use Rattle.event_index.proofs.listed.number_classes.Given as goal

abbrev pub invariant-loop-left : goal.invariant-loop-left
invariant-loop-left l = (l.left ≤ length l.classes) × HasFrom key_eq.eq is_named l.numbers l.left l.classes

abbrev pub decreases-loop-left : goal.decreases-loop-left
decreases-loop-left l = l.left
