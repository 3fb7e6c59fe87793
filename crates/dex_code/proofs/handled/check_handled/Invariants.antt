use Rattle.std.proofs.Common.{◌≡◌, ◌+◌, ◌*◌, take}
use Rattle.dex_code.specs.Handled.{handled_by_all}
use Rattle.dex_code.proofs.handled.check_handled.Given as goal

abbrev pub invariant-loop-item : goal.invariant-loop-item
invariant-loop-item l = l.left + handled_by_all l.lines (take l.item-index l.tries) ≡ 16 * l.units
