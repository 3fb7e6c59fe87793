use Rattle.std.proofs.Common.{◌≡◌, ◌+◌, ◌*◌, take}
use Rattle.dex_code.specs.Listed.{listed_by_all}
use Rattle.dex_code.proofs.listed.check_listed.Given as goal

abbrev pub invariant-loop-line : goal.invariant-loop-line
invariant-loop-line l = l.left + listed_by_all l.lines (take l.line-index l.lines) ≡ 4 * l.units
