use Rattle.std.proofs.Common.{◌≡◌, ◌+◌, take}
use Rattle.std.specs.List.{sum_by}
use Rattle.dex_maker.specs.Lines.{width_of}
use Rattle.dex_maker.proofs.limits.after_lines.Given as goal

abbrev pub invariant-loop-line : goal.invariant-loop-line
invariant-loop-line l = l.left + sum_by width_of (take l.line-index l.lines) ≡ l.budget
