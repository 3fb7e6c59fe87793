use Rattle.std.proofs.Common.{◌≡◌, ◌++◌, ◌-◌}
use Rattle.made_apps.specs.Code.{calls_from, main_lines}
use Rattle.made_apps.proofs.lines.main_lines.Given as goal

abbrev pub invariant-loop-i : goal.invariant-loop-i
invariant-loop-i l = l.lines.items ++ calls_from (l.size - l.i) l.i ≡ main_lines l.size
