use Rattle.std.proofs.Common.{◌≡◌, drop}
use Rattle.dex_maker.specs.Naming.{with_lines}
use Rattle.dex_maker.proofs.naming.name_lines.Given as goal

abbrev pub invariant-loop-line : goal.invariant-loop-line
invariant-loop-line l = with_lines l.tables (drop l.line-index l.lines) ≡ with_lines l.fn.tables l.lines
