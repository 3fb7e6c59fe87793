use Rattle.std.proofs.Common.{◌≡◌, ◌++◌, take, drop}
use Rattle.std.specs.List.{sum_by}
use Rattle.dex_maker.specs.Lines.{width_of, starts_from}
use Rattle.dex_maker.proofs.widths.starts_of.Given as goal

abbrev pub invariant-loop-line : goal.invariant-loop-line
invariant-loop-line l = record {
  at_is : l.at ≡ sum_by width_of (take l.line-index l.lines);
  starts_to_come : l.starts.items ++ starts_from l.at (drop l.line-index l.lines) ≡ starts_from 0 l.lines;
}
