use Rattle.std.proofs.Common.{◌≡◌, ◌++◌, take, drop}
use Rattle.std.specs.List.{sum_by}
use Rattle.dex_maker.specs.Lines.{width_of}
use Rattle.dex_maker.specs.Codes.{units_from}
use Rattle.dex_maker.proofs.codes.units_of.Given as goal

abbrev pub invariant-loop-line : goal.invariant-loop-line
invariant-loop-line l = record {
  at_is : l.at ≡ sum_by width_of (take l.line-index l.lines);
  units_to_come : l.units.items ++ units_from l.tables l.starts l.at (drop l.line-index l.lines) ≡ units_from l.tables l.starts 0 l.lines;
}
