use Rattle.std.proofs.Common.{◌≡◌, take, drop, length}
use Rattle.std.specs.List.{sum_by}
use Rattle.dex_maker.specs.Lines.{width_of}
use Rattle.dex_maker.specs.Fits.{misfit_from}
use Rattle.dex_maker.proofs.fits.misfit_of.Given as goal

abbrev pub invariant-loop-line : goal.invariant-loop-line
invariant-loop-line l = record {
  at_is : l.at ≡ sum_by width_of (take l.line-index l.lines);
  number_is : l.number ≡ l.line-index;
  rest : misfit_from (length l.lines) l.starts l.at l.number (drop l.line-index l.lines) ≡ misfit_from (length l.lines) l.starts 0 0 l.lines;
}
