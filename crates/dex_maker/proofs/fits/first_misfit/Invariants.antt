use Rattle.std.proofs.Common.{◌≡◌, ◌≤◌, drop, take}
use Rattle.std.specs.List.{sum_by}
use Rattle.dex_maker.specs.Classes.{member_count}
use Rattle.dex_maker.specs.Fits.{first_misfit}
use Rattle.dex_maker.proofs.fits.first_misfit.Given as goal

abbrev pub invariant-loop-class : goal.invariant-loop-class
invariant-loop-class l = record {
  number_below : l.number ≤ sum_by member_count (take l.class-index l.classes);
  rest : first_misfit l.number (drop l.class-index l.classes) ≡ first_misfit 0 l.classes;
}
