use Rattle.std.proofs.Common.{◌≡◌, ◌+◌, drop}
use Rattle.dex_maker.specs.Fits.{misfit_in}
use Rattle.dex_maker.proofs.fits.misfit_in.Given as goal

abbrev pub invariant-loop-method : goal.invariant-loop-method
invariant-loop-method l = record {
  number_is : l.number ≡ l.first + l.method-index;
  rest : misfit_in l.number (drop l.method-index l.methods) ≡ misfit_in l.first l.methods;
}
