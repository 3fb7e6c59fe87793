use Rattle.std.proofs.Common.{◌≡◌, drop}
use Rattle.dex_maker.specs.Naming.{with_methods}
use Rattle.dex_maker.proofs.naming.name_methods.Given as goal

abbrev pub invariant-loop-method : goal.invariant-loop-method
invariant-loop-method l = with_methods l.tables l.class (drop l.method-index l.methods) ≡ with_methods l.fn.tables l.class l.methods
