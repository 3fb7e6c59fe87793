use Rattle.std.proofs.Common.{◌≡◌, drop}
use Rattle.dex_maker.specs.Naming.{with_bodies}
use Rattle.dex_maker.proofs.naming.name_bodies.Given as goal

abbrev pub invariant-loop-method : goal.invariant-loop-method
invariant-loop-method l = with_bodies l.tables (drop l.method-index l.methods) ≡ with_bodies l.fn.tables l.methods
