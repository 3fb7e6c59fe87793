use Rattle.std.proofs.Common.{◌≡◌, drop}
use Rattle.dex_maker.specs.Naming.{with_all_bodies}
use Rattle.dex_maker.proofs.naming.name_all_bodies.Given as goal

abbrev pub invariant-loop-class : goal.invariant-loop-class
invariant-loop-class l = with_all_bodies l.tables (drop l.class-index l.classes) ≡ with_all_bodies l.fn.tables l.classes
