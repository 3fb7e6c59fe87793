use Rattle.std.proofs.Common.{◌≡◌, drop}
use Rattle.dex_maker.specs.Naming.{with_classes}
use Rattle.dex_maker.proofs.naming.name_classes.Given as goal

abbrev pub invariant-loop-class : goal.invariant-loop-class
invariant-loop-class l = with_classes l.tables (drop l.class-index l.classes) ≡ with_classes l.fn.tables l.classes
