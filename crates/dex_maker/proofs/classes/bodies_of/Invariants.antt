use Rattle.std.proofs.Common.{◌≡◌, ◌++◌, ◌+◌, drop}
use Rattle.dex_maker.specs.Classes.{bodies_from}
use Rattle.dex_maker.proofs.classes.bodies_of.Given as goal

abbrev pub invariant-loop-method : goal.invariant-loop-method
invariant-loop-method l = record {
  index_is : l.index ≡ l.first + l.method-index;
  bodies_to_come : l.bodies.items ++ bodies_from l.tables l.directs l.index (drop l.method-index l.methods) ≡ bodies_from l.tables l.directs l.first l.methods;
}
