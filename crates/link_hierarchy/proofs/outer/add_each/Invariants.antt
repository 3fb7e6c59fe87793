use Rattle.std.specs.Prelude.{fold, flat_map}
use Rattle.link_hierarchy.specs.Hierarchy.{SameNames, add_once}
use Rattle.link_hierarchy.specs.Settled.{gives}
use Rattle.link_hierarchy.proofs.FoldsOn.{FoldsEach}
use Rattle.link_hierarchy.proofs.outer.add_each.Given as goal

abbrev pub invariant-loop-interface : goal.invariant-loop-interface
invariant-loop-interface l = record {
  same : SameNames l.seen.keys l.outer.items;
  folds : FoldsEach add_once (gives l.classes.entries l.outers.entries) l.interfaces l.interface-index l.outer.items (fold add_once l.initial.outer.items (flat_map (gives l.classes.entries l.outers.entries) l.interfaces));
}
