use Rattle.std.specs.Prelude.{fold}
use Rattle.link_hierarchy.proofs.FoldsOn.{FoldsOnto}
use Rattle.link_code.proofs.Units.{with_units}
use Rattle.link_code.proofs.coded.count_units.Given as goal

abbrev pub invariant-loop-entry : goal.invariant-loop-entry
invariant-loop-entry l = FoldsOnto (with_units l.dexes) l.entries l.entry-index l.units (fold (with_units l.dexes) 0 l.entries)
