use Rattle.std.proofs.Common.{[]}
use Rattle.std.specs.Prelude.{fold, flat_map}
use Rattle.std.specs.BTreeSet.{insert_key}
use Rattle.link_listing.specs.Orders.{triple_order}
use Rattle.link_code.specs.StaticList.{statics_in_method}
use Rattle.link_hierarchy.proofs.FoldsOn.{FoldsEach}
use Rattle.link_code.proofs.static_list.set_of.Given as goal

abbrev pub invariant-loop-method : goal.invariant-loop-method
invariant-loop-method l = FoldsEach (insert_key triple_order) (statics_in_method l.app l.fields.entries l.dexes) l.coded l.method-index l.statics.keys
    (fold (insert_key triple_order) [] (flat_map (statics_in_method l.app l.fields.entries l.dexes) l.coded))
