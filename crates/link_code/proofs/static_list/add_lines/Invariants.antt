use Rattle.std.specs.Prelude.{fold, flat_map}
use Rattle.std.specs.BTreeSet.{insert_key}
use Rattle.link_listing.specs.Orders.{triple_order}
use Rattle.link_code.specs.StaticList.{static_in_line}
use Rattle.link_hierarchy.proofs.FoldsOn.{FoldsEach}
use Rattle.link_code.proofs.static_list.add_lines.Given as goal

abbrev pub invariant-loop-line : goal.invariant-loop-line
invariant-loop-line l = FoldsEach (insert_key triple_order) (static_in_line l.app l.fields.entries l.dex) l.lines l.line-index l.statics.keys
    (fold (insert_key triple_order) l.fn.statics.keys (flat_map (static_in_line l.app l.fields.entries l.dex) l.lines))
