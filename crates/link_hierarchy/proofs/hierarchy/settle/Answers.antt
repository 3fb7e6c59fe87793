use Rattle.std.proofs.Common.{cond, List, Some, sym, ◌∙◌, ap}
use Rattle.std.specs.BTreeMap.{is_at}
use Rattle.app_machine.specs.Names.{Name}
use Rattle.app_machine.specs.Sound.{name_order}
use Rattle.link_listing.specs.Orders.{named}
use Rattle.link_hierarchy.proofs.Settling.{settles}
use Rattle.link_hierarchy.proofs.hierarchy.settle.Goals as goal

pub returns : goal.returns
returns c = settles _ c.args.outers.entries c.in_ok-outers.outers.entries c.args.name.now c.in-Some.class.now
    (λ q. c.in_ok-outers.ensures q ∙ (ap (λ (n : Name). cond (is_at (name_order n) q) (Some c.in_ok-outer.outer) (named c.args.outers.entries q)) c.in_ok-copy.ensures ∙ ap (λ (o : List Name). cond (is_at (name_order c.args.name.now) q) (Some o) (named c.args.outers.entries q)) c.in_ok-outer.ensures))
    (sym c.holds_outer.ensures ∙ c.if-holds_outer.false)
    (sym c.in-Some.ensures)
    (sym c.may_settle.ensures ∙ c.if-not-may_settle.false)
    c.requires
