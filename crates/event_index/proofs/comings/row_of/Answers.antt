use Rattle.std.proofs.Common.{sym, ◌∙◌}
use Rattle.event_index.proofs.Listing.{body_comes, none_comes}
use Rattle.event_index.proofs.comings.row_of.Goals as goal

pub returns-then-is_class_below-clause-some : goal.returns-then-is_class_below-clause-some
returns-then-is_class_below-clause-some c =
    body_comes c.args.table.now.app.now c.args.table.now.listed.lists.now c.args.place.class.now.name c.args.row c.in_ok-callback.callback.now
    (sym c.in_ok-callback.ensures) (sym c.is_class_below.ensures ∙ c.if-is_class_below.true)

pub returns-else-is_class_below-clause-none : goal.returns-else-is_class_below-clause-none
returns-else-is_class_below-clause-none c =
    none_comes c.args.table.now.app.now c.args.table.now.listed.lists.now c.args.place.class.now.name c.args.row c.in_ok-callback.callback.now
    (sym c.in_ok-callback.ensures) (sym c.is_class_below.ensures ∙ c.if-is_class_below.false)
