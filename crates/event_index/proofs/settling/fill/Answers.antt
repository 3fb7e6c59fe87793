use Rattle.std.proofs.Common.{true, subst}
use Rattle.app_model.specs.Above.{is_listed_below}
use Rattle.event_index.specs.Kinds.{Adds}
use Rattle.event_index.specs.Settled.{AddsIf, any_below}
use Rattle.event_index.proofs.AboveRows.{class_adds}
use Rattle.event_index.proofs.settling.fill.Goals as goal

pub returns : goal.returns
returns c =
    let listed = c.args.listed.now in
    class_adds c.args.app.now listed c.args.class.now c.as_slice.result.now c.as_slice-2.result.now c.args.row.now c.add.new.row c.add_each.new.row c.add_each-2.new.row c.add_each-2.result
    c.requires.listed (c.events_are_exact.ensures c.args.app.now listed.lists.now c.requires.sound) c.requires.there c.as_slice.ensures c.as_slice-2.ensures
    (subst (λ n. Adds listed.kinds c.args.row.now c.add.new.row (is_listed_below listed.lists.now n)) c.as_bytes.ensures c.add.ensures)
    (subst (AddsIf listed.kinds c.add.new.row c.add_each.new.row (any_below c.args.app.now listed.lists.now c.as_slice.result.now)) c.if-not-add_each.false c.add_each.ensures)
    c.add_each-2.ensures
