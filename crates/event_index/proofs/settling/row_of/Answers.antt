use Rattle.std.proofs.Common.{subst}
use Rattle.app_model.specs.Above.{is_class_below}
use Rattle.event_index.specs.Settled.{AddsIf}
use Rattle.event_index.proofs.AboveRows.{has_filled}
use Rattle.event_index.proofs.settling.row_of.Goals as goal

pub returns-then-fill : goal.returns-then-fill
returns-then-fill c =
    let app = c.args.app.now in
    let listed = c.args.listed.now in
    let name = c.args.class.now.name in
    has_filled app listed (is_class_below app listed.lists.now name) c.in_ok-row.row c.fill.new.row c.in_ok-row.ensures
    (subst (AddsIf listed.kinds c.in_ok-row.row c.fill.new.row (is_class_below app listed.lists.now name)) c.if-fill.true c.fill.ensures)
