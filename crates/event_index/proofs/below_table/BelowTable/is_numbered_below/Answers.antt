use Rattle.std.proofs.Common.{◌≡◌, Some, slice_get, sym, ap, subst, ◌∙◌}
use Rattle.event_index.specs.Kinds.{IsColumn}
use Rattle.event_index.proofs.Asking.{is_class_below_by_row}
use Rattle.event_index.proofs.Pushed.{item_there}
use Rattle.event_index.proofs.below_table.BelowTable.is_numbered_below.Goals as goal

pub returns-in-Some-Some : goal.returns-in-Some-Some
returns-in-Some-Some c =
    let there : slice_get c.deref.result.now c.args.number ≡ Some c.in-Some-Some.field-0.now = item_there c.deref.result.now c.args.number c.in-Some-Some.field-0.now c.in-Some-Some.ensures.lookup.0 c.in-Some-Some.ensures.lookup.1 in
    c.has.ensures
    ∙ is_class_below_by_row c.args.self.now.app.now c.args.self.now.listed c.args.self.now.rows.items c.args.number c.args.class.now c.in-Some-Some.row c.args.kind.now c.in-Number.column
    c.requires.table.rows c.requires.there (ap (λ rows. slice_get rows c.args.number) (sym c.deref.ensures.value) ∙ (there ∙ ap (λ o. Some o) c.in-Some-Some.field-0-is))
    (subst (IsColumn c.args.self.now.listed.kinds c.args.kind.now) c.in-Number.is c.requires.column)
