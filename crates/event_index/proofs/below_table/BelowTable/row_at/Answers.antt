use Rattle.std.proofs.Common.{◌≡◌, Some, slice_get, sym, ap, ◌∙◌}
use Rattle.event_index.proofs.Pushed.{item_there}
use Rattle.event_index.proofs.Takers.{row_of_class}
use Rattle.event_index.proofs.below_table.BelowTable.row_at.Goals as goal

pub returns-in-Some-Some : goal.returns-in-Some-Some
returns-in-Some-Some c =
    let there : slice_get c.deref.result.now c.args.number ≡ Some c.in-Some-Some.field-0.now = item_there c.deref.result.now c.args.number c.in-Some-Some.field-0.now c.in-Some-Some.ensures.lookup.0 c.in-Some-Some.ensures.lookup.1 in
    row_of_class c.args.self.now c.args.number c.args.class.now c.in-Some-Some.row
    c.requires.table c.requires.there c.requires.within (ap (λ rows. slice_get rows c.args.number) (sym c.deref.ensures.value) ∙ (there ∙ ap (λ o. Some o) c.in-Some-Some.field-0-is))
