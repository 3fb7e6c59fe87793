use Rattle.std.proofs.Common.{◌≡◌, sym, ap, subst, ◌∙◌, Some, slice_get}
use Rattle.app_machine.specs.declared.app.App.{App}
use Rattle.app_machine.specs.declared.lists.Lists.{Lists}
use Rattle.event_index.specs.Comings.{IsComing}
use Rattle.event_index.proofs.Listing.{is_coming}
use Rattle.event_index.proofs.Pushed.{item_there}
use Rattle.event_index.proofs.event_index.EventIndex.comings_at.Goals as goal

pub returns-in-Some-Some : goal.returns-in-Some-Some
returns-in-Some-Some c =
    let there : slice_get c.deref.result.now c.args.number ≡ Some c.in-Some-Some.field-0.now = item_there c.deref.result.now c.args.number c.in-Some-Some.field-0.now c.in-Some-Some.ensures.lookup.0 c.in-Some-Some.ensures.lookup.1 in
    subst (λ (v : App × Lists). IsComing v.0 v.1 c.args.number c.as_slice.result.now) c.self.view_is
    (is_coming c.self.inside.table.app.now c.self.inside.table.listed.lists.now c.self.inside.comings.items c.args.number c.in-Some-Some.comings c.as_slice.result.now c.self.invariant.comings
    (ap (λ all. slice_get all c.args.number) (sym c.deref.ensures.value) ∙ (there ∙ ap (λ o. Some o) c.in-Some-Some.field-0-is)) c.as_slice.ensures.value)
