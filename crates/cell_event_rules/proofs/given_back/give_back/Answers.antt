use Rattle.std.proofs.Common.{sym, ap, ◌∙◌}
use Rattle.std.specs.List.{slice_get}
use Rattle.std.specs.Option.{option_copied}
use Rattle.app_machine.specs.declared.app.App.{App}
use Rattle.begin_rules.specs.Fits.{fits}
use Rattle.cell_event_rules.proofs.given_back.give_back.Goals as goal

pub to_indices-requires-clause-there : goal.to_indices-requires-clause-there
to_indices-requires-clause-there g c =
    ap (λ (app : App). slice_get app.methods c.args.with.now.by.method) (sym c.app.ensures) ∙ (sym c.get.ensures ∙ ap (λ o. option_copied o) c.in-Some.is)

pub to_indices-requires-clause-fits : goal.to_indices-requires-clause-fits
to_indices-requires-clause-fits g c =
    let same = ap (λ (app : App). slice_get app.methods c.args.with.now.by.method) (sym c.app.ensures) in
    fits c.args.with.now.taker.now.0 c.args.with.now.by.method c.in-Some.method.now c.requires (same ∙ (sym c.get.ensures ∙ ap (λ o. option_copied o) c.in-Some.is)) c.if-method.false
