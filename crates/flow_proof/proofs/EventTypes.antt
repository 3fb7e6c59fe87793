-- The types of an event's parameters are those of the body that begins.
use Rattle.std.proofs.Common.{◌≡◌, ℕ, Option, Some, refl, ap, sym, ◌∙◌}
use Rattle.std.specs.Prelude.{List, slice_get}
use Rattle.std.proofs.lemmas.Option.{same_Some}
use Rattle.app_machine.specs.declared.method.Method.{Method}
use Rattle.app_machine.specs.declared.lists.Lists.{Lists}
use Rattle.app_machine.specs.declared.app.App.{App}
use Rattle.app_machine.specs.Names.{Name}
use Rattle.app_machine.specs.LifeEvents.{LifeEvent}
use Rattle.app_machine.specs.Events.{LifeEventAt, CallbackAt, ClickAt, HandedAt}
use Rattle.fact_rows.specs.declared.context.Ctx.TheVariants as ctx
use Rattle.fact_rows.specs.Contexts.{types_of, event_types}
use Rattle.flow_proof.proofs.Sounding.{body_proto}

-- the types of the parameters of a body that was found
found_types : (app : App) {o : Option ℕ} {body : ℕ} {m : Method} → o ≡ Some body → slice_get app.methods body ≡ Some m →
    types_of app o ≡ m.at.proto.params
found_types app found there = rw found (rw (types_of, there) refl)

pub life_types : {app : App} (lists : Lists) {c e body : ℕ} {class : Name} {life : LifeEvent} → LifeEventAt app c e class life (Some body) →
    (m : Method) → slice_get app.methods body ≡ Some m → event_types app lists (ctx.Row c e) ≡ m.at.proto.params
unfolding event_types
life_types {app} lists {c} {e} at m there = found_types app (rw at.there.there (rw at.is_event.there (rw at.of_class at.is_body))) there

pub callback_types_of : {app : App} (lists : Lists) {c q body : ℕ} {sources : List (ℕ × ℕ)} → CallbackAt app lists c q sources body →
    (m : Method) → slice_get app.methods body ≡ Some m → event_types app lists (ctx.Callback c q) ≡ m.at.proto.params
unfolding event_types
callback_types_of {app} lists {c} {q} at m there = found_types app (rw at.there.there (rw at.is_row.there at.is_body)) there

pub click_types : {app : App} (lists : Lists) {c i body : ℕ} → ClickAt app c i body →
    (m : Method) → slice_get app.methods body ≡ Some m → event_types app lists (ctx.Click c i) ≡ m.at.proto.params
unfolding event_types
click_types {app} lists {c} {i} at m there = found_types app (rw at.there.there (rw at.is_click.there at.is_body)) there

pub handed_types : {app : App} (lists : Lists) {q body : ℕ} {class : Name} {sources : List (ℕ × ℕ)} → HandedAt app lists q class sources body →
    (m : Method) → slice_get app.methods body ≡ Some m → event_types app lists (ctx.Handed q) ≡ m.at.proto.params
unfolding event_types
handed_types {app} lists {q} {body} {class} at m there =
    let has_proto = body_proto app class at.callback.name at.callback.proto body at.is_body in
    let same : has_proto.method ≡ m = same_Some _ _ (sym has_proto.there ∙ there) in
    rw at.is_row.there (ap (λ p. p.params) (sym has_proto.is_proto ∙ ap (λ (x : Method). x.at.proto) same))
