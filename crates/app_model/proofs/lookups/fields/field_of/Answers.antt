use Rattle.std.proofs.Common.{rules, sym, subst, Err}
use Rattle.std.specs.List.Sorted.{IsBinarySearchResult}
use Rattle.std.proofs.lemmas.Fn.{always_returns_same}
use Rattle.app_machine.specs.declared.app.Key.{Key}
use Rattle.app_machine.specs.Sound.{field_order}
use Rattle.app_model.specs.Search.{field_key}
use Rattle.app_model.proofs.Fields.{field_there, field_missing}
use Rattle.app_model.proofs.lookups.fields.field_of.Goals as goal

pub returns-in-Ok : goal.returns-in-Ok
returns-in-Ok c =
    let position = c.in-Ok.ensures.position (λ (k : Key). field_order (field_key k) (c.args.class.now, c.args.name.now, c.args.kind.now)) (always_returns_same _ _ _ (λ a r g k. search rules)) in
    sym (field_there c.args.class.now c.args.name.now c.args.kind.now c.args.app.now.keys c.requires.fields c.requires.keys c.requires.fields_order c.in-Ok.i (rw (← c.field_keys-fields.ensures) c.in-Ok.ensures.bound) (rw (← c.field_keys-fields.ensures) position))

pub returns-in-Err : goal.returns-in-Err
returns-in-Err c =
    let position = c.in-Err.ensures.position (λ (k : Key). field_order (field_key k) (c.args.class.now, c.args.name.now, c.args.kind.now)) (always_returns_same _ _ _ (λ a r g k. search rules)) in
    sym (field_missing c.args.class.now c.args.name.now c.args.kind.now c.args.app.now.keys c.requires.fields c.requires.keys c.requires.fields_order c.in-Err.field-0 (rw (← c.field_keys-fields.ensures) c.in-Err.ensures.bound)
    (subst (λ ks. IsBinarySearchResult (λ (k : Key). field_order (field_key k) (c.args.class.now, c.args.name.now, c.args.kind.now)) ks (Err c.in-Err.field-0)) c.field_keys-fields.ensures position))
