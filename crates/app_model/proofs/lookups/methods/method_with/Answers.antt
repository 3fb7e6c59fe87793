use Rattle.std.proofs.Common.{rules, sym}
use Rattle.std.proofs.lemmas.Fn.{always_returns_same}
use Rattle.app_machine.specs.declared.method.Method.{Method}
use Rattle.app_machine.specs.Lookups.{method_with}
use Rattle.app_machine.specs.Sound.{field_order}
use Rattle.app_model.specs.Search.{method_key}
use Rattle.app_model.proofs.Methods.{text_there, text_missing}
use Rattle.app_model.proofs.lookups.methods.method_with.Goals as goal

pub returns-in-Ok : goal.returns-in-Ok
unfolding method_with
returns-in-Ok c =
    let position = c.in-Ok.ensures.position (λ (m : Method). field_order (method_key m) (c.args.class.now, c.args.name.now, c.args.descriptor.now)) (always_returns_same _ _ _ (λ a r g k. search rules)) in
    rw (← c.as_slice-methods.ensures) (sym (text_there c.args.class.now c.args.name.now c.as_slice-methods.result.now (rw c.as_slice-methods.ensures c.requires.methods) c.in-Ok.i c.args.descriptor.now c.in-Ok.ensures.bound position))

pub returns-in-Err : goal.returns-in-Err
unfolding method_with
returns-in-Err c =
    let position = c.in-Err.ensures.position (λ (m : Method). field_order (method_key m) (c.args.class.now, c.args.name.now, c.args.descriptor.now)) (always_returns_same _ _ _ (λ a r g k. search rules)) in
    rw (← c.as_slice-methods.ensures) (sym (text_missing c.args.class.now c.args.name.now c.as_slice-methods.result.now (rw c.as_slice-methods.ensures c.requires.methods) c.in-Err.field-0 c.args.descriptor.now c.in-Err.ensures.bound position))
