use Rattle.std.proofs.Common.{rules, ◌≡◌, true, false, sym, ◌∙◌, ap}
use Rattle.std.proofs.lemmas.Fn.{always_returns_same}
use Rattle.app_machine.specs.declared.method.Method.{Method}
use Rattle.app_machine.specs.Names.{same_proto, descriptor_of}
use Rattle.app_machine.specs.Lookups.{method_of}
use Rattle.app_machine.specs.Sound.{field_order}
use Rattle.app_model.specs.Search.{method_key}
use Rattle.app_model.proofs.Methods.{method_there, method_differs, method_missing}
use Rattle.app_model.proofs.lookups.methods.method_of.Goals as goal

pub returns-in-Err : goal.returns-in-Err
unfolding method_of
returns-in-Err c =
    let position = c.in-Err.ensures.position (λ (m : Method). field_order (method_key m) (c.args.class.now, c.args.name.now, descriptor_of c.args.proto.now)) (always_returns_same _ _ _ (λ a r g k. search rules)) in
    rw (← c.as_slice-methods.ensures) (sym (method_missing c.args.class.now c.args.name.now c.as_slice-methods.result.now (rw c.as_slice-methods.ensures c.requires.methods) c.in-Err.field-0 c.args.proto.now c.in-Err.ensures.bound position))

pub returns-then-is_same_proto : goal.returns-then-is_same_proto
unfolding method_of
returns-then-is_same_proto c =
    let position = c.in-Ok.ensures.position (λ (m : Method). field_order (method_key m) (c.args.class.now, c.args.name.now, descriptor_of c.args.proto.now)) (always_returns_same _ _ _ (λ a r g k. search rules)) in
    let same : same_proto c.index-methods-i.result.at.proto c.args.proto.now ≡ true = ap (λ (m : Method). same_proto m.at.proto c.args.proto.now) c.index-methods-i.is ∙ (sym c.is_same_proto.ensures ∙ c.if-is_same_proto.true) in
    rw (← c.as_slice-methods.ensures) (sym (method_there c.args.class.now c.args.name.now c.as_slice-methods.result.now (rw c.as_slice-methods.ensures c.requires.methods) c.in-Ok.i c.args.proto.now c.index-methods-i.result
    c.in-Ok.ensures.bound c.index-methods-i.is (position c.index-methods-i.result) same))

pub returns-else-is_same_proto : goal.returns-else-is_same_proto
unfolding method_of
returns-else-is_same_proto c =
    let position = c.in-Ok.ensures.position (λ (m : Method). field_order (method_key m) (c.args.class.now, c.args.name.now, descriptor_of c.args.proto.now)) (always_returns_same _ _ _ (λ a r g k. search rules)) in
    let differs : same_proto c.index-methods-i.result.at.proto c.args.proto.now ≡ false = ap (λ (m : Method). same_proto m.at.proto c.args.proto.now) c.index-methods-i.is ∙ (sym c.is_same_proto.ensures ∙ c.if-is_same_proto.false) in
    rw (← c.as_slice-methods.ensures) (sym (method_differs c.args.class.now c.args.name.now c.as_slice-methods.result.now (rw c.as_slice-methods.ensures c.requires.methods) c.in-Ok.i c.args.proto.now c.index-methods-i.result
    c.in-Ok.ensures.bound c.index-methods-i.is (position c.index-methods-i.result) differs))
