use Rattle.std.proofs.Common.{rules, ◌≡◌, true, false, sym, ◌∙◌, ap}
use Rattle.std.proofs.lemmas.Fn.{always_returns_same}
use Rattle.app_machine.specs.declared.method.Method.{Method}
use Rattle.app_machine.specs.Names.{same_proto, descriptor_of, initialiser_name, initialiser_proto}
use Rattle.app_machine.specs.Lookups.{initialiser_of, method_of}
use Rattle.app_machine.specs.Sound.{field_order}
use Rattle.app_model.specs.Search.{method_key}
use Rattle.app_model.proofs.Methods.{method_there, method_differs, method_missing}
use Rattle.app_model.proofs.lookups.methods.initialiser_of.Goals as goal

pub returns-in-Err : goal.returns-in-Err
unfolding initialiser_of method_of
returns-in-Err c =
    let position = c.in-Err.ensures.position (λ (m : Method). field_order (method_key m) (c.args.class.now, initialiser_name, descriptor_of initialiser_proto)) (always_returns_same _ _ _ (λ a r g k. rw (← c.initialiser_name-name.ensures, ← c.initialiser_descriptor-descriptor.ensures) (search rules))) in
    rw (← c.as_slice-methods.ensures) (sym (method_missing c.args.class.now initialiser_name c.as_slice-methods.result.now (rw c.as_slice-methods.ensures c.requires.methods) c.in-Err.field-0 initialiser_proto c.in-Err.ensures.bound position))

pub returns-then-takes_nothing : goal.returns-then-takes_nothing
unfolding initialiser_of method_of
returns-then-takes_nothing c =
    let position = c.in-Ok.ensures.position (λ (m : Method). field_order (method_key m) (c.args.class.now, initialiser_name, descriptor_of initialiser_proto)) (always_returns_same _ _ _ (λ a r g k. rw (← c.initialiser_name-name.ensures, ← c.initialiser_descriptor-descriptor.ensures) (search rules))) in
    let same : same_proto c.index-methods-i.result.at.proto initialiser_proto ≡ true = ap (λ (m : Method). same_proto m.at.proto initialiser_proto) c.index-methods-i.is ∙ (sym c.takes_nothing.ensures ∙ c.if-takes_nothing.true) in
    rw (← c.as_slice-methods.ensures) (sym (method_there c.args.class.now initialiser_name c.as_slice-methods.result.now (rw c.as_slice-methods.ensures c.requires.methods) c.in-Ok.i initialiser_proto c.index-methods-i.result
    c.in-Ok.ensures.bound c.index-methods-i.is (position c.index-methods-i.result) same))

pub returns-else-takes_nothing : goal.returns-else-takes_nothing
unfolding initialiser_of method_of
returns-else-takes_nothing c =
    let position = c.in-Ok.ensures.position (λ (m : Method). field_order (method_key m) (c.args.class.now, initialiser_name, descriptor_of initialiser_proto)) (always_returns_same _ _ _ (λ a r g k. rw (← c.initialiser_name-name.ensures, ← c.initialiser_descriptor-descriptor.ensures) (search rules))) in
    let differs : same_proto c.index-methods-i.result.at.proto initialiser_proto ≡ false = ap (λ (m : Method). same_proto m.at.proto initialiser_proto) c.index-methods-i.is ∙ (sym c.takes_nothing.ensures ∙ c.if-takes_nothing.false) in
    rw (← c.as_slice-methods.ensures) (sym (method_differs c.args.class.now initialiser_name c.as_slice-methods.result.now (rw c.as_slice-methods.ensures c.requires.methods) c.in-Ok.i initialiser_proto c.index-methods-i.result
    c.in-Ok.ensures.bound c.index-methods-i.is (position c.index-methods-i.result) differs))
