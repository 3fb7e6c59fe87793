use Rattle.std.proofs.Common.{◌∙◌, ap, Some}
use Rattle.client_form.specs.Form.{is_known}
use Rattle.client_form.proofs.Keys.{next_known, next_unknown}
use Rattle.client_form.proofs.fields.least_unknown.Goals as goal

pub returns-then-not-is_known : goal.returns-then-not-is_known
returns-then-not-is_known c =
    let is = c.is_known.ensures ∙ ap is_known c.as_str.ensures.value in
    ap Some c.as_str-then-not-is_known.ensures.value
    ∙ (next_unknown c.in-Some.key.now c.in-Some.field-0-1.now c.loop-key.key-iterator c.next.new.self c.is_known.result c.in-Some.ensures.steps is c.if-not-is_known.true ∙ c.loop-key.invariant)

pub loop-key-preserved : goal.loop-key-preserved
loop-key-preserved c =
    let is = c.is_known.ensures ∙ ap is_known c.as_str.ensures.value in
    next_known c.in-Some.key.now c.in-Some.field-0-1.now c.loop-key.key-iterator c.next.new.self c.is_known.result c.in-Some.ensures.steps is c.if-not-is_known.false ∙ c.loop-key.invariant
