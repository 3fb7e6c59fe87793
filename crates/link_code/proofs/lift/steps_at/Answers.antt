use Rattle.std.proofs.Common.{◌≡◌, ◌≤◌, ◌+◌, ◌-◌, ◌++◌, ◌∙◌, ap, length, take, drop, length-drop, arith}
use Rattle.std.proofs.lemmas.Iterator.Adapters.{YieldsList-from_vec}
use Rattle.std.proofs.lemmas.Iterator.Consumers.{YieldsList-from_enumerate, YieldsList-turn, YieldsList-end}
use Rattle.std.proofs.lemmas.List.{take_all}
use Rattle.link_code.proofs.Steps.{turn_lifts, end_lifts}
use Rattle.link_code.proofs.lift.steps_at.Goals as goal

pub loop-i-preserved : goal.loop-i-preserved
loop-i-preserved c =
    let turn = YieldsList-turn {s = c.into_iter-i-iterator.result} (YieldsList-from_enumerate (YieldsList-from_vec c.in_ok-catches_of_lines.field-0.items (cc) (cc)) (cc)) c.loop-i.yielded c.loop-i.i-iterator c.loop-i.yielded_by _ c.next.new.self (c.in-Some.i, c.in-Some.catches) c.in-Some.is c.next.ensures.steps in
    let short : length (drop (c.in-Some.i + 1) c.args.lines.now) ≤ length c.args.lines.now - (c.in-Some.i + 1) = simp length-drop (omega arith) in
    let tail : take (length c.args.lines.now - (c.in-Some.i + 1)) (drop (c.in-Some.i + 1) c.args.lines.now) ≡ drop (c.in-Some.i + 1) c.args.lines.now = take_all _ _ short in
    turn_lifts c.args.scope.now.app.now c.args.scope.now.fields.now.entries c.args.scope.now.statics.now c.args.scope.now.dex.now c.args.tries.now c.args.lines.now c.in_ok-catches_of_lines.field-0.items c.loop-i.yielded c.in-Some.i c.in-Some.catches c.index-lines-i.result _
    c.loop-i.steps.items c.add_step.new.steps.items c.in_ok-catches_of_lines.ensures c.index-lines-i.is turn tail (c.in_ok-add_step.ensures ∙ ap (λ ss. c.loop-i.steps.items ++ ss) c.in_ok-step.ensures) c.loop-i.invariant

pub returns : goal.returns
returns c =
    let end = YieldsList-end {s = c.into_iter-i-iterator.result} (YieldsList-from_enumerate (YieldsList-from_vec c.in_ok-catches_of_lines.field-0.items (cc) (cc)) (cc)) c.loop-i.yielded c.loop-i.i-iterator c.loop-i.yielded_by _ c.next.new.self c.in-None.is c.next.ensures.steps in
    c.from_vec.ensures ∙ end_lifts c.args.scope.now.app.now c.args.scope.now.fields.now.entries c.args.scope.now.statics.now c.args.scope.now.dex.now c.args.tries.now c.args.lines.now c.in_ok-catches_of_lines.field-0.items (length c.loop-i.yielded) c.loop-i.steps.items c.in_ok-catches_of_lines.ensures end.1 c.loop-i.invariant
