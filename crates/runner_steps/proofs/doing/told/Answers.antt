use Rattle.std.proofs.Common.{List, ℕ, Some, ap, ◌∙◌}
use Rattle.app_machine.specs.Lookups.{is_static_call}
use Rattle.played_machine.specs.Step.{calls_library}
use Rattle.runner_library.specs.Call.{row_in}
use Rattle.runner_steps.proofs.Does.{no_next, reflects, some_next, tells}
use Rattle.runner_steps.proofs.doing.told.Goals as goal

pub returns-then-is_reflective-clause-same : goal.returns-then-is_reflective-clause-same
returns-then-is_reflective-clause-same c app lists w f fs =
    reflects (row_in c.args.call).reflective c.args.step.now.next (calls_library app lists w f fs c.args.step.now.next c.args.call.kind c.args.call.at.now c.args.call.args.now (row_in c.args.call)) c.is_reflective.result (c.is_reflective.ensures c.args.call.at.now (is_static_call c.args.call.kind)) c.if-is_reflective.true

pub returns-then-is_empty-clause-same : goal.returns-then-is_empty-clause-same
returns-then-is_empty-clause-same c app lists w f fs =
    tells (row_in c.args.call).reflective c.args.step.now.next (calls_library app lists w f fs c.args.step.now.next c.args.call.kind c.args.call.at.now c.args.call.args.now (row_in c.args.call)) _ c.is_reflective.result (c.is_reflective.ensures c.args.call.at.now (is_static_call c.args.call.kind)) c.if-is_reflective.false
    (no_next c.args.step.now.next (calls_library app lists w f fs c.args.step.now.next c.args.call.kind c.args.call.at.now c.args.call.args.now (row_in c.args.call)) c.is_empty.result c.is_empty.ensures c.if-is_empty.true)

pub returns-clause-same : goal.returns-clause-same
returns-clause-same c app lists w f fs =
    ap (λ (ns : List ℕ). Some (calls_library app lists w f fs ns c.args.call.kind c.args.call.at.now c.args.call.args.now (row_in c.args.call))) c.as_slice.ensures
    ∙ tells (row_in c.args.call).reflective c.args.step.now.next (calls_library app lists w f fs c.args.step.now.next c.args.call.kind c.args.call.at.now c.args.call.args.now (row_in c.args.call)) _ c.is_reflective.result (c.is_reflective.ensures c.args.call.at.now (is_static_call c.args.call.kind)) c.if-is_reflective.false
    (some_next c.args.step.now.next (calls_library app lists w f fs c.args.step.now.next c.args.call.kind c.args.call.at.now c.args.call.args.now (row_in c.args.call)) c.is_empty.result c.is_empty.ensures c.if-is_empty.false)
