use Rattle.std.proofs.Common.{rules, sym}
use Rattle.std.specs.Ordering.{nat_cmp}
use Rattle.std.proofs.lemmas.Fn.{always_returns_same}
use Rattle.app_machine.specs.declared.method.Step.{Step}
use Rattle.app_model.proofs.Steps.{step_there, step_missing}
use Rattle.app_model.proofs.lookups.steps.step_among.Goals as goal

pub returns-in-Ok : goal.returns-in-Ok
returns-in-Ok c =
    let position = c.in-Ok.ensures.position (λ (step : Step). nat_cmp step.pc c.args.pc) (always_returns_same _ _ _ (λ a r g k. search rules)) in
    sym (step_there c.args.steps.now c.requires c.args.pc c.in-Ok.i c.index-steps-i.result c.in-Ok.ensures.bound c.index-steps-i.is (position c.index-steps-i.result))

pub returns-in-Err : goal.returns-in-Err
returns-in-Err c =
    let position = c.in-Err.ensures.position (λ (step : Step). nat_cmp step.pc c.args.pc) (always_returns_same _ _ _ (λ a r g k. search rules)) in
    sym (step_missing c.args.steps.now c.requires c.args.pc c.in-Err.field-0 c.in-Err.ensures.bound position)
