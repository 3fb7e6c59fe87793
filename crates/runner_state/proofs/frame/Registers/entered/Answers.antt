use Rattle.std.proofs.Common.{◌+◌, map, ap, sym, ◌∙◌}
use Rattle.app_machine.specs.State.{write}
use Rattle.runner_state.specs.Shown.{register_in, value_of}
use Rattle.runner_state.proofs.Writing.{enter_none, enter_more}
use Rattle.runner_state.proofs.frame.Registers.entered.Goals as goal

pub loop-i-init : goal.loop-i-init
loop-i-init c = enter_none c.args.first (map value_of c.args.arguments.now) (register_in c.blank-registers.result) c.blank-registers.ensures

pub loop-i-preserved : goal.loop-i-preserved
loop-i-preserved c =
    c.in_ok-set.ensures.ok
    ∙ (ap (λ rs. write rs (c.args.first + c.loop-i.i) (value_of c.argument_at.result)) c.loop-i.invariant
    ∙ enter_more c.args.first c.loop-i.i (map value_of c.args.arguments.now) (value_of c.argument_at.result) (sym c.argument_at.ensures))
