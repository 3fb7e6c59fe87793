use Rattle.std.proofs.Common.{get_or, ap, ◌∙◌}
use Rattle.app_machine.specs.State.{write}
use Rattle.runner_state.specs.Shown.{register_in, value_of}
use Rattle.runner_state.proofs.Writing.{write_front}
use Rattle.runner_state.proofs.frame.Registers.set_all.Goals as goal

pub loop-register-preserved : goal.loop-register-preserved
loop-register-preserved c =
    c.in_ok-set.ensures.ok
    ∙ (ap (λ rs. write rs (get_or c.args.registers.now c.loop-register.register-index 0) (value_of c.args.value)) c.loop-register.invariant
    ∙ write_front (register_in c.args.self.now) c.args.registers.now c.loop-register.register-index (value_of c.args.value) c.loop-register-test.true)
