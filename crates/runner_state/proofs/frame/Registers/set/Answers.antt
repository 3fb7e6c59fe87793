use Rattle.std.proofs.Common.{ap, arith}
use Rattle.runner_state.specs.Shown.{held_at, value_of}
use Rattle.runner_state.proofs.Writing.{registers_by, set_register, on_err}
use Rattle.runner_state.proofs.frame.Registers.set.Goals as goal

pub returns-in_err-set-in_default-clause-err : goal.returns-in_err-set-in_default-clause-err
returns-in_err-set-in_default-clause-err c = on_err c.from_residual.result (ap (λ vs. registers_by vs (value_of c.args.self.now.result) (value_of c.args.self.now.exception)) c.in_err-set-in_default.ensures.err)

pub returns-in_ok-set-in_default-clause-ok : goal.returns-in_ok-set-in_default-clause-ok
returns-in_ok-set-in_default-clause-ok c =
    set_register (held_at c.args.self.now.values) (held_at c.set.new.self) (value_of c.args.self.now.result) (value_of c.args.self.now.exception) c.args.register (value_of c.args.value)
    (λ e. absurd (omega (arith, e))) (λ e. absurd (omega (arith, e))) c.in_ok-set-in_default.ensures.ok
