use Rattle.std.proofs.Common.{arith}
use Rattle.runner_local.proofs.Own.{own_none, own_more, own_all}
use Rattle.runner_local.proofs.reading.own_labels.Goals as goal
use Rattle.runner_state.specs.Shown.{register_in}

pub loop-register-init : goal.loop-register-init
loop-register-init c = own_none (register_in c.args.registers.now) c.none-labels.result c.none-labels.ensures

pub loop-register-preserved : goal.loop-register-preserved
loop-register-preserved c =
    own_more (register_in c.args.registers.now) c.args.from.now c.loop-register.register-index c.loop-register.labels c.joined-labels.result c.get.result c.loop-register-test.true c.get.ensures c.joined-labels.ensures c.loop-register.invariant

pub returns : goal.returns
returns c = own_all (register_in c.args.registers.now) c.args.from.now c.loop-register.register-index c.loop-register.labels (omega arith) c.loop-register.invariant
