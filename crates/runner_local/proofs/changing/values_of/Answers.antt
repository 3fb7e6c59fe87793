use Rattle.std.proofs.Common.{map, ap, arith}
use Rattle.runner_local.proofs.Own.{value_more, value_all}
use Rattle.runner_local.proofs.changing.values_of.Goals as goal
use Rattle.runner_state.specs.Shown.{register_in, value_of}

pub loop-register-init : goal.loop-register-init
loop-register-init c = ap (map value_of) c.new-values.ensures.items

pub loop-register-preserved : goal.loop-register-preserved
loop-register-preserved c =
    value_more (register_in c.args.registers.now) c.args.from.now c.loop-register.register-index c.loop-register.values.items c.push.new.self.items c.get.result c.loop-register-test.true c.get.ensures c.in_ok-push.ensures.items c.loop-register.invariant

pub returns : goal.returns
returns c = value_all (register_in c.args.registers.now) c.args.from.now c.loop-register.register-index c.loop-register.values.items (omega arith) c.loop-register.invariant
