use Rattle.std.proofs.Common.{refl, arith}
use Rattle.app_machine.specs.Library.{positions}
use Rattle.runner_library.proofs.Placed.{all_values, no_values, value_more, value_nearer}
use Rattle.runner_library.proofs.positions.values.Goals as goal
use Rattle.runner_state.specs.Shown.{register_in}

pub loop-register-init : goal.loop-register-init
loop-register-init c = no_values (register_in c.args.registers.now) (positions c.args.kind c.args.at.now c.args.args.now) c.new-values.result.items c.new-values.ensures.items

pub loop-register-preserved : goal.loop-register-preserved
loop-register-preserved c =
    value_more (register_in c.args.registers.now) (positions c.args.kind c.args.at.now c.args.args.now) c.loop-register.values.items c.push.new.self.items c.get.result c.in-Some.register c.len.result (omega (arith, c.len.ensures)) c.in-Some.ensures.same c.get.ensures c.in_ok-push.ensures.items c.loop-register.invariant

pub loop-register-smaller : goal.loop-register-smaller
loop-register-smaller c = value_nearer c.args.args.now c.loop-register.values.items c.push.new.self.items c.get.result c.len.result (omega (arith, c.len.ensures)) (c.in-Some.ensures.within refl) c.in_ok-push.ensures.items

pub returns : goal.returns
returns c = all_values (register_in c.args.registers.now) (positions c.args.kind c.args.at.now c.args.args.now) c.loop-register.values.items c.len.result (omega (arith, c.len.ensures)) c.in_default.ensures.same c.loop-register.invariant
