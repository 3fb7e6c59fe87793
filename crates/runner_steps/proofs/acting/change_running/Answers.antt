use Rattle.std.proofs.Common.{◌-◌, refl, subst, arith}
use Rattle.app_machine.specs.declared.lists.Lists.{Lists}
use Rattle.runner_local.specs.Changed.{AlikeChange, changed}
use Rattle.runner_state.specs.Shown.{register_in, value_of}
use Rattle.runner_steps.proofs.Acts.{acted_none, acted_top}
use Rattle.runner_steps.proofs.acting.change_running.Goals as goal
use Rattle.runner_world.specs.World.{world_in}

pub returns-then-count-eq0 : goal.returns-then-count-eq0
returns-then-count-eq0 c =
    acted_none c.args.ground.now.app.now c.args.ground.now.lists.now (world_in c.args.playing.now.world) c.args.step.now.act (value_of c.args.given.read) c.args.given.pc c.args.playing.now.frames.called.items (omega arith)

pub returns : goal.returns
returns c =
    acted_top c.args.ground.now.app.now c.args.ground.now.lists.now (world_in c.args.playing.now.world) c.args.step.now.act (value_of c.args.given.read) c.args.given.pc c.args.playing.now.frames.called.items (c.len-count.result - 1)
    c.index_mut-running.result.now (record c.index_mut-running.result.now { pc = c.args.given.pc; registers = c.change.new.registers }) (world_in c.change.new.world) (omega arith) c.index_mut-running.ensures.value refl refl refl
    (subst (λ (ls : Lists). AlikeChange (changed c.args.ground.now.app.now ls (world_in c.args.playing.now.world) (register_in c.index_mut-running.result.now.registers) c.args.step.now.act (value_of c.args.given.read)) (world_in c.change.new.world) (register_in c.change.new.registers))
    c.requires.library c.in_ok-change.ensures)
