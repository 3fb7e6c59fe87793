use Rattle.std.proofs.Common.{List, ℕ, drop, refl, ap, ◌∙◌}
use Rattle.std.specs.Prelude.{option_map}
use Rattle.app_machine.specs.declared.method.Act.TheVariants.{Call, Return, Throw}
use Rattle.played_machine.specs.Calling.{call_target}
use Rattle.played_machine.specs.Step.{calls_target}
use Rattle.runner_calls.specs.Frames.{frames_of}
use Rattle.runner_heap.specs.Objects.{heap_of}
use Rattle.runner_state.specs.Shown.{frame_in}
use Rattle.runner_steps.specs.Doing.{drawing_in}
use Rattle.runner_steps.proofs.Does.{of_act, stays}
use Rattle.runner_steps.proofs.doing.done_by.Goals as goal
use Rattle.runner_world.specs.World.{world_in}

pub returns-in-Call-clause-same : goal.returns-in-Call-clause-same
returns-in-Call-clause-same c =
    of_act c.args.ground.now.app.now c.args.ground.now.lists.now (world_in c.args.world.now) (frame_in c.args.running.now) (drop 1 (frames_of c.args.frames.now)) c.args.step.now.next c.args.step.now.act (Call c.in-Call.kind c.in-Call.at c.in-Call.args) (option_map (drawing_in c.args.ground.now.app.now c.args.ground.now.lists.now (world_in c.args.world.now) (frame_in c.args.running.now) (drop 1 (frames_of c.args.frames.now))) c.calls.result) c.in-Call.is
    (c.calls.ensures.same (world_in c.args.world.now) (drop 1 (frames_of c.args.frames.now))
    ∙ ap (λ (xs : List ℕ). calls_target c.args.ground.now.app.now c.args.ground.now.lists.now (world_in c.args.world.now) (frame_in c.args.running.now) (drop 1 (frames_of c.args.frames.now)) c.args.step.now.next c.in-Call.kind c.in-Call.at xs (call_target c.args.ground.now.app.now (heap_of c.args.world.now.heap) (frame_in c.args.running.now) c.in-Call.kind c.in-Call.at xs)) c.as_slice.ensures)

pub returns-in-Return-clause-same : goal.returns-in-Return-clause-same
returns-in-Return-clause-same c =
    of_act c.args.ground.now.app.now c.args.ground.now.lists.now (world_in c.args.world.now) (frame_in c.args.running.now) (drop 1 (frames_of c.args.frames.now)) c.args.step.now.next c.args.step.now.act (Return c.in-Return.register) (option_map (drawing_in c.args.ground.now.app.now c.args.ground.now.lists.now (world_in c.args.world.now) (frame_in c.args.running.now) (drop 1 (frames_of c.args.frames.now))) c.goes_back.result) c.in-Return.is
    (c.goes_back.ensures.same c.args.ground.now.lists.now (world_in c.args.world.now))

pub returns-in-Throw-clause-same : goal.returns-in-Throw-clause-same
returns-in-Throw-clause-same c = of_act c.args.ground.now.app.now c.args.ground.now.lists.now (world_in c.args.world.now) (frame_in c.args.running.now) (drop 1 (frames_of c.args.frames.now)) c.args.step.now.next c.args.step.now.act (Throw c.in-Throw.register) _ c.in-Throw.is refl

pub returns-in_default-clause-same : goal.returns-in_default-clause-same
returns-in_default-clause-same c =
    c.stays.ensures.same c.args.ground.now.app.now c.args.ground.now.lists.now (world_in c.args.world.now) (frame_in c.args.running.now) (drop 1 (frames_of c.args.frames.now))
    ∙ stays c.args.ground.now.app.now c.args.ground.now.lists.now (world_in c.args.world.now) (frame_in c.args.running.now) (drop 1 (frames_of c.args.frames.now)) c.args.step.now.next c.args.step.now.act c.in_default.not-Call c.in_default.not-Return c.in_default.not-Throw
