use Rattle.std.proofs.Common.{sym, subst, ◌∙◌}
use Rattle.std.proofs.lemmas.Option.{none-some, same_Some}
use Rattle.app_machine.specs.State.{Frame}
use Rattle.played_alike.specs.Alike.{AlikePlaying}
use Rattle.runner_calls.specs.Frames.{frames_of}
use Rattle.runner_library.specs.Call.{row_in, values_in}
use Rattle.runner_library.specs.Whole.{called}
use Rattle.runner_state.specs.Shown.{frame_in, register_in, value_of}
use Rattle.runner_steps.specs.Went.{called_by}
use Rattle.runner_steps.proofs.Went.{called_alike}
use Rattle.runner_steps.proofs.library.make_call.Goals as goal
use Rattle.runner_world.specs.World.{world_in}

pub returns-in-None : goal.returns-in-None
returns-in-None c f top = absurd (none-some f (c.in-None.ensures ∙ sym top))

pub returns-in_ok-go-in-Some : goal.returns-in_ok-go-in-Some
returns-in_ok-go-in-Some c f top =
    subst (λ (g : Frame). AlikePlaying (called_by c.args.ground.now.app.now c.args.ground.now.lists.now (world_in c.args.playing.now.world) (values_in c.args.of g.registers) g.method g.pc c.args.of.at.now.proto.ret (row_in c.args.of) (frames_of c.args.playing.now.frames) (value_of c.args.read) c.args.after) (record { world = world_in c.call.new.world; frames = frames_of c.go.new.frames }))
    (same_Some (frame_in c.in-Some.running.now) f (c.in-Some.ensures ∙ sym top))
    (called_alike (called c.args.ground.now.app.now c.args.ground.now.lists.now (world_in c.args.playing.now.world) (values_in c.args.of (register_in c.in-Some.running.now.registers)) c.in-Some.running.now.method c.in-Some.running.now.pc c.args.of.at.now.proto.ret (row_in c.args.of) (value_of c.args.read)) (world_in c.call.new.world)
    (value_of c.in_ok-held-in-Some.held) (frames_of c.args.playing.now.frames) (frames_of c.go.new.frames) c.args.after c.in_ok-held-in-Some.ensures c.in_ok-go-in-Some.ensures)
