use Rattle.std.proofs.Common.{◌∷◌, ◌∙◌, List, ℕ, Option, refl, sym, ap, subst}
use Rattle.std.specs.Prelude.{IfOk}
use Rattle.app_machine.specs.Heap.{Value}
use Rattle.app_machine.specs.State.{Frame}
use Rattle.played_machine.specs.Local as local
use Rattle.runner_calls.specs.Frames.{frames_of}
use Rattle.runner_state.specs.Shown.{frame_in}
use Rattle.runner_steps.specs.State.{Makes, playing_in}
use Rattle.runner_steps.proofs.Running.{none_runs, one_runs, with_top}
use Rattle.runner_turns.proofs.owning.throw.Goals as goal
use Rattle.runner_world.specs.World.{world_in}

pub returns-in-None : goal.returns-in-None
returns-in-None c = (
  sym (none_runs (λ (f : Frame) (fs : List Frame). local.raised c.args.ground.now.app.now (f.registers c.args.register) (world_in c.args.playing.now.world) (f ∷ fs)) c.args.script.left.now (frames_of c.args.playing.now.frames) c.in-None.ensures),
  refl,
)

pub returns-in-Some : goal.returns-in-Some
returns-in-Some c =
    subst (λ (drawn : Option (local.Playing × List ℕ)). IfOk c.raise.result (Makes drawn (playing_in c.args.playing.now) (playing_in c.raise.new.playing)))
    (ap (λ (v : Value). local.raised c.args.ground.now.app.now v (world_in c.args.playing.now.world) (frames_of c.args.playing.now.frames) c.args.script.left.now) c.get-value.ensures
    ∙ (ap (λ (fs : List Frame). local.raised c.args.ground.now.app.now ((frame_in c.in-Some.running.now).registers c.args.register) (world_in c.args.playing.now.world) fs c.args.script.left.now) (with_top (frames_of c.args.playing.now.frames) (frame_in c.in-Some.running.now) c.in-Some.ensures)
    ∙ sym (one_runs (λ (f : Frame) (fs : List Frame). local.raised c.args.ground.now.app.now (f.registers c.args.register) (world_in c.args.playing.now.world) (f ∷ fs)) c.args.script.left.now (frames_of c.args.playing.now.frames) (frame_in c.in-Some.running.now) c.in-Some.ensures)))
    c.raise.ensures
