use Rattle.std.proofs.Common.{◌≡◌, List, [], Option, ℕ, sym, subst}
use Rattle.app_machine.specs.Heap.{Value}
use Rattle.std.specs.Prelude.{IfOk, option_map}
use Rattle.runner_calls.specs.Frames.{frames_of}
use Rattle.runner_heap.specs.Shown.{value_behind}
use Rattle.runner_state.specs.Shown.{frame_in}
use Rattle.runner_steps.proofs.Running.{none_runs, one_runs}
use Rattle.runner_turns.proofs.Called.{reads}
use Rattle.runner_turns.proofs.calling.given_here.Goals as goal
use Rattle.runner_world.specs.World.{world_in}

pub returns-in-None-clause-given : goal.returns-in-None-clause-given
returns-in-None-clause-given c = none_runs (reads c.args.ground.now.app.now c.args.ground.now.lists.now (world_in c.args.playing.now.world) c.args.of [] c.args.script.left.now) c.args.script.left.now (frames_of c.args.playing.now.frames) c.in-None.ensures

pub returns-in-Some-clause-given : goal.returns-in-Some-clause-given
returns-in-Some-clause-given c =
    subst (λ (drawn : Option (Value × List ℕ)). IfOk c.given_in.result (λ given. option_map value_behind given ≡ drawn))
    (sym (one_runs (reads c.args.ground.now.app.now c.args.ground.now.lists.now (world_in c.args.playing.now.world) c.args.of [] c.args.script.left.now) c.args.script.left.now (frames_of c.args.playing.now.frames) (frame_in c.in-Some.running.now) c.in-Some.ensures))
    c.given_in.ensures.given
