use Rattle.std.specs.Prelude.{option_map}
use Rattle.runner_calls.specs.Frames.{frames_of}
use Rattle.runner_state.specs.Shown.{bytes_behind}
use Rattle.runner_steps.proofs.Went.{drawn_none, drawn_way}
use Rattle.runner_steps.proofs.library.after_call.Goals as goal

pub returns-in-None : goal.returns-in-None
returns-in-None c = drawn_none c.args.app.now (frames_of c.args.frames.now) c.args.next.now c.args.script.left.now c.in-None.ensures.drawn

pub returns-in-Some : goal.returns-in-Some
returns-in-Some c = drawn_way c.args.app.now (frames_of c.args.frames.now) c.args.next.now c.args.script.left.now c.in-Some.way c.in-Some.left.left.now (option_map bytes_behind c.this_way.result) c.in-Some.ensures.drawn c.this_way.ensures
