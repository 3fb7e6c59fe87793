use Rattle.std.proofs.Common.{option_map}
use Rattle.runner_heap.specs.Objects.{heap_of}
use Rattle.runner_state.specs.Shown.{frame_in, value_of}
use Rattle.runner_steps.specs.Given.{given_behind}
use Rattle.runner_steps.proofs.Acts.{is_read, nothing_read}
use Rattle.runner_steps.proofs.acting.given_in.Goals as goal

pub returns-in-None : goal.returns-in-None
returns-in-None c = nothing_read (heap_of c.args.heap.now) (frame_in c.args.running.now) c.args.step.now c.args.script.left.now c.in-None.ensures

pub returns-in-Some : goal.returns-in-Some
returns-in-Some c =
    is_read (heap_of c.args.heap.now) (frame_in c.args.running.now) c.args.step.now c.args.script.left.now (value_of c.in-Some.read) c.in-Some.left.left.now (option_map given_behind c.given_next.result) c.in-Some.ensures c.given_next.ensures
