use Rattle.std.proofs.Common.{List, false, map, ap, ◌∙◌}
use Rattle.played_machine.specs.Calling.{code_of}
use Rattle.runner_begin.proofs.Laid.{entered_is, entered_none}
use Rattle.runner_begin.proofs.entering.enter_body.Goals as goal
use Rattle.runner_calls.specs.Frames.{entered_with, frames_of}
use Rattle.runner_state.specs.declared.value.Held.{Held}
use Rattle.runner_state.specs.Shown.{value_of}

pub returns-in-None : goal.returns-in-None
returns-in-None c = entered_none c.args.body (code_of c.args.app.now c.args.body) (map value_of c.args.values.now) (frames_of c.args.frames.now) c.in-None.ensures c.requires.idle

pub returns-in_ok-enter-in-Some : goal.returns-in_ok-enter-in-Some
returns-in_ok-enter-in-Some c =
    c.in_ok-enter-in-Some.ensures
    ∙ (ap (λ (hs : List Held). entered_with (code_of c.args.app.now c.args.body) c.args.body (map value_of hs) false (frames_of c.args.frames.now)) c.as_slice.ensures.value
    ∙ entered_is c.args.body (code_of c.args.app.now c.args.body) c.in-Some.method.now (map value_of c.args.values.now) (map value_of c.in_ok-arguments-in-Some.arguments.items) (frames_of c.args.frames.now) c.in-Some.ensures c.in_ok-arguments-in-Some.ensures c.requires.idle)
