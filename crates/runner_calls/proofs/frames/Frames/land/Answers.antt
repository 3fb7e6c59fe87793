use Rattle.std.proofs.Common.{sym, ap, ◌∙◌}
use Rattle.app_machine.specs.State.{exception_register}
use Rattle.runner_calls.proofs.frames.Frames.land.Goals as goal
use Rattle.runner_calls.specs.Frames.{frames_of, gone_on}
use Rattle.runner_calls.specs.Landing.{landed}
use Rattle.runner_state.specs.Shown.{value_of}

pub returns-in_ok-go_on-in-Some : goal.returns-in_ok-go_on-in-Some
returns-in_ok-go_on-in-Some c = c.in_ok-go_on-in-Some.ensures ∙ (ap (gone_on exception_register (value_of c.args.value) c.in-Some.landing.pc) c.go_down.ensures ∙ ap (landed (value_of c.args.value) (frames_of c.args.self.now)) (sym c.in-Some.is))
