use Rattle.std.proofs.Common.{◌-◌, List, length, slice_get, ap, ◌∙◌}
use Rattle.std.specs.Option.{option_copied}
use Rattle.runner_calls.proofs.Stacking.{running_is}
use Rattle.runner_calls.proofs.frames.Frames.running.Goals as goal
use Rattle.runner_state.specs.declared.frame.Called.{Called}

pub returns : goal.returns
returns c = running_is c.args.self.now.called.items (option_copied c.last.result) (c.last.ensures.value ∙ ap (λ (xs : List Called). slice_get xs (length xs - 1)) c.deref.ensures.value)
