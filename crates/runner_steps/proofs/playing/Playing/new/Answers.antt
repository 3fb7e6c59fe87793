use Rattle.std.proofs.Common.{List, ap, ◌∙◌}
use Rattle.app_machine.specs.Run.{start_world}
use Rattle.app_machine.specs.State.{Frame, World}
use Rattle.played_machine.specs.Local as local
use Rattle.runner_calls.specs.Frames.{frames_of}
use Rattle.runner_steps.proofs.playing.Playing.new.Goals as goal

pub returns : goal.returns
returns c = ap (λ (w : World). local.playing w (frames_of c.new-2.result)) c.new.ensures ∙ ap (λ (fs : List Frame). local.playing start_world fs) c.new-2.ensures
