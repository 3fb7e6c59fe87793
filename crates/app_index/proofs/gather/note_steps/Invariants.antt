use Rattle.std.proofs.Common.{take}
use Rattle.app_index.specs.Readers.{readers_in, IsLonger}
use Rattle.app_index.proofs.gather.note_steps.Given as goal

abbrev pub invariant-loop-step : goal.invariant-loop-step
invariant-loop-step l = IsLonger l.fn.readers.items l.readers.items (λ g. readers_in g l.method (take l.step-index l.steps))
