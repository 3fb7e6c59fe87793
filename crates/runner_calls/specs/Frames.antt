-- Frames as they are kept, as the machine says them.
use Rattle.std.specs.Prelude.{ℕ, Bool, List, [], ◌∷◌, map, reverse, Option, Some, None}
use Rattle.app_machine.specs.declared.method.Method.{Method}
use Rattle.app_machine.specs.Heap.{Value}
use Rattle.app_machine.specs.Run.{frame_of}
use Rattle.app_machine.specs.State.{Frame, write}
use Rattle.played_machine.specs.Local.{moved}
use Rattle.runner_calls.specs.declared.frames.Frames.{Frames}
use Rattle.runner_state.specs.Shown.{frame_in}

-- the running one first
abbrev pub frames_of : Frames → List Frame
frames_of frames = map frame_in (reverse frames.called.items)

-- the number of a body
abbrev pub number_of : ℕ × Method → ℕ
number_of body = body.0

-- the frames with that of the body above them, where it has code
abbrev pub entered_with : Option Method → ℕ → List Value → Bool → List Frame → List Frame
entered_with None body arguments initialises fs = fs
entered_with (Some m) body arguments initialises fs = frame_of body m arguments initialises ∷ fs

-- the running frame goes on at the pc with the value in the register
abbrev pub gone_on : ℕ → Value → ℕ → List Frame → List Frame
gone_on register v pc [] = []
gone_on register v pc (f ∷ fs) = moved f pc (write f.registers register v) ∷ fs
