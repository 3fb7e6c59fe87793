-- Where a raised value goes, and the frames that are left.
use Rattle.std.specs.Prelude.{ℕ, nat_le, if◌then◌else◌, List, [], ◌∷◌, ◌++◌, map, length, Option, Some, None}
use Rattle.app_machine.specs.declared.app.App.{App}
use Rattle.app_machine.specs.Heap.{Value}
use Rattle.app_machine.specs.Lookups.{step_at}
use Rattle.app_machine.specs.State.{Frame, exception_register}
use Rattle.played_machine.specs.Drawing.{Drawing, give, one_of, ◌>>=◌}
use Rattle.played_machine.specs.Local.{catches_of}
use Rattle.runner_calls.specs.declared.landing.Landing.{Landing}
use Rattle.runner_calls.specs.Frames.{gone_on}

-- the handlers that cover the frame's instruction, and none
abbrev pub handlers : App → Frame → List (Option ℕ)
handlers app f = map (λ pc. Some pc) (catches_of (step_at app f.method f.pc)) ++ None ∷ []

-- at a handler of the frame that is above so many, or upward
abbrev pub lands_at : ℕ → Drawing (Option Landing) → Option ℕ → Drawing (Option Landing)
lands_at below upward (Some pc) = give (Some (record { below = below; pc = pc }))
lands_at below upward None = upward

-- where a value that is raised goes: to one of the handlers of a frame, or out of all frames
abbrev pub lands : App → List Frame → Drawing (Option Landing)
lands app [] = give None
lands app (f ∷ fs) = one_of (handlers app f) >>= lands_at (length fs) (lands app fs)

-- the frames without those above the one that is above so many
abbrev pub down_to : ℕ → List Frame → List Frame
down_to below [] = []
down_to below (f ∷ fs) = if nat_le (length fs) below then f ∷ fs else down_to below fs

-- the frames after the value went there
abbrev pub landed : Value → List Frame → Option Landing → List Frame
landed v fs None = []
landed v fs (Some at) = gone_on exception_register v at.pc (down_to at.below fs)
