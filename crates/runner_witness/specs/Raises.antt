-- Where raised values go in small frames.
use Rattle.std.specs.Prelude.{◌≡◌, ℕ, false, List, [], ◌∷◌, Some, None}
use Rattle.app_machine.specs.declared.app.App.{App}
use Rattle.app_machine.specs.declared.method.Act.TheVariants.{Blank}
use Rattle.app_machine.specs.Heap.{Value, blank}
use Rattle.app_machine.specs.State.{exception_register, Frame, write}
use Rattle.machine_witness.specs.Apps.{activity_with}
use Rattle.runner_calls.specs.declared.landing.Landing.{Landing}
use Rattle.runner_calls.specs.Frames.{entered_with, gone_on}
use Rattle.runner_calls.specs.Landing.{landed, lands}

-- an app of one method, whose first instruction has two handlers
abbrev pub catching_app : App
catching_app = activity_with (record { pc = 0; act = Blank []; next = []; catches = 8 ∷ 9 ∷ [] } ∷ [])

abbrev pub frame_at : ℕ → ℕ → Frame
frame_at method pc = record { method = method; pc = pc; registers = λ r. blank; initialises = false }

-- of the method's first instruction, and of one that no handler covers
abbrev pub covered : Frame
covered = frame_at 0 0

abbrev pub uncovered : Frame
uncovered = frame_at 1 0

abbrev pub landing : ℕ → ℕ → Landing
landing below pc = record { below = below; pc = pc }

pub record RaisesTell : Type 0 where
  -- the second handler of the running frame, above one other
  pub caught : (bytes : List ℕ) → lands catching_app (covered ∷ uncovered ∷ []) (1 ∷ bytes) ≡ Some (Some (landing 1 9), bytes)
  -- upward takes a byte, also where no handler covers the instruction, and it is drawn again in the caller
  pub caught_above : (bytes : List ℕ) → lands catching_app (uncovered ∷ covered ∷ []) (7 ∷ 0 ∷ bytes) ≡ Some (Some (landing 0 8), bytes)
  pub too_few : lands catching_app (uncovered ∷ covered ∷ []) (7 ∷ []) ≡ None
  pub goes_out : (bytes : List ℕ) → lands catching_app (covered ∷ []) (2 ∷ bytes) ≡ Some (None, bytes)
  -- without a frame it goes out at once
  pub no_frame : (bytes : List ℕ) → lands catching_app [] bytes ≡ Some (None, bytes)
  -- the frames above the handler's are gone, and the exception's register has the value
  pub lands_there : (v : Value) → landed v (uncovered ∷ covered ∷ []) (Some (landing 0 8)) ≡ record (frame_at 0 8) { registers = write (λ r. blank) exception_register v } ∷ []
  pub lands_here : (v : Value) → landed v (covered ∷ uncovered ∷ []) (Some (landing 1 9)) ≡ record (frame_at 0 9) { registers = write (λ r. blank) exception_register v } ∷ uncovered ∷ []
  pub all_gone : (v : Value) → landed v (covered ∷ uncovered ∷ []) None ≡ []
  -- the caller of a frame stays as it is
  pub goes_on : (v : Value) → gone_on 1 v 5 (covered ∷ uncovered ∷ []) ≡ record (frame_at 0 5) { registers = write (λ r. blank) 1 v } ∷ uncovered ∷ []
  pub without_code : (values : List Value) → entered_with None 3 values false (covered ∷ []) ≡ covered ∷ []
