-- An app whose methods call, return, throw and raise, and the steps that the machine takes between their frames, from any world
-- and registers.
use Rattle.std.specs.Prelude.{◌≡◌, ℕ, true, false, Bool, List, [], ◌∷◌, Some, None, codes}
use Rattle.app_machine.specs.declared.call.MethodRef.{MethodRef}
use Rattle.app_machine.specs.declared.call.CallKind.TheVariants.{Static, Virtual}
use Rattle.app_machine.specs.declared.method.Step.{Step}
use Rattle.app_machine.specs.declared.method.Act.TheVariants.{Call, Return, Throw}
use Rattle.app_machine.specs.declared.method.Method.{Method}
use Rattle.app_machine.specs.declared.app.Key.TheVariants.{Elem}
use Rattle.app_machine.specs.declared.app.App.{App}
use Rattle.app_machine.specs.declared.lists.Lists.{Lists}
use Rattle.app_machine.specs.Heap.{Value, blank, ClassAt}
use Rattle.app_machine.specs.State.{result_register, exception_register, write, World, Frame}
use Rattle.app_machine.specs.Calls.{hand}
use Rattle.app_machine.specs.Run.{Steps}
use Rattle.machine_witness.specs.Apps.{main_class, on_create, step, one_class}
use Rattle.machine_witness.specs.Flows.{ref, int, void, tries}

-- a static method with one argument, a virtual one, and an initialiser, each a return and more
abbrev pub pass : MethodRef
pass = ref main_class (codes "pass") (int ∷ []) int

abbrev pub turn : MethodRef
turn = ref main_class (codes "turn") [] void

abbrev pub method_at : MethodRef → Bool → ℕ → List Step → Method
method_at at is_static ins steps = record { at = at; is_static = is_static; is_native = false; registers = 2; ins = ins; steps = steps }

unfoldable pub frames_app : App
frames_app = record {
  classes = one_class ∷ [];
  methods =
      method_at (ref main_class (codes "<clinit>") [] void) true 0 (step 0 (Return None) [] ∷ [])
      ∷ method_at on_create false 2 (
      tries 0 (Call Static pass (1 ∷ [])) (3 ∷ []) (7 ∷ [])
      ∷ tries 3 (Call Virtual turn (1 ∷ [])) (6 ∷ []) (7 ∷ [])
      ∷ step 6 (Return None) []
      ∷ step 7 (Return (Some 1)) []
      ∷ tries 8 (Throw 1) [] (7 ∷ [])
      ∷ [])
      ∷ method_at pass true 1 (step 0 (Return (Some 1)) [] ∷ step 1 (Throw 1) [] ∷ [])
      ∷ method_at turn false 1 (step 0 (Return None) [] ∷ [])
      ∷ [];
  keys = Elem ∷ [];
  statics = [];
  components = [];
  clicks = [];
  providers = [];
  layout_classes = [];
}

abbrev pub in_method : ℕ → ℕ → (ℕ → Value) → Frame
in_method method pc registers = record { method = method; pc = pc; registers = registers; initialises = false }

abbrev pub in_initialiser : ℕ → (ℕ → Value) → Frame
in_initialiser method registers = record { method = method; pc = 0; registers = registers; initialises = true }

-- the frame of a body that was entered on the frames, with this in its argument register
pub record Entered (lists : Lists) (w : World) (before : List Frame) (method : ℕ) (argument : Value) : Type 0 where
  pub registers : ℕ → Value
  pub is_argument : registers 1 ≡ argument
  pub steps : Steps frames_app lists w before w (in_method method 0 registers ∷ before)

pub record StepsBetweenFrames (lists : Lists) (w : World) (r q : ℕ → Value) (fs : List Frame) : Type 0 where
  -- a static call enters its method, and a virtual one that of the class of the receiver's object, with the argument
  pub calls : Entered lists w (in_method 1 0 r ∷ fs) 2 (r 1)
  pub calls_by_class : (p : ℕ) → (r 1).place ≡ Some p → ClassAt w.heap p main_class → Entered lists w (in_method 1 3 r ∷ fs) 3 (r 1)
  -- what is returned is the result in the caller's next step; the last frame hands it to the library
  pub returns : Steps frames_app lists w (in_method 2 0 q ∷ in_method 1 0 r ∷ fs) w (in_method 1 3 (write r result_register (q 1)) ∷ fs)
  pub ends : Steps frames_app lists w (in_method 1 7 r ∷ []) (record w { handed = hand (r 1).place w.handed }) []
  -- what is thrown goes to a handler of the method, or of its caller, or ends the event
  pub throws : Steps frames_app lists w (in_method 1 8 r ∷ fs) w (in_method 1 7 (write r exception_register (r 1)) ∷ fs)
  pub throws_to_caller : Steps frames_app lists w (in_method 2 1 q ∷ in_method 1 0 r ∷ fs) w (in_method 1 7 (write r exception_register (q 1)) ∷ fs)
  pub throws_out : Steps frames_app lists w (in_method 2 1 q ∷ in_method 1 0 r ∷ []) w []
  -- any instruction may raise a blank
  pub raises : Steps frames_app lists w (in_method 1 3 r ∷ fs) w (in_method 1 7 (write r exception_register blank) ∷ fs)
  -- the initialiser runs before the static call, which is then tried again
  pub initialises : (registers : ℕ → Value) × Steps frames_app lists w (in_method 1 0 r ∷ fs) w (in_initialiser 0 registers ∷ in_method 1 0 r ∷ fs)
  pub has_initialised : Steps frames_app lists w (in_initialiser 0 q ∷ in_method 1 0 r ∷ fs) w (in_method 1 0 r ∷ fs)

abbrev pub FramesStep : Type 0
FramesStep = (lists : Lists) (w : World) (r q : ℕ → Value) (fs : List Frame) → StepsBetweenFrames lists w r q fs
