-- Steps of the machine, and runs.
use Rattle.std.specs.Prelude.{◌≡◌, ℕ, Bool, true, false, List, [], ◌∷◌, map, Option, Some, None}
use Rattle.app_machine.specs.declared.call.MethodRef.{MethodRef}
use Rattle.app_machine.specs.declared.call.CallKind.{CallKind}
use Rattle.app_machine.specs.declared.method.Method.{Method}
use Rattle.app_machine.specs.declared.method.Act.TheVariants.{Call, Return, Throw}
use Rattle.app_machine.specs.declared.summary.Summary.{Summary}
use Rattle.app_machine.specs.declared.lists.Lists.{Lists}
use Rattle.app_machine.specs.declared.app.App.{App}
use Rattle.app_machine.specs.Lookups.{Body, ActAt, Goes, HasCode, IsNative, Initialises}
use Rattle.app_machine.specs.Heap.{Value, Object, blank}
use Rattle.app_machine.specs.State.{result_register, write, World, Frame, entered}
use Rattle.app_machine.specs.Local.{Local}
use Rattle.app_machine.specs.Calls.{CallsTo, arguments, Raises, returned, hand}
use Rattle.app_machine.specs.Library.{positions, CallsLibrary, UsesRow}
use Rattle.app_machine.specs.Events.{Comes, MayInitialise, labels_at, layout, Parameters}

-- the frame of a body that begins with these argument values
abbrev pub frame_of : ℕ → Method → List Value → Bool → Frame
frame_of body m values initialises = record { method = body; pc = 0; registers = entered m values; initialises = initialises }

-- there is no body, or a native one
pub data WithoutCode (app : App) : Option ℕ → Type 0 where
  no_body : WithoutCode app None
  native_body : {body : ℕ} →
      IsNative app body →
      WithoutCode app (Some body)

-- one step, from a world and its frames, the running one first
pub data Steps (app : App) (lists : Lists) : World → List Frame → World → List Frame → Type 0 where
  goes_on : {w new : World} {f g : Frame} {fs : List Frame} →
      Local app lists w f new g →
      Steps app lists w (f ∷ fs) new (g ∷ fs)
  -- any instruction may raise a blank in place of its step
  raises : {w : World} {f : Frame} {fs gs : List Frame} →
      Raises app (f ∷ fs) blank gs →
      Steps app lists w (f ∷ fs) w gs
  throws : {w : World} {f : Frame} {fs gs : List Frame} {x : ℕ} →
      ActAt app f.method f.pc (Throw x) →
      Raises app (f ∷ fs) (f.registers x) gs →
      Steps app lists w (f ∷ fs) w gs
  calls : {w : World} {f : Frame} {fs : List Frame} {kind : CallKind} {at : MethodRef} {args : List ℕ} {body : ℕ} {m : Method} →
      ActAt app f.method f.pc (Call kind at args) →
      CallsTo app w.heap f kind at args (Body body) →
      HasCode app body m →
      Steps app lists w (f ∷ fs) w (frame_of body m (arguments f args) false ∷ f ∷ fs)
  calls_library : {w new : World} {f : Frame} {fs : List Frame} {kind : CallKind} {at : MethodRef} {args : List ℕ} {row : Summary} {result : Value} {pc : ℕ} →
      ActAt app f.method f.pc (Call kind at args) →
      Goes app f.method f.pc pc →
      UsesRow app lists w.heap f kind at args row →
      CallsLibrary app lists w f (positions kind at args) at.proto.ret row new result →
      Steps app lists w (f ∷ fs) new (record f { pc = pc; registers = write f.registers result_register result } ∷ fs)
  -- a library call may raise after its puts
  library_raises : {w new : World} {f : Frame} {fs gs : List Frame} {kind : CallKind} {at : MethodRef} {args : List ℕ} {row : Summary} {result : Value} →
      ActAt app f.method f.pc (Call kind at args) →
      UsesRow app lists w.heap f kind at args row →
      CallsLibrary app lists w f (positions kind at args) at.proto.ret row new result →
      Raises app (f ∷ fs) blank gs →
      Steps app lists w (f ∷ fs) new gs
  returns : {w : World} {f g : Frame} {fs : List Frame} {x : Option ℕ} {pc : ℕ} →
      f.initialises ≡ false →
      ActAt app f.method f.pc (Return x) →
      Goes app g.method g.pc pc →
      Steps app lists w (f ∷ g ∷ fs) w (record g { pc = pc; registers = write g.registers result_register (returned f x) } ∷ fs)
  initialises : {w : World} {f : Frame} {fs : List Frame} {body : ℕ} {m : Method} →
      Initialises app f.method f.pc body →
      HasCode app body m →
      Steps app lists w (f ∷ fs) w (frame_of body m [] true ∷ f ∷ fs)
  has_initialised : {w : World} {f g : Frame} {fs : List Frame} {x : Option ℕ} →
      f.initialises ≡ true →
      ActAt app f.method f.pc (Return x) →
      Steps app lists w (f ∷ g ∷ fs) w (g ∷ fs)
  ends : {w : World} {f : Frame} {x : Option ℕ} →
      ActAt app f.method f.pc (Return x) →
      Steps app lists w (f ∷ []) (record w { handed = hand (returned f x).place w.handed }) []
  -- an event without code to run
  passes : {w new : World} {body place : Option ℕ} {sources : List (ℕ × ℕ)} →
      Comes app lists w body place sources new →
      WithoutCode app body →
      Steps app lists w [] new []
  begins : {w new : World} {body : ℕ} {place : Option ℕ} {sources : List (ℕ × ℕ)} {m : Method} {value : ℕ → Value} {heap : List Object} →
      Comes app lists w (Some body) place sources new →
      HasCode app body m →
      value 0 ≡ record { place = place; labels = labels_at sources 0 } →
      Parameters app lists new.handed sources value 1 m.at.proto.params new.heap heap →
      Steps app lists w [] (record new { heap = heap }) (frame_of body m (map value (layout m.at.proto.params)) false ∷ [])
  begins_initialiser : {w : World} {body : ℕ} {m : Method} →
      MayInitialise app w body →
      HasCode app body m →
      Steps app lists w [] w (frame_of body m [] false ∷ [])

-- nothing is there yet
abbrev pub start_world : World
start_world = record { heap = []; statics = λ g. blank; components = λ c. record { state = 0; place = None }; handed = []; arrivals = [] }

-- a run, by its last world and frames
pub data Run (app : App) (lists : Lists) : World → List Frame → Type 0 where
  starts : Run app lists start_world []
  then : {w new : World} {fs gs : List Frame} →
      Run app lists w fs →
      Steps app lists w fs new gs →
      Run app lists new gs
