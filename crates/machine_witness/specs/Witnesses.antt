-- What the machine's definitions should mean, of any app.
use Rattle.std.specs.Prelude.{◌≡◌, ◌≢◌, ◌-◌, ◌<◌, ◌≤◌, ℕ, List, [], ◌∷◌, length, Option, Some}
use Rattle.vet_base.specs.declared.key_id.KeyId.{KeyId}
use Rattle.app_machine.specs.declared.app.App.{App}
use Rattle.app_machine.specs.declared.lists.Lists.{Lists}
use Rattle.app_machine.specs.declared.method.Method.{Method}
use Rattle.vet_base.specs.Members.{In}
use Rattle.app_machine.specs.Names.{Name}
use Rattle.app_machine.specs.Lookups.{elem_key, Catches, HasCode}
use Rattle.app_machine.specs.Heap.{Value, Object, EntryAt, ClassAt, put_at}
use Rattle.app_machine.specs.State.{exception_register, write, World, Frame}
use Rattle.app_machine.specs.Calls.{Raises}
use Rattle.app_machine.specs.Events.{IsApplication, HandedAt, Comes, MayInitialise}
use Rattle.app_machine.specs.Run.{Steps}

-- after a put under a field's key no other value stands under it
abbrev pub StrongUpdateForgets : Type 0
StrongUpdateForgets = (heap : List Object) (p : ℕ) (k : KeyId) (v w : Value) → k.0 ≢ 0 → EntryAt (put_at heap p k v) p k w → w ≡ v

-- and an element that was there is there after a put of another
abbrev pub ElementsStay : Type 0
ElementsStay = (heap : List Object) (p : ℕ) (v w : Value) → EntryAt heap p elem_key w → EntryAt (put_at heap p elem_key v) p elem_key w

-- the frame at a handler, with the value in EXC
abbrev pub handling : Frame → ℕ → Value → Frame
handling f pc v = record f { pc = pc; registers = write f.registers exception_register v }

abbrev pub RaisesGoToHandlers : Type 0
RaisesGoToHandlers = (app : App) (f : Frame) (fs : List Frame) (v : Value) (pc : ℕ) → Catches app f.method f.pc pc → Raises app (f ∷ fs) v (handling f pc v ∷ fs)

abbrev pub RaisesGoToCallers : Type 0
RaisesGoToCallers = (app : App) (f g : Frame) (fs : List Frame) (v : Value) (pc : ℕ) → Catches app g.method g.pc pc → Raises app (f ∷ g ∷ fs) v (handling g pc v ∷ fs)

abbrev pub RaisesGoNowhereElse : Type 0
RaisesGoNowhereElse = (app : App) (f : Frame) (fs : List Frame) (v : Value) (gs : List Frame) → ((pc : ℕ) → Catches app f.method f.pc pc → ⊥) → Raises app (f ∷ fs) v gs → Raises app fs v gs

-- where every component is absent and nothing was handed, the receiver of what comes is a new object
abbrev pub AbsentComponentsAreOnlyBorn : Type 0
AbsentComponentsAreOnlyBorn = (app : App) (lists : Lists) (w new : World) (body place : Option ℕ) (sources : List (ℕ × ℕ)) → ((c : ℕ) → (w.components c).state ≡ 0) → w.handed ≡ [] → Comes app lists w body place sources new → place ≡ Some (length w.heap)

-- until the application was created, every other component stays absent and its class is not initialised
pub record Waits (app : App) (lists : Lists) (w : World) (c : ℕ) : Type 0 where
  pub stays : (new : World) (body place : Option ℕ) (sources : List (ℕ × ℕ)) → Comes app lists w body place sources new → (new.components c).state ≡ 0
  pub initialises : (body : ℕ) (may : MayInitialise app w body) → may.c ≡ c → ⊥

abbrev pub OthersWaitForTheApplication : Type 0
OthersWaitForTheApplication = (app : App) (lists : Lists) (w : World) (a c : ℕ) → IsApplication app a → a ≢ c → (w.components a).state ≢ 2 → (w.components c).state ≡ 0 → Waits app lists w c

-- a handed object is the receiver of a callback's body
pub record CalledBack (app : App) (lists : Lists) (w : World) (p body : ℕ) (m : Method) : Type 0 where
  pub frame : Frame
  pub steps : Steps app lists w [] w (frame ∷ [])
  pub runs : frame.method ≡ body
  pub receiver : 0 < m.ins → m.ins ≤ m.registers → (frame.registers (m.registers - m.ins)).place ≡ Some p

abbrev pub HandedObjectsAreCalledBack : Type 0
HandedObjectsAreCalledBack = (app : App) (lists : Lists) (w : World) (p q body : ℕ) (class : Name) (sources : List (ℕ × ℕ)) (m : Method) → In p w.handed → ClassAt w.heap p class → HandedAt app lists q class sources body → HasCode app body m → CalledBack app lists w p body m
