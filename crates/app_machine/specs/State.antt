-- The state of the machine.
use Rattle.std.specs.Prelude.{◌==◌, ◌+◌, ◌-◌, ◌&&◌, ℕ, Bool, nat_le, nat_lt, if◌then◌else◌, List, [], length, Option, Some, None, slice_get}
use Rattle.std.specs.List.{list_any}
use Rattle.app_machine.specs.declared.method.Method.{Method}
use Rattle.app_machine.specs.declared.app.App.{App}
use Rattle.app_machine.specs.Names.{Name}
use Rattle.app_machine.specs.Heap.{Value, Object, blank}

-- RES, which holds the result of the last call or filled array, and EXC, which holds the exception. The registers of a
-- method are below them.
abbrev pub result_register : ℕ
result_register = 65536

abbrev pub exception_register : ℕ
exception_register = 65537

-- whether the number is in the list
abbrev pub holds : List ℕ → ℕ → Bool
holds ds r = list_any (λ d. r == d) ds

-- the registers after the value is written to each of these, and the statics after a write
abbrev pub write_all : (ℕ → Value) → List ℕ → Value → ℕ → Value
write_all registers ds v r = if holds ds r then v else registers r

abbrev pub write : (ℕ → Value) → ℕ → Value → ℕ → Value
write registers d v r = if r == d then v else registers r

-- a label that came to a sink of this category at the instruction
pub record Arrival : Type 0 where
  pub label : ℕ
  pub sink : ℕ
  pub method : ℕ
  pub pc : ℕ

-- a component's state, and its object where the state is not 0
pub record ComponentState : Type 0 where
  pub state : ℕ
  pub place : Option ℕ

-- all but the frames
pub record World : Type 0 where
  pub heap : List Object
  -- by number: the app's statics first, and behind them the shared objects of the lists
  pub statics : ℕ → Value
  pub components : ℕ → ComponentState
  -- the places of objects that the library was handed
  pub handed : List ℕ
  pub arrivals : List Arrival

pub record Frame : Type 0 where
  pub method : ℕ
  pub pc : ℕ
  pub registers : ℕ → Value
  -- whether it is an initialiser, after which the caller tries its instruction again
  pub initialises : Bool

-- the number of a shared object's static
abbrev pub shared_static : App → ℕ → ℕ
shared_static app i = length app.statics + i

-- the value at the index, and a blank past the end
abbrev pub value_or_blank : List Value → ℕ → Value
value_or_blank vs i = elim (slice_get vs i) [ Some v ↦ v | None ↦ blank ]

-- the registers of a body that is entered: argument i in the i-th of its last `ins` registers, and blanks elsewhere
abbrev pub entered : Method → List Value → ℕ → Value
entered m arguments r = if nat_le (m.registers - m.ins) r && nat_lt r m.registers then value_or_blank arguments (r - (m.registers - m.ins)) else blank

-- the object at a place, as a value
abbrev pub object_at : Option ℕ → Value
object_at place = record { place = place; labels = [] }

abbrev pub new_object : Name → Object
new_object class = record { class = class; entries = [] }
