-- What is kept, as the machine says it.
use Rattle.std.specs.Prelude.{◌≡◌, ◌&&◌, ◌+◌, ◌-◌, ◌==◌, ℕ, nat_le, nat_lt, if◌then◌else◌, List, filter, Option, Some, None, slice_get}
use Rattle.app_machine.specs.Heap.{Value, blank}
use Rattle.app_machine.specs.State.{Frame, result_register, exception_register, value_or_blank}
use Rattle.app_machine.specs.Summaries.{numbers_from}
use Rattle.app_model.specs.Marks.{is_marked}
use Rattle.runner_state.specs.declared.frame.Called.{Called}
use Rattle.runner_state.specs.declared.frame.Registers.{Registers}
use Rattle.runner_state.specs.declared.labels.Labels.{Labels}
use Rattle.runner_state.specs.declared.script.Script.{Script}
use Rattle.runner_state.specs.declared.value.Held.{Held}
use Rattle.runner_state.specs.declared.values.Values.{Values}

-- the numbers below this one, ascending
unfoldable pub numbers_below : ℕ → List ℕ
numbers_below n = numbers_from 0 n

-- the categories, ascending
unfoldable pub labels_of : Labels → List ℕ
labels_of labels = filter (is_marked labels.words) (numbers_below 256)

abbrev pub value_of : Held → Value
value_of held = record { place = held.place; labels = labels_of held.labels }

abbrev pub shown_or_blank : Option Held → Value
shown_or_blank None = blank
shown_or_blank (Some held) = value_of held

-- the value of the number
abbrev pub held_at : Values → ℕ → Value
held_at values i = shown_or_blank (slice_get values.items.items i)

-- both have the same value of each number
abbrev pub KeepsValues : Values → Values → Type 0
KeepsValues old new = held_at new ≡ held_at old

-- the value of the register
abbrev pub register_in : Registers → ℕ → Value
register_in registers r = if r == result_register then value_of registers.result else if r == exception_register then value_of registers.exception else held_at registers.values r

abbrev pub frame_in : Called → Frame
frame_in called = record { method = called.method; pc = called.pc; registers = register_in called.registers; initialises = called.initialises }

-- the registers of a body that is entered with these arguments: in so many registers from the first on, and blanks elsewhere
abbrev pub entered_from : ℕ → ℕ → List Value → ℕ → Value
entered_from first count arguments r = if nat_le first r && nat_lt r (first + count) then value_or_blank arguments (r - first) else blank

-- what was drawn, and the bytes behind it
abbrev pub bytes_behind : {A : Type 0} → A × Script → A × List ℕ
bytes_behind drawn = (drawn.0, drawn.1.left.now)
