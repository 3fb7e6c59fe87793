-- What a call comes to, and where a raised value leads.
-- Android documentation, Dalvik bytecode: the notes on `invoke-kind`; Java Virtual Machine Specification, "Exceptions".
use Rattle.std.specs.Prelude.{◌≡◌, ℕ, IsTrue, IsFalse, List, [], ◌∷◌, map, Option, Some, None}
use Rattle.app_machine.specs.declared.call.MethodRef.{MethodRef}
use Rattle.app_machine.specs.declared.call.CallKind.{CallKind}
use Rattle.app_machine.specs.declared.app.App.{App}
use Rattle.vet_base.specs.Members.{IsAt}
use Rattle.app_machine.specs.Names.{Name}
use Rattle.app_machine.specs.Lookups.{Target, target, is_by_receiver, Catches}
use Rattle.app_machine.specs.Heap.{Value, Object, blank, ClassAt}
use Rattle.app_machine.specs.State.{exception_register, write, Frame}

-- The target of a call in the running frame: by the class of the receiver's object in a virtual or interface call, where the
-- receiver has a place.
pub data CallsTo (app : App) (heap : List Object) (f : Frame) (kind : CallKind) (at : MethodRef) (args : List ℕ) : Target → Type 0 where
  by_name : {t : Target} →
      IsFalse (is_by_receiver kind) →
      target app kind f.method at None ≡ t →
      CallsTo app heap f kind at args t
  by_nothing : {t : Target} →
      IsTrue (is_by_receiver kind) →
      ((x : ℕ) → IsAt args 0 x → (f.registers x).place ≡ None) →
      target app kind f.method at None ≡ t →
      CallsTo app heap f kind at args t
  by_class : {t : Target} {x p : ℕ} (class : Name) →
      IsTrue (is_by_receiver kind) →
      IsAt args 0 x →
      (f.registers x).place ≡ Some p →
      ClassAt heap p class →
      target app kind f.method at (Some class) ≡ t →
      CallsTo app heap f kind at args t

-- the values of the argument registers
abbrev pub arguments : Frame → List ℕ → List Value
arguments f args = map f.registers args

-- A raised value goes to a handler that covers the instruction, or takes the frame away and goes on in the caller at its
-- instruction; below the bottom frame the event ends.
pub data Raises (app : App) : List Frame → Value → List Frame → Type 0 where
  is_caught : {f : Frame} {fs : List Frame} {v : Value} {pc : ℕ} →
      Catches app f.method f.pc pc →
      Raises app (f ∷ fs) v (record f { pc = pc; registers = write f.registers exception_register v } ∷ fs)
  unwinds : {f : Frame} {fs gs : List Frame} {v : Value} →
      Raises app fs v gs →
      Raises app (f ∷ fs) v gs
  ends_event : {v : Value} → Raises app [] v []

-- the value that a return gives
abbrev pub returned : Frame → Option ℕ → Value
returned f None = blank
returned f (Some x) = f.registers x

-- the handed places with that of a bottom frame's result
abbrev pub hand : Option ℕ → List ℕ → List ℕ
hand None handed = handed
hand (Some p) handed = p ∷ handed
