-- What a call comes to, and which bodies have code.
use Rattle.std.specs.Prelude.{ℕ, Bool, false, if◌then◌else◌, List, Option, Some, None, option_map, slice_get, filter_map}
use Rattle.app_machine.specs.declared.app.App.{App}
use Rattle.app_machine.specs.declared.call.CallKind.{CallKind}
use Rattle.app_machine.specs.declared.call.MethodRef.{MethodRef}
use Rattle.app_machine.specs.declared.lists.Lists.{Lists}
use Rattle.app_machine.specs.declared.lists.SummaryId.{SummaryId}
use Rattle.app_machine.specs.declared.method.Method.{Method}
use Rattle.app_machine.specs.declared.summary.Summary.{Summary}
use Rattle.app_machine.specs.Heap.{Object}
use Rattle.app_machine.specs.Lookups.{Target, target, is_by_receiver, is_static_call}
use Rattle.app_machine.specs.Names.{Name}
use Rattle.app_machine.specs.State.{Frame}
use Rattle.app_machine.specs.Summaries.{library_key, summary}
use Rattle.played_machine.specs.Reading.{class_at}

abbrev pub unless_native : Method → Option Method
unless_native m = if m.is_native then None else Some m

abbrev pub if_code : Option Method → Option Method
if_code None = None
if_code (Some m) = unless_native m

-- the method of this number, where it has code
unfoldable pub code_of : App → ℕ → Option Method
code_of app body = if_code (slice_get app.methods body)

abbrev pub if_native : Option Method → Bool
if_native None = false
if_native (Some m) = m.is_native

unfoldable pub is_native_body : App → ℕ → Bool
is_native_body app body = if_native (slice_get app.methods body)

abbrev pub with_code : App → ℕ → Option (ℕ × Method)
with_code app body = option_map (λ m. (body, m)) (code_of app body)

-- those of the bodies that have code
abbrev pub bodies_with_code : App → List ℕ → List (ℕ × Method)
bodies_with_code app bodies = filter_map (with_code app) bodies

-- the place of the receiver
abbrev pub receiver_place : Frame → Option ℕ → Option ℕ
receiver_place f None = None
receiver_place f (Some x) = (f.registers x).place

abbrev pub target_at : App → List Object → ℕ → CallKind → MethodRef → Option ℕ → Option Target
target_at app heap method kind at None = Some (target app kind method at None)
target_at app heap method kind at (Some p) = option_map (λ class. target app kind method at (Some class)) (class_at heap p)

-- the target of a call: by the class of the receiver's object in a virtual or interface call, where it has a place
unfoldable pub call_target : App → List Object → Frame → CallKind → MethodRef → List ℕ → Option Target
call_target app heap f kind at args = if is_by_receiver kind then target_at app heap f.method kind at (receiver_place f (slice_get args 0)) else Some (target app kind f.method at None)

abbrev pub summary_by : Lists → MethodRef → Bool → Option SummaryId → Option Summary
summary_by lists at is_static None = None
summary_by lists at is_static (Some key) = summary lists key at is_static

-- what the lists say of a call that comes to the library class
unfoldable pub called_row : App → Lists → Name → CallKind → MethodRef → Option Summary
called_row app lists class kind at = summary_by lists at (is_static_call kind) (library_key app lists class at.name at.proto (is_static_call kind))
