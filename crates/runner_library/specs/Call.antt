-- A library call as the code has it.
use Rattle.std.specs.Prelude.{ℕ, ◌++◌, List, map}
use Rattle.app_machine.specs.declared.summary.Summary.{Summary}
use Rattle.app_machine.specs.Heap.{Value}
use Rattle.app_machine.specs.Library.{positions, result_shared}
use Rattle.app_machine.specs.Lookups.{is_static_call}
use Rattle.app_parts.specs.Views.{shown_summary}
use Rattle.runner_library.specs.Over.{shared_number}
use Rattle.runner_library.specs.declared.calling.LibraryCall.{LibraryCall}

-- what the lists say of it
abbrev pub row_in : LibraryCall → Summary
row_in call = shown_summary call.view call.at.now (is_static_call call.kind)

-- the values of its positions
abbrev pub values_in : LibraryCall → (ℕ → Value) → List Value
values_in call registers = map registers (positions call.kind call.at.now call.args.now)

-- the shared objects that its stores and its result name
abbrev pub shared_in : LibraryCall → List ℕ
shared_in call = map shared_number (row_in call).stores ++ result_shared (row_in call).gives
