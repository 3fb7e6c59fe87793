use Rattle.std.proofs.Common.{◌≡◌, ◌++◌}
use Rattle.std.specs.Map.{values_of}
use Rattle.runner_heap.proofs.entity.Entity.add_fields.Given as goal

abbrev pub invariant-loop-entry : goal.invariant-loop-entry
invariant-loop-entry l = l.out.items ++ values_of l.entry-iterator ≡ l.initial.out.items ++ values_of l.self.fields.entries
