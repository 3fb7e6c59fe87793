use Rattle.std.proofs.Common.{◌≡◌, ◌++◌, take}
use Rattle.runner_heap.proofs.entity.Entity.add_elements.Given as goal

abbrev pub invariant-loop-value : goal.invariant-loop-value
invariant-loop-value l = l.out.items ≡ l.initial.out.items ++ take l.value-index l.self.elements.items
