use Rattle.std.proofs.Common.{arith}
use Rattle.runner_heap.specs.Objects.{heap_of}
use Rattle.runner_heap.proofs.Places.{alike_element, alike_field}
use Rattle.runner_heap.proofs.heap.Heap.put_at.Goals as goal
use Rattle.runner_state.specs.Shown.{value_of}

pub returns-then-key-eq0-clause-ok : goal.returns-then-key-eq0-clause-ok
returns-then-key-eq0-clause-ok c = alike_element c.args.self.now.objects.items (heap_of c.add_element.new.self) c.args.place c.args.key (value_of c.args.value) (omega arith) c.in_ok-add_element.ensures.ok

pub returns-clause-ok : goal.returns-clause-ok
returns-clause-ok c = alike_field c.args.self.now.objects.items (heap_of c.put_field.new.self) c.args.place c.args.key (value_of c.args.value) (λ e. absurd (omega (arith, e))) c.in_ok-put_field.ensures.ok
