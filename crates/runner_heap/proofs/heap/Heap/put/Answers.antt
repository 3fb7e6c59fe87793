use Rattle.std.proofs.Common.{sym, subst}
use Rattle.app_machine.specs.Heap.{put_to}
use Rattle.played_alike.specs.Alike.{AlikeHeap}
use Rattle.runner_heap.specs.Objects.{heap_of}
use Rattle.runner_heap.proofs.Places.{alike_all}
use Rattle.runner_heap.proofs.heap.Heap.put.Goals as goal
use Rattle.runner_state.specs.Shown.{value_of}

pub returns-in-None-clause-ok : goal.returns-in-None-clause-ok
returns-in-None-clause-ok c = subst (λ o. AlikeHeap (put_to (heap_of c.args.self.now) o c.args.key (value_of c.args.value)) (heap_of c.args.self.now)) (sym c.in-None.is) (alike_all c.args.self.now.objects.items)
