-- The heap of a run, as the machine says it.
use Rattle.std.specs.Prelude.{List, map}
use Rattle.app_machine.specs.Heap.{Object}
use Rattle.runner_heap.specs.declared.heap.Heap.{Heap}
use Rattle.runner_heap.specs.Shown.{object_of}

abbrev pub heap_of : Heap → List Object
heap_of heap = map object_of heap.objects.items
