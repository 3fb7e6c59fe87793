use Rattle.std.proofs.Common.{ap, ◌∙◌}
use Rattle.app_machine.specs.Heap.{Value}
use Rattle.app_machine.specs.Lookups.{elem_key}
use Rattle.played_machine.specs.Local.{got}
use Rattle.runner_given.proofs.giving.taken.Goals as goal
use Rattle.runner_heap.specs.Objects.{heap_of}

pub returns : goal.returns
returns c = c.got.ensures ∙ ap (λ (v : Value). got (heap_of c.args.world.now.heap) v elem_key c.args.script.left.now) c.value_at.ensures
