use Rattle.std.proofs.Common.{map, ap, ◌∙◌}
use Rattle.runner_heap.specs.Shown.{object_of}
use Rattle.runner_heap.proofs.Under.{elements_read}
use Rattle.runner_heap.proofs.entity.Entity.elements.Goals as goal
use Rattle.runner_state.specs.Shown.{value_of}

pub returns : goal.returns
unfolding object_of
returns c = ap (map value_of) c.as_slice.ensures.value ∙ elements_read c.args.self.now.elements.items c.args.self.now.fields.entries
