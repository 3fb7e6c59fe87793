use Rattle.std.proofs.Common.{◌∙◌}
use Rattle.std.specs.Option.{option_copied}
use Rattle.runner_heap.specs.Shown.{object_of}
use Rattle.runner_heap.proofs.Under.{field_read}
use Rattle.runner_heap.proofs.entity.Entity.field.Goals as goal

pub returns : goal.returns
unfolding object_of
returns c = c.held_or_blank.ensures ∙ field_read c.args.number c.args.self.now.elements.items c.args.self.now.fields.entries (option_copied c.get.result) c.get.ensures.value
