use Rattle.runner_heap.specs.Shown.{object_of}
use Rattle.runner_heap.proofs.Under.{field_added}
use Rattle.runner_heap.proofs.entity.Entity.put_field.Goals as goal

pub returns-clause-ok : goal.returns-clause-ok
unfolding object_of
returns-clause-ok c = field_added c.args.self.now.class.now c.args.self.now.elements.items c.args.self.now.fields.entries c.insert.new.self.entries c.args.number c.args.value c.in_ok-before.ensures.updates.0
