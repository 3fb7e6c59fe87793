use Rattle.runner_heap.specs.Shown.{object_of}
use Rattle.runner_heap.proofs.Under.{element_added}
use Rattle.runner_heap.proofs.entity.Entity.add_element.Goals as goal

pub returns-clause-ok : goal.returns-clause-ok
unfolding object_of
returns-clause-ok c = element_added c.args.self.now.class.now c.args.self.now.elements.items c.push.new.self.items c.args.self.now.fields.entries c.args.value c.in_ok-push.ensures.items
