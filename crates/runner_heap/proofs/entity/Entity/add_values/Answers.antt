use Rattle.runner_heap.specs.Shown.{object_of}
use Rattle.runner_heap.proofs.Added.{adds_values}
use Rattle.runner_heap.proofs.entity.Entity.add_values.Goals as goal

pub returns-clause-values : goal.returns-clause-values
unfolding object_of
returns-clause-values c =
    adds_values c.args.self.now.elements.items c.args.self.now.fields.entries c.in_ok-add_fields.ensures.found c.args.out.now.items c.add_elements.new.out.items c.add_fields.new.out.items
    c.in_ok-add_elements.ensures c.in_ok-add_fields.ensures.values
