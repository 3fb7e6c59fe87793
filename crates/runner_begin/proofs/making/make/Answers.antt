use Rattle.std.proofs.Common.{◌∷◌, ◌++◌, [], ap, ◌∙◌}
use Rattle.app_machine.specs.Heap.{Object}
use Rattle.runner_begin.proofs.Made.{object_is}
use Rattle.runner_begin.proofs.making.make.Goals as goal
use Rattle.runner_heap.specs.Objects.{heap_of}
use Rattle.runner_heap.specs.Shown.{object_of}

pub returns : goal.returns
returns c =
    c.in_ok-add.ensures.ok
    ∙ ap (λ (o : Object). heap_of c.args.heap.now ++ o ∷ []) (object_is (object_of c.new.result) c.args.one c.new.ensures.class (c.new.ensures.entries ∙ c.in_ok-elements.ensures))
