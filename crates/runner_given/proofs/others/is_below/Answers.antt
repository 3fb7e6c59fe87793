use Rattle.std.proofs.Common.{ap, ◌∙◌}
use Rattle.played_machine.specs.Reading.{is_of_type}
use Rattle.played_growth.proofs.Growing.{class_is}
use Rattle.runner_given.proofs.others.is_below.Goals as goal
use Rattle.runner_heap.specs.Objects.{heap_of}

pub returns-in-None : goal.returns-in-None
returns-in-None c = ap (is_of_type c.args.index.now.0 c.args.index.now.1 c.args.kind.now) (c.in-None.ensures ∙ class_is (heap_of c.args.heap.now) c.args.place)

pub returns-in-Some : goal.returns-in-Some
returns-in-Some c = c.is_below.ensures ∙ ap (is_of_type c.args.index.now.0 c.args.index.now.1 c.args.kind.now) (c.in-Some.ensures ∙ class_is (heap_of c.args.heap.now) c.args.place)
