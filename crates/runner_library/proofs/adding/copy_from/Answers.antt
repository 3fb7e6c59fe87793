use Rattle.std.proofs.Common.{◌++◌, Some, map, inr, sym, ap, ◌∙◌}
use Rattle.played_machine.specs.Librarian.{copied}
use Rattle.runner_heap.specs.Objects.{heap_of}
use Rattle.runner_library.proofs.Added.{copied_none, copied_some}
use Rattle.runner_library.proofs.adding.copy_from.Goals as goal
use Rattle.runner_library.specs.Over.{added_of}

pub returns-in-None : goal.returns-in-None
returns-in-None c = copied_none (heap_of c.args.heap.now) (Some c.args.from) c.args.to c.args.all.now.items (inr c.in-None.is)

pub returns-in_ok-add_to-in-Some : goal.returns-in_ok-add_to-in-Some
returns-in_ok-add_to-in-Some c =
    copied_some (heap_of c.args.heap.now) c.args.from c.in-Some.to c.elements.result.now c.args.all.now.items c.add_to.new.all.items c.elements.ensures c.in_ok-add_to-in-Some.ensures
    ∙ ap (λ o. map added_of c.args.all.now.items ++ copied (heap_of c.args.heap.now) (Some c.args.from) o) (sym c.in-Some.is)
