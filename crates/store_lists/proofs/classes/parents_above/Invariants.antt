use Rattle.vet_base.specs.Script.{run}
use Rattle.store_lists.specs.Classes.{parent_row, parents_above}
use Rattle.store_lists.proofs.classes.parents_above.Given as goal
use Rattle.vet_base.proofs.Eaches.{Eaches}

abbrev pub invariant-loop-parent : goal.invariant-loop-parent
invariant-loop-parent l = Eaches l.parents l.parent-index (parent_row l.classes) l.above (run (parents_above l.classes l.parents l.name))
