use Rattle.played_growth.specs.Growth.{classes_of}
use Rattle.runner_handed.proofs.Rows.{Looked}
use Rattle.runner_handed.proofs.menu.HandedMenu.look_further.Given as goal
use Rattle.runner_heap.specs.Objects.{heap_of}

abbrev pub invariant-loop-i : goal.invariant-loop-i
invariant-loop-i l = Looked l.index.0 l.index.1 (classes_of (heap_of l.heap)) l.handed l.self.rows.items l.i l.self.whole
