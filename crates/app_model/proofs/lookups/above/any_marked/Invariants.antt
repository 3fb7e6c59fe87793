use Rattle.app_model.specs.Above.{has}
use Rattle.app_model.specs.Marks.{is_marked}
use Rattle.app_model.proofs.Searches.{Searched, undone}
use Rattle.app_model.proofs.lookups.above.any_marked.Given as goal

abbrev pub invariant-loop-i : goal.invariant-loop-i
invariant-loop-i l = Searched l.app (has l.quality) l.class (is_marked l.seen.words) (is_marked l.waiting.words)

abbrev pub decreases-loop-i : goal.decreases-loop-i
decreases-loop-i l = undone 131072 (is_marked l.seen.words) (is_marked l.waiting.words)
