use Rattle.std.proofs.Common.{◌≡◌, ◌+◌}
use Rattle.register_readers.specs.Bounds.{most_of_all}
use Rattle.register_readers.specs.Found.{count_of_all}
use Rattle.register_readers.specs.Searched.{IsFree}
use Rattle.register_readers.proofs.Indexing.{IndexedUpTo}
use Rattle.register_readers.proofs.finding.found_in_all.Given as goal

abbrev pub invariant-loop-number : goal.invariant-loop-number
invariant-loop-number l = record {
  free : IsFree l.tools.search;
  indexed : IndexedUpTo l.app l.methods.items l.number;
  counted : count_of_all l.methods.items + l.tools.budget.readers ≡ most_of_all;
}
