use Rattle.std.proofs.Common.{◌≡◌, ◌+◌, sym, subst}
use Rattle.register_readers.specs.Bounds.{most_of_all}
use Rattle.register_readers.specs.Found.{count_of_all}
use Rattle.register_readers.proofs.Counting.{counts_more}
use Rattle.register_readers.proofs.Indexing.{IndexedUpTo, indexed_more}
use Rattle.register_readers.proofs.finding.found_in_all.Goals as goal

pub loop-number-preserved : goal.loop-number-preserved
loop-number-preserved c = record {
  free = c.in_ok-found.ensures.free;
  indexed = subst (λ methods. IndexedUpTo c.args.app.now methods (c.loop-number.number + 1)) (sym c.in_ok-push.ensures.items)
      (indexed_more c.args.app.now c.loop-number.methods.items c.loop-number.number c.in_ok-found.found c.loop-number.invariant.indexed c.in_ok-found.ensures.found);
  counted = subst (λ methods. count_of_all methods + c.found_in.new.tools.budget.readers ≡ most_of_all) (sym c.in_ok-push.ensures.items)
      (counts_more c.loop-number.methods.items c.in_ok-found.found c.loop-number.tools.budget.readers c.found_in.new.tools.budget.readers c.loop-number.invariant.counted c.in_ok-found.ensures.counted);
}
