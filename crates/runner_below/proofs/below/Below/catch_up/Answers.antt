use Rattle.std.proofs.Common.{map, sym, subst, arith}
use Rattle.played_growth.specs.Growth.{classes_of}
use Rattle.runner_below.specs.Below.{AreOfFirst}
use Rattle.runner_below.proofs.Looked.{seen_kept}
use Rattle.runner_below.proofs.below.Below.catch_up.Goals as goal
use Rattle.runner_heap.specs.Objects.{heap_of}

pub look-requires-clause-so_far : goal.look-requires-clause-so_far
look-requires-clause-so_far c =
    subst (λ ps. AreOfFirst c.args.index.now.0 c.args.index.now.1 (classes_of (heap_of c.args.heap.now)) c.args.handed.now c.args.self.now.kind.now c.args.self.now.seen ps) (sym c.truncate.ensures.items) c.requires.fits

pub returns-clause-fits : goal.returns-clause-fits
returns-clause-fits c =
    seen_kept c.args.index.now.0 c.args.index.now.1 c.args.self.now.kind.now (classes_of (heap_of c.args.heap.now)) (map (λ k. k.now) c.args.fresh.now) c.args.handed.now c.in_ok-seen.seen c.len-self.result c.look.new.places.items c.add_rest.new.places.items
    (omega (arith, c.len-self.ensures)) c.in_ok-seen.ensures c.in_ok-add_rest.ensures
