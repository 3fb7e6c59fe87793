use Rattle.std.proofs.Common.{◌++◌, map, get_or, arith}
use Rattle.std.proofs.lemmas.Option.{slice_get-get_or}
use Rattle.played_growth.specs.Growth.{classes_of}
use Rattle.runner_below.proofs.Looked.{rest_begins, rest_ends, rest_more}
use Rattle.runner_below.proofs.looking.add_rest.Goals as goal
use Rattle.runner_heap.specs.Objects.{heap_of}

pub loop-i-init : goal.loop-i-init
loop-i-init c = rest_begins c.args.index.now.0 c.args.index.now.1 c.args.kind.now (classes_of (heap_of c.args.heap.now)) (map (λ k. k.now) c.args.fresh.now) c.args.handed.now c.args.seen c.args.places.now.items c.requires.so_far

pub loop-i-preserved : goal.loop-i-preserved
loop-i-preserved c =
    rest_more c.args.index.now.0 c.args.index.now.1 c.args.kind.now (classes_of (heap_of c.args.heap.now) ++ map (λ k. k.now) c.args.fresh.now) c.args.handed.now c.loop-i.i (get_or c.args.handed.now c.loop-i.i 0) c.loop-i.places.items c.add_behind.new.places.items
    (slice_get-get_or c.args.handed.now c.loop-i.i 0 (omega arith)) c.in_ok-add_behind.ensures c.loop-i.invariant

pub returns : goal.returns
returns c = rest_ends c.args.index.now.0 c.args.index.now.1 c.args.kind.now (classes_of (heap_of c.args.heap.now)) (map (λ k. k.now) c.args.fresh.now) c.args.handed.now c.loop-i.i c.loop-i.places.items (omega arith) c.loop-i.invariant
