use Rattle.std.proofs.Common.{get_or, ◌∙◌, arith}
use Rattle.std.proofs.lemmas.Option.{slice_get-get_or}
use Rattle.played_growth.specs.Growth.{classes_of}
use Rattle.played_growth.proofs.Growing.{class_is}
use Rattle.runner_below.proofs.Looked.{all_seen, one_seen}
use Rattle.runner_below.proofs.looking.look.Goals as goal
use Rattle.runner_heap.specs.Objects.{heap_of}

pub loop-i-preserved : goal.loop-i-preserved
loop-i-preserved c =
    one_seen c.args.index.now.0 c.args.index.now.1 c.args.kind.now (classes_of (heap_of c.args.heap.now)) c.args.handed.now c.loop-i.i (get_or c.args.handed.now c.loop-i.i 0) c.in-Some.class.now c.loop-i.places.items c.add.new.places.items
    (slice_get-get_or c.args.handed.now c.loop-i.i 0 (omega arith)) (c.in-Some.ensures ∙ class_is (heap_of c.args.heap.now) (get_or c.args.handed.now c.loop-i.i 0)) c.in_ok-add-in-Some.ensures c.loop-i.invariant

pub returns : goal.returns
returns c = all_seen c.args.index.now.0 c.args.index.now.1 c.args.kind.now (classes_of (heap_of c.args.heap.now)) c.args.handed.now c.loop-i.i c.loop-i.places.items (omega arith) c.loop-i.invariant
