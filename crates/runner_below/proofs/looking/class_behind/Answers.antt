use Rattle.std.proofs.Common.{map}
use Rattle.runner_below.proofs.Looked.{class_before, class_past, past_heap}
use Rattle.runner_below.proofs.looking.class_behind.Goals as goal
use Rattle.runner_heap.specs.Objects.{heap_of}

pub returns-in-Some : goal.returns-in-Some
returns-in-Some c = class_before (heap_of c.args.heap.now) (map (λ k. k.now) c.args.fresh.now) c.args.place c.in-Some.class.now c.in-Some.ensures

pub fresh_at-requires : goal.fresh_at-requires
fresh_at-requires c = past_heap (heap_of c.args.heap.now) (map (λ k. k.now) c.args.fresh.now) c.args.place c.next_place.result c.in-None.ensures c.next_place.ensures

pub returns-in-None : goal.returns-in-None
returns-in-None c = class_past (heap_of c.args.heap.now) (map (λ k. k.now) c.args.fresh.now) c.args.place c.next_place.result _ c.in-None.ensures c.next_place.ensures c.fresh_at.ensures
