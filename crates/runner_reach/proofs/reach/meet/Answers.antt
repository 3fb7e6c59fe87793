use Rattle.std.proofs.Common.{length, arith}
use Rattle.runner_heap.specs.Objects.{heap_of}
use Rattle.runner_reach.proofs.Meeting.{meets_if}
use Rattle.runner_reach.proofs.reach.meet.Goals as goal

pub returns : goal.returns
returns c =
    meets_if (length (heap_of c.args.heap.now)) c.args.place c.args.met.now c.insert.new.self (omega arith) c.requires c.in_ok-is_new.ensures.updates.0 c.in_ok-is_new.ensures.updates.1 c.in_ok-is_new.ensures.keys c.insert.ensures.ordered
    c.in_ok-is_new.is_new c.in_ok-is_new.ensures.added c.in_ok-is_new.ensures.unchanged c.in_ok-is_new.ensures.len
