use Rattle.std.proofs.Common.{arith}
use Rattle.event_index.proofs.event_index.EventIndex.callback_count.Goals as goal

pub overflow_cast-result : goal.overflow_cast-result
overflow_cast-result c = let few = c.self.invariant.lists.few_callbacks in let long = c.len.ensures in omega arith
