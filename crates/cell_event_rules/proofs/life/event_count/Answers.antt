use Rattle.std.proofs.Common.{arith}
use Rattle.event_rules.proofs.Counts.{few_events}
use Rattle.cell_event_rules.proofs.life.event_count.Goals as goal

pub overflow_cast-result : goal.overflow_cast-result
overflow_cast-result c = let few = few_events c.in-Some.component.now.kind c.event_rows.result.now c.event_rows.ensures in omega arith
