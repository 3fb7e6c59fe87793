use Rattle.runner_heap.specs.Objects.{heap_of}
use Rattle.runner_library.proofs.Joined.{joins_none, joins_reached}
use Rattle.runner_library.proofs.joining.with_reached.Goals as goal
use Rattle.runner_state.specs.Shown.{value_of}

pub returns-then-not-joins : goal.returns-then-not-joins
returns-then-not-joins c l = joins_none (heap_of c.args.heap.now) (value_of c.args.value) c.args.labels l c.args.joins c.if-not-joins.true

pub returns : goal.returns
returns c l = joins_reached (heap_of c.args.heap.now) (value_of c.args.value) c.args.labels c.in_ok-more.more c.joined.result l c.args.joins c.if-not-joins.false c.in_ok-more.ensures (c.joined.ensures l)
