use Rattle.std.proofs.Common.{map}
use Rattle.app_parts.specs.Views.{shown_summary}
use Rattle.runner_heap.specs.Objects.{heap_of}
use Rattle.runner_library.proofs.Joined.{HasFrom}
use Rattle.runner_library.proofs.joining.joined.Given as goal
use Rattle.runner_state.specs.Shown.{value_of}

abbrev pub invariant-loop-position : goal.invariant-loop-position
invariant-loop-position l = HasFrom (heap_of l.heap) (map value_of l.values) (shown_summary l.view l.at l.is_static).gives (shown_summary l.view l.at l.is_static).source l.labels l.position
