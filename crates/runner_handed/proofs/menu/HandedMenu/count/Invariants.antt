use Rattle.std.proofs.Common.{◌≡◌, flat_map, length}
use Rattle.app_machine.specs.declared.lists.Lists.{Lists}
use Rattle.app_machine.specs.State.{World}
use Rattle.app_machine.specs.Summaries.{numbers_from}
use Rattle.runner_handed.proofs.Walked.{row_events}
use Rattle.runner_handed.proofs.menu.HandedMenu.count.Given as goal

abbrev pub invariant-loop-row : goal.invariant-loop-row
invariant-loop-row l = (w : World) (lists : Lists) → l.count ≡ length (flat_map (row_events l.self.rows.items w lists) (numbers_from 0 l.row))
