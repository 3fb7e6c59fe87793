use Rattle.std.proofs.Common.{◌≡◌, ◌+◌, flat_map, length}
use Rattle.app_machine.specs.Summaries.{numbers_from}
use Rattle.runner_menu.proofs.Tabled.{own}
use Rattle.runner_menu.proofs.tables.event_at.Given as goal
use Rattle.runner_world.specs.World.{world_in}

abbrev pub invariant-loop-number : goal.invariant-loop-number
invariant-loop-number l = l.index ≡ length (flat_map (own l.app (world_in l.world) l.tables) (numbers_from 0 l.number)) + l.left
