use Rattle.std.proofs.Common.{◌≡◌, ◌+◌, filter_map, length, take}
use Rattle.runner_choices.specs.Choices.{life_with}
use Rattle.runner_choices.proofs.table.ComponentTable.life_at.Given as goal
use Rattle.runner_world.specs.World.{world_in}

abbrev pub invariant-loop-row : goal.invariant-loop-row
invariant-loop-row l = l.index ≡ length (filter_map (life_with (world_in l.world) l.number l.self.class.now l.begins) (take l.row-index l.self.lives.items)) + l.left
