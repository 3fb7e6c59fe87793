use Rattle.std.proofs.Common.{take}
use Rattle.runner_choices.specs.Table.{menu_of}
use Rattle.runner_stands.specs.Stands.{MarksMore}
use Rattle.runner_stands.proofs.bodies.mark_listed.Given as goal
use Rattle.runner_world.specs.World.{world_in}

abbrev pub invariant-loop-index : goal.invariant-loop-index
invariant-loop-index l = MarksMore l.app (take l.index (menu_of (world_in l.world) l.number l.begins l.table)) l.initial.marks.items l.marks.items
