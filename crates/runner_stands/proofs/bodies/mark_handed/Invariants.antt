use Rattle.std.proofs.Common.{take}
use Rattle.runner_handed.specs.Menu.{menu_in}
use Rattle.runner_stands.specs.Stands.{MarksMore}
use Rattle.runner_stands.proofs.bodies.mark_handed.Given as goal
use Rattle.runner_world.specs.World.{world_in}

abbrev pub invariant-loop-index : goal.invariant-loop-index
invariant-loop-index l = MarksMore l.ground.app.now (take l.index (menu_in (world_in l.world) l.ground.lists.now l.menu)) l.initial.marks.items l.marks.items
