use Rattle.std.proofs.Common.{flat_map}
use Rattle.app_machine.specs.Summaries.{numbers_from}
use Rattle.played_machine.specs.Coming.{component_events}
use Rattle.runner_stands.specs.Stands.{MarksMore}
use Rattle.runner_stands.proofs.bodies.mark_components.Given as goal
use Rattle.runner_world.specs.World.{world_in}

abbrev pub invariant-loop-number : goal.invariant-loop-number
invariant-loop-number l = MarksMore l.ground.app.now (flat_map (component_events l.ground.app.now l.ground.lists.now (world_in l.world)) (numbers_from 0 l.number)) l.initial.marks.items l.marks.items
