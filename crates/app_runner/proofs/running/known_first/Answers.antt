use Rattle.std.proofs.Common.{ap}
use Rattle.app_machine.specs.declared.app.App.{App}
use Rattle.app_machine.specs.declared.lists.Lists.{Lists}
use Rattle.app_runner.proofs.running.known_first.Goals as goal
use Rattle.played_growth.specs.Growth.{classes_of}
use Rattle.played_machine.specs.Drawn.{start}
use Rattle.played_machine.specs.Reading.{handed_places}

pub of-requires-clause-of_app : goal.of-requires-clause-of_app
of-requires-clause-of_app c = ap (λ (e : App × Lists). e.0) c.requires.events

pub of-requires-clause-of_lists : goal.of-requires-clause-of_lists
of-requires-clause-of_lists c = ap (λ (e : App × Lists). e.1) c.requires.events

pub returns : goal.returns
returns c = record {
  menu = c.in_ok-menu.ensures (classes_of start.world.heap) (handed_places start.world.handed);
  belows = c.new.ensures c.args.ground.now.app.now c.args.ground.now.lists.now (classes_of start.world.heap) (handed_places start.world.handed);
}
