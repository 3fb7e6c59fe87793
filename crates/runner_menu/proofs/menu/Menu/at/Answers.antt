use Rattle.std.proofs.Common.{◌+◌, List, length, option_map, slice_get, sym, ap, ◌∙◌}
use Rattle.runner_choices.specs.declared.table.ComponentTable.{ComponentTable}
use Rattle.runner_choices.specs.Choices.{event_of}
use Rattle.runner_menu.proofs.Chosen.{chosen_behind, chosen_here}
use Rattle.runner_menu.proofs.menu.Menu.at.Goals as goal
use Rattle.runner_menu.specs.Tables.{components_in}
use Rattle.runner_world.specs.World.{world_in}

pub returns-in-Here : goal.returns-in-Here
returns-in-Here c = chosen_here c.args.app.now c.args.lists.now (world_in c.args.world.now) c.args.self.now c.requires.ready c.args.index (event_of (world_in c.args.world.now) c.in-Here.choice) (ap (λ (tables : List ComponentTable). slice_get (components_in c.args.app.now (world_in c.args.world.now) tables) c.args.index) (sym c.as_slice.ensures.value) ∙ c.in-Here.ensures)

pub returns-in-Past : goal.returns-in-Past
returns-in-Past c =
    chosen_behind c.args.app.now c.args.lists.now (world_in c.args.world.now) c.args.self.now c.requires.ready c.args.index c.in-Past.left (option_map (event_of (world_in c.args.world.now)) c.at.result) (c.in-Past.ensures ∙ ap (λ (tables : List ComponentTable). length (components_in c.args.app.now (world_in c.args.world.now) tables) + c.in-Past.left) c.as_slice.ensures.value) (c.at.ensures (world_in c.args.world.now))
