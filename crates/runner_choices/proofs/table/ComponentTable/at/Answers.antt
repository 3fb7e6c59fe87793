use Rattle.std.proofs.Common.{filter_map, map, subst}
use Rattle.app_machine.specs.State.{ComponentState}
use Rattle.app_model.specs.EventBodies.{shown_callback}
use Rattle.runner_choices.specs.Choices.{by_state, event_of, life_with}
use Rattle.runner_choices.specs.Meeting.{MeetsAt}
use Rattle.runner_choices.proofs.Lived.{met_before, met_behind}
use Rattle.runner_choices.proofs.table.ComponentTable.at.Goals as goal
use Rattle.runner_world.specs.World.{world_in}

pub returns-in-Here : goal.returns-in-Here
returns-in-Here c =
    let w = world_in c.args.world.now in
    met_before w (filter_map (life_with w c.args.number c.args.self.now.class.now c.args.begins) c.args.self.now.lives.items) (by_state w (w.components c.args.number) c.args.begins (map shown_callback c.args.self.now.called.items) c.args.self.now.initialisers.items)
    c.args.index (event_of w c.in-Here.choice) c.in-Here.ensures

pub returns-in-Past : goal.returns-in-Past
returns-in-Past c =
    let w = world_in c.args.world.now in
    met_behind w (filter_map (life_with w c.args.number c.args.self.now.class.now c.args.begins) c.args.self.now.lives.items) (by_state w (w.components c.args.number) c.args.begins (map shown_callback c.args.self.now.called.items) c.args.self.now.initialisers.items)
    c.args.index c.in-Past.left c.other_at.result c.in-Past.ensures
    (subst (λ (s : ComponentState). MeetsAt w (by_state w s c.args.begins (map shown_callback c.args.self.now.called.items) c.args.self.now.initialisers.items) c.in-Past.left c.other_at.result) c.get.ensures (c.other_at.ensures w))
