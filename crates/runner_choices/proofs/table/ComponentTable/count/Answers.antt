use Rattle.std.proofs.Common.{filter_map, length, map, ap, ◌∙◌, arith}
use Rattle.std.proofs.lemmas.List.{length-append}
use Rattle.app_machine.specs.State.{ComponentState}
use Rattle.app_model.specs.EventBodies.{shown_callback}
use Rattle.runner_choices.specs.Choices.{by_state, life_with}
use Rattle.runner_choices.proofs.table.ComponentTable.count.Goals as goal
use Rattle.runner_world.specs.World.{world_in}

pub returns : goal.returns
returns c =
    let w = world_in c.args.world.now in
    let long = length-append (filter_map (life_with w c.args.number c.args.self.now.class.now c.args.begins) c.args.self.now.lives.items) (by_state w (w.components c.args.number) c.args.begins (map shown_callback c.args.self.now.called.items) c.args.self.now.initialisers.items) in
    let others = c.other_count-others.ensures w ∙ ap (λ (s : ComponentState). length (by_state w s c.args.begins (map shown_callback c.args.self.now.called.items) c.args.self.now.initialisers.items)) c.get.ensures in
    omega (arith, long, others, c.life_count-lives.ensures, c.in_ok-all.ensures)
