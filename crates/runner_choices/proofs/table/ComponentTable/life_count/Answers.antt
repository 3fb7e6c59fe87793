use Rattle.std.proofs.Common.{◌≡◌, ◌+◌, ◌≤◌, List, filter_map, length, take, ap, subst, ◌∙◌}
use Rattle.std.specs.Prelude.{option_to_list}
use Rattle.runner_choices.specs.declared.lives.LifeRow.{LifeRow}
use Rattle.runner_choices.specs.Choices.{life_with}
use Rattle.runner_choices.proofs.Lived.{none_counted, one_counted}
use Rattle.runner_choices.proofs.table.ComponentTable.life_count.Goals as goal
use Rattle.runner_world.specs.World.{world_in}

pub loop-row-init : goal.loop-row-init
loop-row-init c = none_counted (life_with (world_in c.args.world.now) c.args.number c.args.self.now.class.now c.args.begins) c.args.self.now.lives.items

pub loop-row-preserved : goal.loop-row-preserved
loop-row-preserved c =
    let f = life_with (world_in c.args.world.now) c.args.number c.args.self.now.class.now c.args.begins in
    subst (λ (rows : List LifeRow). (c.loop-row.count ≡ length (filter_map f (take c.loop-row.row-index rows))) × (c.loop-row.count ≤ c.loop-row.row-index) →
    (c.loop-row.count + c.count_of-count.result ≡ length (filter_map f (take (c.loop-row.row-index + 1) rows))) × (c.loop-row.count + c.count_of-count.result ≤ c.loop-row.row-index + 1)) c.deref-row-items.ensures.value
    (λ so_far. one_counted f c.deref-row-items.result.now c.loop-row.row-index _ c.loop-row.count c.count_of-count.result c.loop-row-test.true
    (c.count_of-count.ensures.count (world_in c.args.world.now) ∙ ap (λ o. length (option_to_list o)) c.life_choice.ensures) c.count_of-count.ensures.few so_far) c.loop-row.invariant
