use Rattle.std.proofs.Common.{◌≡◌, ◌+◌, List, Some, filter_map, length, slice_get, take, sym, ap, subst, ◌∙◌, arith}
use Rattle.std.specs.Prelude.{option_to_list}
use Rattle.runner_choices.specs.declared.lives.LifeRow.{LifeRow}
use Rattle.runner_choices.specs.Choices.{event_of, life_with}
use Rattle.runner_choices.proofs.Lived.{met_in, past_all, past_more}
use Rattle.runner_choices.proofs.table.ComponentTable.life_at.Goals as goal
use Rattle.runner_world.specs.World.{world_in}

pub loop-row-init : goal.loop-row-init
loop-row-init c = omega arith

pub returns-in-Here : goal.returns-in-Here
returns-in-Here c =
    let w = world_in c.args.world.now in
    let f = life_with w c.args.number c.args.self.now.class.now c.args.begins in
    subst (λ (rows : List LifeRow). c.args.index ≡ length (filter_map f (take c.loop-row.row-index rows)) + c.loop-row.left → slice_get (filter_map f rows) c.args.index ≡ Some (event_of w c.in-Here.choice)) c.deref-row-items.ensures.value
    (λ so_far. met_in w f c.deref-row-items.result.now c.loop-row.row-index _ c.args.index c.loop-row.left (event_of w c.in-Here.choice)
    c.loop-row-test.true so_far (ap (λ o. slice_get (option_to_list o) c.loop-row.left) (sym c.life_choice.ensures) ∙ c.in-Here.ensures w)) c.loop-row.invariant

pub loop-row-preserved : goal.loop-row-preserved
loop-row-preserved c =
    let w = world_in c.args.world.now in
    let f = life_with w c.args.number c.args.self.now.class.now c.args.begins in
    subst (λ (rows : List LifeRow). c.args.index ≡ length (filter_map f (take c.loop-row.row-index rows)) + c.loop-row.left → c.args.index ≡ length (filter_map f (take (c.loop-row.row-index + 1) rows)) + c.in-Past.rest) c.deref-row-items.ensures.value
    (λ so_far. past_more w f c.deref-row-items.result.now c.loop-row.row-index _ c.args.index c.loop-row.left c.in-Past.rest
    c.loop-row-test.true so_far (c.in-Past.ensures w ∙ ap (λ o. length (option_to_list o) + c.in-Past.rest) c.life_choice.ensures)) c.loop-row.invariant

pub returns : goal.returns
returns c =
    past_all (world_in c.args.world.now) (life_with (world_in c.args.world.now) c.args.number c.args.self.now.class.now c.args.begins) c.args.self.now.lives.items c.loop-row.row-index c.args.index c.loop-row.left (omega arith) c.loop-row.invariant
