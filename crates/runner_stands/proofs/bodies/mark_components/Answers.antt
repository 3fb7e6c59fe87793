use Rattle.std.proofs.Common.{◌≡◌, flat_map, length, refl, subst, ◌∙◌, arith}
use Rattle.std.proofs.lemmas.Option.{slice_get_read}
use Rattle.app_machine.specs.Summaries.{numbers_from}
use Rattle.played_machine.specs.Coming.{component_events}
use Rattle.runner_handed.proofs.Walked.{flat_next}
use Rattle.runner_stands.specs.Stands.{MarksMore}
use Rattle.runner_stands.proofs.Marked.{marks_next, nothing_yet}
use Rattle.runner_stands.proofs.bodies.mark_components.Goals as goal
use Rattle.runner_world.specs.World.{world_in}

pub loop-number-init : goal.loop-number-init
loop-number-init c = nothing_yet c.args.ground.now.app.now c.args.marks.now.items

pub mark_component-requires-clause-there : goal.mark_component-requires-clause-there
mark_component-requires-clause-there c =
    slice_get_read c.args.ground.now.app.now.components (length c.args.ground.now.app.now.components) c.loop-number.number c.at-component.result.now refl (omega (arith, c.component_count-number-end.ensures)) c.at-component.ensures

pub mark_component-requires-clause-long : goal.mark_component-requires-clause-long
mark_component-requires-clause-long c = c.loop-number.invariant.long ∙ c.requires.long

pub loop-number-preserved : goal.loop-number-preserved
loop-number-preserved c =
    marks_next c.args.ground.now.app.now (flat_map (component_events c.args.ground.now.app.now c.args.ground.now.lists.now (world_in c.args.world.now)) (numbers_from 0 c.loop-number.number)) (component_events c.args.ground.now.app.now c.args.ground.now.lists.now (world_in c.args.world.now) c.loop-number.number) _
    c.args.marks.now.items c.loop-number.marks.items c.mark_component.new.marks.items (flat_next (component_events c.args.ground.now.app.now c.args.ground.now.lists.now (world_in c.args.world.now)) c.loop-number.number) c.in_ok-mark_component.ensures c.loop-number.invariant

pub returns : goal.returns
returns c =
    let same : c.loop-number.number ≡ length c.args.ground.now.app.now.components = omega (arith, c.component_count-number-end.ensures) in
    subst (λ n. MarksMore c.args.ground.now.app.now (flat_map (component_events c.args.ground.now.app.now c.args.ground.now.lists.now (world_in c.args.world.now)) (numbers_from 0 n)) c.args.marks.now.items c.loop-number.marks.items) same c.loop-number.invariant
