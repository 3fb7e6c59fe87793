use Rattle.std.proofs.Common.{◌≡◌, ◌∙◌, Bool, List, length, map, sym, ap, subst}
use Rattle.std.specs.Prelude.{IfOk}
use Rattle.played_machine.specs.Coming.{events}
use Rattle.played_machine.specs.Standing as standing
use Rattle.runner_stands.specs.Stands.{Marks, stand_of}
use Rattle.runner_stands.proofs.Marked.{all_listed, all_marked}
use Rattle.runner_stands.proofs.bodies.native_bodies.Goals as goal
use Rattle.runner_world.specs.World.{world_in}

pub mark_handed-requires-clause-long : goal.mark_handed-requires-clause-long
mark_handed-requires-clause-long c = c.in_ok-mark_components.ensures.long ∙ c.in_ok-marks.ensures.long

pub marked-requires-clause-long : goal.marked-requires-clause-long
marked-requires-clause-long c =
    ap (λ (marks : List Bool). length marks) c.as_slice.ensures.value ∙ (c.in_ok-mark_handed.ensures.long ∙ (c.in_ok-mark_components.ensures.long ∙ c.in_ok-marks.ensures.long))

pub returns : goal.returns
returns c =
    subst (λ (all : List standing.Stand). IfOk c.marked.result (λ stands. map stand_of stands.items ≡ all))
    (all_listed c.args.ground.now.app.now c.args.ground.now.lists.now (world_in c.args.world.now) c.as_slice.result.now
    (subst (λ (marks : List Bool). Marks c.args.ground.now.app.now (events c.args.ground.now.app.now c.args.ground.now.lists.now (world_in c.args.world.now)) marks) (sym c.as_slice.ensures.value)
    (all_marked c.args.ground.now.app.now c.args.ground.now.lists.now (world_in c.args.world.now) c.in_ok-marks.marks.items c.mark_components.new.marks.items c.mark_handed.new.marks.items c.in_ok-marks.ensures.none c.in_ok-mark_components.ensures c.in_ok-mark_handed.ensures)))
    c.marked.ensures
