use Rattle.std.proofs.Common.{◌≡◌, List, Option, map, subst, ap, ◌∙◌}
use Rattle.std.specs.Prelude.{IfOk}
use Rattle.app_machine.specs.declared.method.Step.{Step}
use Rattle.played_machine.specs.Ordered.{ascending}
use Rattle.played_machine.specs.Standing.{causes_at}
use Rattle.runner_stands.specs.declared.standing.Stand.{Stand}
use Rattle.runner_stands.specs.Stands.{stand_at, stand_of}
use Rattle.runner_stands.proofs.Reasons.{no_causes}
use Rattle.runner_stands.proofs.standing.stands_at.Goals as goal
use Rattle.runner_state.specs.Shown.{frame_in}
use Rattle.runner_world.specs.World.{world_in}

pub returns-in-None : goal.returns-in-None
returns-in-None c =
    ap (λ (stands : List Stand). map stand_of stands) c.new.ensures.items
    ∙ (no_causes c.args.running.now.method c.args.running.now.pc
    ∙ ap (λ (o : Option Step). map (stand_at c.args.running.now.method c.args.running.now.pc) (ascending (causes_at c.args.ground.now.app.now c.args.ground.now.lists.now (world_in c.args.world.now) (frame_in c.args.running.now) o))) c.in-None.ensures.same)

pub returns-in-Some : goal.returns-in-Some
returns-in-Some c =
    subst (λ (o : Option Step). IfOk c.stands_before.result (λ stands. map stand_of stands.items ≡ map (stand_at c.args.running.now.method c.args.running.now.pc) (ascending (causes_at c.args.ground.now.app.now c.args.ground.now.lists.now (world_in c.args.world.now) (frame_in c.args.running.now) o))))
    c.in-Some.ensures.same c.stands_before.ensures
