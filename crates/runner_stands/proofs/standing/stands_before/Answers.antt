use Rattle.std.proofs.Common.{◌++◌, ◌∷◌, [], List, map, cond, ap, ◌∙◌}
use Rattle.played_machine.specs.Ordered.{ascending}
use Rattle.played_machine.specs.Standing.{causes_of_call, if_native_then}
use Rattle.runner_stands.specs.declared.standing.Stand.{Stand}
use Rattle.runner_stands.specs.Stands.{stand_at, stand_of}
use Rattle.runner_stands.proofs.Reasons.{all_added}
use Rattle.runner_stands.proofs.standing.stands_before.Goals as goal
use Rattle.runner_state.specs.Shown.{frame_in}
use Rattle.runner_world.specs.World.{world_in}

pub returns : goal.returns
returns c =
    all_added c.args.running.now.method c.args.running.now.pc c.all_causes-causes.result (map stand_of c.add_if.new.stands.items) (map stand_of c.add_if-2.new.stands.items) (map stand_of c.add_if-3.new.stands.items)
    (c.in_ok-add_if.ensures ∙ ap (λ (stands : List Stand). map stand_of stands ++ cond c.all_causes-causes.result.no_summary (stand_at c.args.running.now.method c.args.running.now.pc 1 ∷ []) []) c.new-stands.ensures.items) c.in_ok-add_if-2.ensures c.in_ok-add_if-3.ensures
    ∙ ap (map (stand_at c.args.running.now.method c.args.running.now.pc)) (c.all_causes-causes.ensures ∙ ap ascending (
    ap (λ causes. causes ++ if_native_then c.initialises_natively-natively.result) c.cause_of_act-call.ensures
    ∙ ap (λ natively. causes_of_call c.args.ground.now.app.now c.args.ground.now.lists.now (world_in c.args.world.now) (frame_in c.args.running.now) c.args.step.now.act ++ if_native_then natively) c.initialises_natively-natively.ensures))
