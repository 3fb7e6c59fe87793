use Rattle.std.proofs.Common.{List, ℕ, sym, ap, ◌∙◌}
use Rattle.app_machine.specs.declared.method.Act.{Act}
use Rattle.played_machine.specs.Calling.{call_target}
use Rattle.played_machine.specs.Standing.{causes_of_call, causes_of_target}
use Rattle.runner_heap.specs.Objects.{heap_of}
use Rattle.runner_stands.proofs.Reasons.{no_call}
use Rattle.runner_stands.proofs.causes.cause_of_act.Goals as goal
use Rattle.runner_state.specs.Shown.{frame_in}
use Rattle.runner_world.specs.World.{world_in}

pub returns-in-Call : goal.returns-in-Call
returns-in-Call c =
    c.cause_of_call.ensures
    ∙ (ap (λ (xs : List ℕ). causes_of_target c.args.ground.now.app.now c.args.ground.now.lists.now c.in-Call.kind c.in-Call.at (call_target c.args.ground.now.app.now (heap_of c.args.world.now.heap) (frame_in c.args.frame.now) c.in-Call.kind c.in-Call.at xs)) c.as_slice.ensures
    ∙ ap (λ (act : Act). causes_of_call c.args.ground.now.app.now c.args.ground.now.lists.now (world_in c.args.world.now) (frame_in c.args.frame.now) act) (sym c.in-Call.is))

pub returns-in_default : goal.returns-in_default
returns-in_default c = no_call c.args.ground.now.app.now c.args.ground.now.lists.now (world_in c.args.world.now) (frame_in c.args.frame.now) c.args.act.now c.in_default.not-Call
