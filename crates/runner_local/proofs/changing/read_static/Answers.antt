use Rattle.std.proofs.Common.{sym, ◌∙◌}
use Rattle.runner_local.proofs.Own.{static_labelled}
use Rattle.runner_local.proofs.changing.read_static.Goals as goal
use Rattle.runner_world.specs.World.{world_in}

pub returns-in-Some : goal.returns-in-Some
returns-in-Some c =
    static_labelled c.args.app.now c.args.library.now (world_in c.args.world.now) c.args.number c.get-held.result c.one.result c.joined.result c.in-Some.label c.get-held.ensures (sym c.source.ensures ∙ c.in-Some.is) c.one.ensures c.joined.ensures
