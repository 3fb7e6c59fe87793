use Rattle.std.proofs.Common.{arith}
use Rattle.runner_choices.specs.Choices.{event_of}
use Rattle.runner_menu.proofs.Tabled.{met_further, met_here}
use Rattle.runner_menu.proofs.tables.event_at.Goals as goal
use Rattle.runner_world.specs.World.{world_in}

pub returns-in-Here : goal.returns-in-Here
returns-in-Here c =
    met_here c.args.app.now (world_in c.args.world.now) c.args.tables.now c.loop-number.number c.args.index c.loop-number.left c.may_begin-begins.result c.index-tables-number.result (event_of (world_in c.args.world.now) c.in-Here.choice)
    (omega (arith, c.component_count-number-end.ensures, c.requires.long)) c.requires.long c.index-tables-number.is c.may_begin-begins.ensures c.loop-number.invariant c.in-Here.ensures

pub loop-number-preserved : goal.loop-number-preserved
loop-number-preserved c =
    met_further c.args.app.now (world_in c.args.world.now) c.args.tables.now c.loop-number.number c.args.index c.loop-number.left c.in-Past.rest c.may_begin-begins.result c.index-tables-number.result
    (omega (arith, c.component_count-number-end.ensures, c.requires.long)) c.index-tables-number.is c.may_begin-begins.ensures c.in-Past.ensures c.loop-number.invariant
