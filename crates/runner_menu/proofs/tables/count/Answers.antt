use Rattle.std.proofs.Common.{◌≡◌, ◌+◌, flat_map, length, ap, ◌∙◌, arith}
use Rattle.app_machine.specs.Summaries.{numbers_from}
use Rattle.runner_menu.proofs.Tabled.{component_counted, own}
use Rattle.runner_menu.proofs.tables.count.Goals as goal
use Rattle.runner_world.specs.World.{world_in}

pub loop-number-preserved : goal.loop-number-preserved
loop-number-preserved c =
    component_counted c.args.app.now (world_in c.args.world.now) c.args.tables.now c.loop-number.number c.loop-number.all c.in_ok-all.all c.may_begin-begins.result c.index-tables-number.result
    (omega (arith, c.component_count-number-end.ensures, c.requires.long)) c.index-tables-number.is c.may_begin-begins.ensures (c.in_ok-all.ensures ∙ ap (λ n. c.loop-number.all + n) c.in_ok-own.ensures) c.loop-number.invariant

pub returns : goal.returns
returns c =
    let same : c.loop-number.number ≡ length c.args.app.now.components = omega (arith, c.component_count-number-end.ensures) in
    c.loop-number.invariant ∙ ap (λ n. length (flat_map (own c.args.app.now (world_in c.args.world.now) c.args.tables.now) (numbers_from 0 n))) same
