use Rattle.dex_writer.specs.Tables.{type_index}
use Rattle.dex_writer.proofs.Passes.{map_step}
use Rattle.dex_maker.proofs.classes.types_of.Goals as goal

pub loop-name-preserved : goal.loop-name-preserved
loop-name-preserved c =
    map_step (type_index c.args.tables.now) c.loop-name.name-index c.args.names.now c.name-item.result _ _ c.loop-name-test.true c.name-item.is c.loop-name.invariant
    (rw c.type_index.ensures at c.in_ok-push.ensures.items)
