use Rattle.dex_writer.proofs.Passes.{map_step}
use Rattle.dex_maker.specs.Codes.{raw_try}
use Rattle.dex_maker.proofs.codes.tries_of.Goals as goal

pub loop-item-preserved : goal.loop-item-preserved
loop-item-preserved c =
    map_step (raw_try c.args.tables.now c.args.starts.now) c.loop-item.item-index c.args.tries.now c.item-item.result _ _ c.loop-item-test.true c.item-item.is c.loop-item.invariant
    (rw c.in_ok-try_of.ensures at c.in_ok-push.ensures.items)
