use Rattle.dex_writer.proofs.Passes.{map_step}
use Rattle.dex_maker.specs.Codes.{handler_pair}
use Rattle.dex_maker.proofs.codes.pairs_of.Goals as goal

pub loop-handler-preserved : goal.loop-handler-preserved
loop-handler-preserved c =
    map_step (handler_pair c.args.tables.now c.args.starts.now) c.loop-handler.handler-index c.args.handlers.now c.handler-item.result _ _ c.loop-handler-test.true c.handler-item.is c.loop-handler.invariant
    (rw (c.type_index-kind.ensures, c.start_of.ensures) at c.in_ok-push.ensures.items)
