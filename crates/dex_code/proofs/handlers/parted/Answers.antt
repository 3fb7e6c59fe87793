use Rattle.std.proofs.Common.{map, ap}
use Rattle.dex_code.proofs.Covering.{parted_begins, tries_more}
use Rattle.dex_code.proofs.handlers.parted.Goals as goal

pub loop-item-init : goal.loop-item-init
loop-item-init c = parted_begins _ _ _ _ c.new-shared.ensures.items (ap (map (λ t. t.now)) c.new-left.ensures.items)

pub loop-item-preserved : goal.loop-item-preserved
loop-item-preserved c =
    rw (tries_more c.args.tries.now c.loop-item.item-index c.item-item.result c.loop-item-test.true c.item-item.is)
    (c.in_ok-part_one.ensures _ c.loop-item.invariant)
