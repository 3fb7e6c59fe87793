use Rattle.dex_code.proofs.Payloads.{range_begins, range_goes_on, range_done}
use Rattle.dex_code.proofs.acts.range_from.Goals as goal

pub loop-i-init : goal.loop-i-init
loop-i-init c = range_begins _ _ _ c.new-registers.ensures.items

pub loop-i-preserved : goal.loop-i-preserved
loop-i-preserved c = rw (c.in_ok-push.ensures.items, c.from.ensures, c.from-in-loop-i.ensures) (range_goes_on _ _ _ _ _ c.loop-i-test.true c.loop-i.invariant)

pub returns : goal.returns
returns c = range_done _ _ _ _ _ c.loop-i-test.false c.loop-i.invariant
