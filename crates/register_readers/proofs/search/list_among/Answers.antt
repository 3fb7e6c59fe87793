use Rattle.register_readers.proofs.Reading.{lists_more}
use Rattle.register_readers.proofs.search.list_among.Goals as goal

pub loop-pc-preserved : goal.loop-pc-preserved
loop-pc-preserved c =
    lists_more c.args.app.now c.args.method c.args.register c.args.pcs.now c.loop-pc.readers.items c.list_one.new.readers.items c.loop-pc.pc-index c.loop-pc-test.true c.loop-pc.invariant c.in_ok-list_one.ensures
