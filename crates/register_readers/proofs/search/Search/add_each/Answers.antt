use Rattle.register_readers.proofs.Adding.{each_goes_on, each_done}
use Rattle.register_readers.proofs.search.Search.add_each.Goals as goal

pub loop-pc-preserved : goal.loop-pc-preserved
loop-pc-preserved c =
    each_goes_on c.args.self.now c.loop-pc.self c.add.new.self c.args.pcs.now c.loop-pc.pc-index c.loop-pc-test.true c.loop-pc.invariant c.in_ok-add.ensures

pub returns : goal.returns
returns c = each_done c.args.self.now c.loop-pc.self c.args.pcs.now c.loop-pc.pc-index c.loop-pc-test.false c.loop-pc.invariant
