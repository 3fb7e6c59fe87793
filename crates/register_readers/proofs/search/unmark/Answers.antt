use Rattle.register_readers.proofs.Clearing.{unmarks_more}
use Rattle.register_readers.proofs.search.unmark.Goals as goal

pub loop-pc-preserved : goal.loop-pc-preserved
loop-pc-preserved c =
    unmarks_more c.args.marks.now.items c.loop-pc.marks.items c.unmark_one.new.marks.items c.args.pcs.now c.loop-pc.pc-index c.loop-pc-test.true c.loop-pc.invariant c.unmark_one.ensures
