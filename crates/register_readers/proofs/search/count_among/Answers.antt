use Rattle.std.proofs.Common.{◌+◌, ap, ◌∙◌, arith}
use Rattle.register_readers.proofs.Reading.{counts_more}
use Rattle.register_readers.proofs.search.count_among.Goals as goal

pub loop-pc-preserved : goal.loop-pc-preserved
loop-pc-preserved c = record {
  counted =
      ap (λ n. c.loop-pc.count + n) c.one_at-count.ensures.same
      ∙ counts_more c.args.app.now c.args.method c.args.register c.args.pcs.now c.loop-pc.pc-index c.loop-pc.count c.loop-pc-test.true c.loop-pc.invariant.counted;
  within = omega (arith, c.one_at-count.ensures.small, c.loop-pc.invariant.within);
}
