use Rattle.case_records.proofs.Growing.{put_more, fits_more}
use Rattle.case_records.proofs.writing.put_each.Goals as goal

pub loop-text-preserved : goal.loop-text-preserved
loop-text-preserved c =
    let i = c.loop-text.text-index in
    let texts = c.args.texts.now in
    let x = c.text-item.result in
    let lt = c.loop-text-test.true in
    record {
      bytes = put_more i texts x _ _ _ lt c.text-item.is c.loop-text.invariant.bytes c.in_ok-put_shared.ensures.bytes;
      fit = fits_more i texts x lt c.text-item.is c.loop-text.invariant.fit c.in_ok-put_shared.ensures.fits;
    }
