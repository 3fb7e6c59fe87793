use Rattle.certificate.proofs.Growing.{put_more, small_more}
use Rattle.certificate.proofs.write.put_rows.Goals as goal

pub loop-row-preserved : goal.loop-row-preserved
loop-row-preserved c = record {
  bytes = put_more c.loop-row.row-index c.args.rows.now _ _ _ _ c.loop-row-test.true c.loop-row.invariant.bytes c.in_ok-put_row.ensures.bytes;
  small = small_more c.loop-row.row-index c.args.rows.now _ c.loop-row-test.true c.loop-row.invariant.small c.in_ok-put_row.ensures.small;
}
