use Rattle.dex_writer.specs.File.{member_row_bytes}
use Rattle.dex_writer.proofs.PlacedLemmas.{part_step}
use Rattle.dex_writer.proofs.file.put_member_rows.Goals as goal

pub loop-row-preserved : goal.loop-row-preserved
loop-row-preserved c = part_step member_row_bytes c.loop-row.row-index c.args.rows.now c.row-item.result _ _ _ c.loop-row-test.true c.row-item.is c.loop-row.invariant c.in_ok-put_member_row.ensures
