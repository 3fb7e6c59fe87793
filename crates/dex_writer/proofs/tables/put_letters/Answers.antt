use Rattle.dex_writer.specs.Tables.{letter}
use Rattle.dex_writer.proofs.PlacedLemmas.{part_step}
use Rattle.dex_writer.proofs.tables.put_letters.Goals as goal

pub loop-kind-preserved : goal.loop-kind-preserved
loop-kind-preserved c = part_step letter c.loop-kind.kind-index c.args.kinds.now c.kind-item.result _ _ _ c.loop-kind-test.true c.kind-item.is c.loop-kind.invariant c.in_ok-put_letter.ensures
