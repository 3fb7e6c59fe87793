use Rattle.std.proofs.Common.{get_or}
use Rattle.std.proofs.lemmas.List.{get_or_default}
use Rattle.dex_writer.specs.Bytes.{u4_bytes}
use Rattle.dex_writer.proofs.PlacedLemmas.{part_step}
use Rattle.dex_writer.proofs.bytes.put_u4s.Goals as goal

pub loop-number-preserved : goal.loop-number-preserved
loop-number-preserved c =
    let at = c.loop-number.number-index in
    let number = get_or c.args.numbers.now at 0 in
    part_step u4_bytes at c.args.numbers.now number _ _ _ c.loop-number-test.true (get_or_default c.args.numbers.now at 0 number c.loop-number-test.true) c.loop-number.invariant c.in_ok-put_u4.ensures
