use Rattle.std.proofs.Common.{get_or}
use Rattle.std.proofs.lemmas.List.{get_or_default}
use Rattle.dex_writer.specs.Bytes.{u2_bytes}
use Rattle.dex_writer.proofs.PlacedLemmas.{part_step}
use Rattle.dex_writer.proofs.bytes.put_units.Goals as goal

pub loop-unit-preserved : goal.loop-unit-preserved
loop-unit-preserved c =
    let at = c.loop-unit.unit-index in
    let unit = get_or c.args.units.now at 0 in
    part_step u2_bytes at c.args.units.now unit _ _ _ c.loop-unit-test.true (get_or_default c.args.units.now at 0 unit c.loop-unit-test.true) c.loop-unit.invariant c.in_ok-put_u2.ensures
