use Rattle.std.proofs.Common.{get_or}
use Rattle.std.proofs.lemmas.List.{get_or_default}
use Rattle.dex_writer.proofs.PlacedLemmas.{part_step}
use Rattle.dex_maker.specs.Payloads.{target_units}
use Rattle.dex_maker.proofs.payloads.put_targets.Goals as goal

pub loop-line-preserved : goal.loop-line-preserved
loop-line-preserved c =
    let at = c.loop-line.line-index in
    let line = get_or c.args.targets.now at 0 in
    part_step (target_units c.args.starts.now c.args.at) at c.args.targets.now line _ _ _ c.loop-line-test.true (get_or_default c.args.targets.now at 0 line c.loop-line-test.true) c.loop-line.invariant
    (rw c.distance_bits.ensures at c.in_ok-put_two.ensures)
