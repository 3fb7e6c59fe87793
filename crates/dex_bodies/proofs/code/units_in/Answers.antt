use Rattle.std.proofs.Common.{◌≡◌, ◌+◌, ◌*◌, rules}
use Rattle.std.specs.Prelude.{slice_index}
use Rattle.dex_bodies.proofs.Units.{unit_more}
use Rattle.dex_bodies.proofs.code.units_in.Goals as goal

pub loop-i-preserved : goal.loop-i-preserved
loop-i-preserved c =
    let unit : c.from_le_bytes.result ≡ slice_index c.args.file.now (c.args.at + 2 * c.loop-i.i) + 256 * slice_index c.args.file.now (c.args.at + 2 * c.loop-i.i + 1) = search rules in
    rw c.in_ok-push.ensures.items (unit_more _ _ _ _ _ _ _ c.loop-i-test.true unit c.loop-i.invariant)
