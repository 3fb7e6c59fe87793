use Rattle.std.proofs.Common.{rules}
use Rattle.std.specs.Int.{w32}
use Rattle.std.specs.Prelude.{FitsSigned}
use Rattle.std.proofs.lemmas.Int.{to_z-of_z}
use Rattle.dex_code.proofs.Payloads.{reads_go_on, reads_done}
use Rattle.dex_code.proofs.payload_at.ints_from.Goals as goal

pub loop-i-preserved : goal.loop-i-preserved
loop-i-preserved c =
    let fits : FitsSigned w32 c.int32_at.result = search rules in
    rw c.in_ok-push.ensures.items (simp to_z-of_z (rw c.int32_at.ensures (reads_go_on _ _ _ _ _ _ c.loop-i-test.true c.loop-i.invariant)))

pub returns : goal.returns
returns c = reads_done _ _ _ _ _ _ c.loop-i-test.false c.loop-i.invariant
