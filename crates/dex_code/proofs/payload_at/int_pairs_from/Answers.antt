use Rattle.std.proofs.Common.{rules}
use Rattle.std.specs.Int.{w32}
use Rattle.std.specs.Prelude.{FitsSigned}
use Rattle.std.proofs.lemmas.Int.{to_z-of_z}
use Rattle.dex_code.proofs.Payloads.{pairs_go_on, pairs_done}
use Rattle.dex_code.proofs.payload_at.int_pairs_from.Goals as goal

pub loop-i-preserved : goal.loop-i-preserved
loop-i-preserved c =
    let key_fits : FitsSigned w32 c.int32_at-key.result = search rules in
    let value_fits : FitsSigned w32 c.int32_at-value.result = search rules in
    rw c.in_ok-push.ensures.items (simp to_z-of_z (rw (c.int32_at-key.ensures, c.int32_at-value.ensures) (pairs_go_on _ _ _ _ _ _ _ c.loop-i-test.true c.loop-i.invariant)))

pub returns : goal.returns
returns c = pairs_done _ _ _ _ _ _ _ c.loop-i-test.false c.loop-i.invariant
