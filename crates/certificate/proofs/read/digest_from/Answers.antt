use Rattle.std.proofs.Common.{◌≡◌, ◌-◌, length, take, drop, nat_le, true, Ok, sym, ◌∙◌, arith}
use Rattle.std.proofs.lemmas.Bool.Decides.{nat_tests}
use Rattle.std.proofs.lemmas.List.{take_rest}
use Rattle.vet_base.specs.Script.{Value}
use Rattle.vet_base.proofs.Runs.{test_passes}
use Rattle.certificate.specs.declared.fault.CertFault.TheVariants.{Cut}
use Rattle.certificate.specs.Reading.{digest_from}
use Rattle.certificate.proofs.read.digest_from.Goals as goal

pub returns : goal.returns
unfolding digest_from
returns c =
    let long : nat_le 32 (length c.args.bytes.now) ≡ true = grind (arith, nat_tests, c.if-bytes-lt32.false) in
    let first : take 32 c.args.bytes.now ≡ c.copy_from_slice.new.self = grind (arith, c.copy_from_slice.ensures.after) in
    let rest : drop 32 c.args.bytes.now ≡ take (length c.args.bytes.now - 32) (drop 32 c.args.bytes.now) = sym (take_rest c.args.bytes.now 32) in
    test_passes (nat_le 32 (length c.args.bytes.now)) (Cut 8) (Value (take 32 c.args.bytes.now, drop 32 c.args.bytes.now)) long ∙ (λ i. Ok (first i, rest i))
