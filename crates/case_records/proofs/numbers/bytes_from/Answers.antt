use Rattle.std.proofs.Common.{◌≡◌, ◌-◌, length, take, drop, nat_le, true, Ok, sym, ◌∙◌, arith}
use Rattle.std.proofs.lemmas.Bool.Decides.{nat_tests}
use Rattle.std.proofs.lemmas.List.{take_rest}
use Rattle.vet_base.specs.Script.{Value}
use Rattle.vet_base.proofs.Runs.{test_passes}
use Rattle.case_records.specs.declared.fault.NoPayload.TheVariants.{Cut}
use Rattle.case_records.specs.Reading.{bytes_from}
use Rattle.case_records.proofs.numbers.bytes_from.Goals as goal

pub returns-clause-gives : goal.returns-clause-gives
unfolding bytes_from
returns-clause-gives c =
    let n = c.args.count in
    let bytes = c.args.bytes.now in
    let long : nat_le n (length bytes) ≡ true = grind (arith, nat_tests, c.if-count-bytes.false) in
    let rest : drop n bytes ≡ take (length bytes - n) (drop n bytes) = sym (take_rest bytes n) in
    test_passes (nat_le n (length bytes)) Cut (Value (take n bytes, drop n bytes)) long ∙ (λ i. Ok (take n bytes, rest i))
