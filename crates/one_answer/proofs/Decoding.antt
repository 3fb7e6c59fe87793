-- The units of a method have exactly one answer.
use Rattle.std.proofs.Common.{◌≡◌, ◌⊎◌, Result, Ok, Err, inl, inr, refl}
use Rattle.vet_base.specs.Script.{run}
use Rattle.vet_base.proofs.Results.{one_ok, ok_or_err}
use Rattle.vet_base.proofs.Runs.{fails_first, one_first}
use Rattle.vet_base.proofs.Scripts.{is_first}
use Rattle.dex_tables.specs.declared.dex.RawCode.{RawCode}
use Rattle.dex_code.specs.declared.decoder.Counts.{Counts}
use Rattle.dex_code.specs.declared.decoder.Decoded.{Decoded}
use Rattle.dex_code.specs.declared.fault.CodeFault.{CodeFault}
use Rattle.dex_code.specs.Code.{decoding, IsCode, FirstFault}
use Rattle.dex_code.specs.CodeLaws.{CodeLaws}
use Rattle.one_answer.specs.Answers.{DecodingHasOneAnswer}
use Rattle.one_answer.specs.ExactlyOne.{ExactlyOne}

module _ (laws : CodeLaws) (code : RawCode) (counts : Counts) where
  again : (decoded : Decoded) → IsCode code counts decoded → run (decoding code counts) ≡ Ok decoded
  again decoded is = (laws.decoding code counts decoded).1 is

  some_answer : (r : Result Decoded CodeFault) → run (decoding code counts) ≡ r → ((decoded : Decoded) × IsCode code counts decoded) ⊎ ((fault : CodeFault) × FirstFault code counts fault)
  unfolding FirstFault
  some_answer (Ok decoded) e = inl (decoded, (laws.decoding code counts decoded).0 e)
  some_answer (Err fault) e = inr (fault, is_first (decoding code counts) fault e)

  exactly_one : ExactlyOne (IsCode code counts) (FirstFault code counts)
  unfolding FirstFault
  exactly_one = record {
    either = some_answer (run (decoding code counts)) refl;
    one_value = λ d e a b. one_ok (run (decoding code counts)) d e (again d a) (again e b);
    one_fault = λ f g a b. one_first (decoding code counts) f g a b;
    not_both = λ d f a b. ok_or_err (run (decoding code counts)) d f (again d a) (fails_first (decoding code counts) f b);
  }

pub code_or_fault : CodeLaws → DecodingHasOneAnswer
code_or_fault laws = exactly_one laws
