-- What was tested is the code.
use Rattle.std.proofs.Common.{◌≡◌, Bool, true, false, Ok, ap, subst}
use Rattle.std.specs.Prelude.{◌==◌}
use Rattle.vet_base.specs.Script.{Script, Value, Test, ◌>>=◌, test, run}
use Rattle.dex_tables.specs.declared.dex.Dex.{Dex}
use Rattle.dex_tables.specs.declared.dex.RawCode.{RawCode}
use Rattle.dex_code.specs.declared.decoder.Decoded.{Decoded}
use Rattle.dex_code.specs.declared.fault.CodeFault.TheVariants.{Register}
use Rattle.dex_code.specs.Code.{decoding, IsCode}
use Rattle.dex_code.specs.CodeLaws.{CodeLaws}
use Rattle.app_machine.specs.declared.call.MethodRef.{MethodRef}
use Rattle.app_machine.specs.Sound.{taken}
use Rattle.link_listing.specs.declared.fault.Fault.{Fault}
use Rattle.link_listing.specs.declared.fault.Fault.TheVariants as faults
use Rattle.link_code.specs.Code.{blamed, counts_of, tested, calls_fit}
use Rattle.vet_base.proofs.Runs.{value_is, test_ok, bind_ok}

blamed_back : {F G A : Type 0} (f : F → G) (s : Script F A) (x : A) → run (blamed f s) ≡ Ok x → run s ≡ Ok x
blamed_back {F = F} {G = G} f (Value y) x e = ap (λ (z : _). Ok z) (value_is {F = G} y x e)
blamed_back f (Test true fault rest) x e = blamed_back f rest x e
blamed_back f (Test false fault rest) x e = absurd cc

module _ (laws : CodeLaws) where
  -- what was tested is the code
  pub tested_code : (at : MethodRef) (is_static : Bool) (dex : Dex) (code : RawCode) (decoded : Decoded) → run (tested at is_static dex code) ≡ Ok decoded → IsCode code (counts_of dex) decoded
  unfolding tested
  tested_code at is_static dex code decoded e =
      let read = bind_ok (blamed (faults.Code at) (decoding code (counts_of dex))) (λ d. test (taken is_static at.proto == code.ins) (faults.Code at (Register 0)) >>= (λ _. calls_fit dex at d.lines >>= (λ _. Value d))) decoded e in
      let ins = test_ok (taken is_static at.proto == code.ins) (faults.Code at (Register 0)) (calls_fit dex at read.0.lines >>= (λ _. Value read.0)) decoded read.2 in
      let calls = bind_ok (calls_fit dex at read.0.lines) (λ _. Value read.0) decoded ins.1 in
      let same : read.0 ≡ decoded = value_is {F = Fault} read.0 decoded calls.2 in
      subst (IsCode code (counts_of dex)) same ((laws.decoding code (counts_of dex) read.0).0 (blamed_back (faults.Code at) (decoding code (counts_of dex)) read.0 read.1))
