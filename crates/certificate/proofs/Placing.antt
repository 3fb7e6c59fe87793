-- Running what is placed.
use Rattle.std.proofs.Common.{◌≡◌, ℕ, true, false, Result, Ok, Err, refl}
use Rattle.vet_base.specs.Script.{Script, Value, Test, run}
use Rattle.cert_rows.specs.declared.fault.RowFault.{RowFault}
use Rattle.certificate.specs.declared.fault.CertFault.{CertFault}
use Rattle.certificate.specs.Reading.{fault_at, placed}

abbrev pub placed_result : {A : Type 0} → ℕ → Result A RowFault → Result A CertFault
placed_result at (Ok x) = Ok x
placed_result at (Err fault) = Err (fault_at at fault)

pub run_placed : {A : Type 0} (at : ℕ) (script : Script RowFault A) → run (placed at script) ≡ placed_result at (run script)
run_placed at (Value x) = refl
run_placed at (Test true fault rest) = run_placed at rest
run_placed at (Test false fault rest) = refl
