-- That the fault of the first test which fails is the fault of the bytes.
use Rattle.std.specs.Prelude.{◌↔◌, ℕ, List}
use Rattle.cert_rows.specs.Laws.{AreBytes}
use Rattle.certificate.specs.declared.fault.CertFault.{CertFault}
use Rattle.certificate.specs.Reading.{FirstCertFault}
use Rattle.cert_faults.specs.FirstFault.{FirstFault}

abbrev pub FaultsAreOfTheBytes : Type 0
FaultsAreOfTheBytes = (bytes : List ℕ) (fault : CertFault) → AreBytes bytes → FirstCertFault bytes fault ↔ FirstFault bytes fault
