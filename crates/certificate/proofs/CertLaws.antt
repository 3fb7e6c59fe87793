-- What certificates keep.
use Rattle.std.proofs.Common.{◌≡◌, ◌⊎◌, inl, inr, ℕ, Result, List, Ok, Err, refl, ap}
use Rattle.vet_base.specs.Script.{run}
use Rattle.vet_base.proofs.Runs.{one_first}
use Rattle.vet_base.proofs.Scripts.{all_hold, exclusive, is_first}
use Rattle.vet_base.proofs.Results.{one_ok}
use Rattle.cert_rows.specs.Laws.{AreBytes, RowsAreFound, RowsAreReadAgain}
use Rattle.certificate.specs.declared.cert.Cert.{Cert}
use Rattle.certificate.specs.declared.fault.CertFault.{CertFault}
use Rattle.certificate.specs.Laws.{CertLaws, IsOne, IsFaulty}
use Rattle.certificate.specs.Reading.{cert_from}
use Rattle.certificate.proofs.CertAgain.{cert_again}
use Rattle.certificate.proofs.CertFound.{cert_found}

by_run : RowsAreFound → (bytes : List ℕ) → AreBytes bytes → (r : Result Cert CertFault) → run (cert_from bytes) ≡ r → IsOne bytes ⊎ IsFaulty bytes
by_run found bytes are (Ok cert) e = inl (record { set = cert.set; digest = cert.digest; rows = cert.rows; is = cert_found found bytes cert are e })
by_run found bytes are (Err fault) e = inr (record { fault = fault; first = is_first (cert_from bytes) fault e })

pub cert_laws : RowsAreReadAgain → RowsAreFound → CertLaws
cert_laws again found = record {
  one = λ bytes set another digest other rows others is too.
      let x : Cert = record { set = set; digest = digest; rows = rows } in
      let y : Cert = record { set = another; digest = other; rows = others } in
      let same : x ≡ y = one_ok (run (cert_from bytes)) x y (cert_again again bytes set digest rows is) (cert_again again bytes another other others too) in
      (ap (λ (c : Cert). c.set) same, ap (λ (c : Cert). c.digest) same, ap (λ (c : Cert). c.rows) same);
  one_fault = λ bytes fault other first too. one_first (cert_from bytes) fault other first too;
  not_both = λ bytes set digest rows fault is first. exclusive _ fault (all_hold (cert_from bytes) _ (cert_again again bytes set digest rows is)).0 first;
  either = λ bytes are. by_run found bytes are (run (cert_from bytes)) refl;
}
