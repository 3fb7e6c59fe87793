-- What certificates keep.
use Rattle.std.specs.Prelude.{◌≡◌, ◌⊎◌, ℕ, List}
use Rattle.vet_base.specs.declared.stop.Stop.{Stop}
use Rattle.vet_base.specs.declared.stop.Stop.TheVariants as stops
use Rattle.fact_rows.specs.declared.row.Row.{Row}
use Rattle.cert_rows.specs.declared.sets.Set.{Set}
use Rattle.cert_rows.specs.Laws.{AreBytes}
use Rattle.certificate.specs.Cert.{IsCert}
use Rattle.certificate.specs.Reading.{FirstCertFault}
use Rattle.certificate.specs.declared.fault.CertFault.{CertFault}

-- the bytes are the certificate of a set, a digest and rows
pub record IsOne (bytes : List ℕ) : Type 0 where
  pub set : Set
  pub digest : List ℕ
  pub rows : List Row
  pub is : IsCert bytes set digest rows

-- the bytes have a first fault
pub record IsFaulty (bytes : List ℕ) : Type 0 where
  pub fault : CertFault
  pub first : FirstCertFault bytes fault

-- All bytes are the certificate of one set, one digest and one table or have one first fault, and none are both.
pub record CertLaws : Type 0 where
  pub one : (bytes : List ℕ) (set another : Set) (digest other : List ℕ) (rows others : List Row)
      → IsCert bytes set digest rows → IsCert bytes another other others → (set ≡ another) × (digest ≡ other) × (rows ≡ others)
  pub one_fault : (bytes : List ℕ) (fault other : CertFault) → FirstCertFault bytes fault → FirstCertFault bytes other → fault ≡ other
  pub not_both : (bytes : List ℕ) (set : Set) (digest : List ℕ) (rows : List Row) (fault : CertFault) → IsCert bytes set digest rows → FirstCertFault bytes fault → ⊥
  pub either : (bytes : List ℕ) → AreBytes bytes → IsOne bytes ⊎ IsFaulty bytes

-- want of memory, or the fault of the first test that does not hold
abbrev pub IsStopOf : List ℕ → Stop CertFault → Type 0
IsStopOf bytes stops.Memory = Unit {0}
IsStopOf bytes (stops.Fault fault) = FirstCertFault bytes fault
