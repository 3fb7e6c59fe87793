-- What is due to parts that are certified, to parts that are checked by a certificate, and to parts of which stories
-- are told.
use Rattle.std.specs.Prelude.{◌≡◌, ◌≢◌, ◌≤◌, ◌<◌, ℕ, List, ◌∷◌, length, Option, Some, None, Result, Ok, Err, IsSomeAnd, IsTrue, is_some}
use Rattle.sha2.specs.Sha256.{sha256}
use Rattle.vet_base.specs.Outside.{Told, held_by}
use Rattle.vet_base.specs.declared.outside.FileFault.{FileFault}
use Rattle.vet_base.specs.declared.outside.FileFault.TheVariants as faults
use Rattle.fact_rows.specs.declared.row.Row.{Row}
use Rattle.app_flow.specs.declared.flow_rows.FlowTable.{FlowTable}
use Rattle.cert_rows.specs.declared.sets.Set.{Set}
use Rattle.certificate.specs.declared.fault.CertFault.{CertFault}
use Rattle.certificate.specs.declared.fault.CertFault.TheVariants.{Magic}
use Rattle.certificate.specs.Cert.{IsCert}
use Rattle.certificate.specs.Digests.{parts_bytes}
use Rattle.certificate.specs.Reading.{FirstCertFault}
use Rattle.cert_checker.specs.declared.defect.TableDefect.{TableDefect}
use Rattle.cert_checker.specs.declared.defect.RowDefect.TheVariants.{Stranger, NoStart}
use Rattle.cert_checker.specs.declared.defect.TableDefect.TheVariants.{At, NotClosed}
use Rattle.cert_report.specs.declared.refusal.CertRefusal.{CertRefusal}
use Rattle.cert_report.specs.declared.refusal.CertRefusal.TheVariants as refusals
use Rattle.verdict.specs.declared.outcome.Outcome.{Outcome}
use Rattle.verdict.specs.declared.outcome.Outcome.TheVariants as outcomes
use Rattle.verdict.specs.declared.outcome.Rechecked.{Rechecked}
use Rattle.verdict.specs.declared.outcome.Rechecked.TheVariants as rechecks
use Rattle.verdict.specs.declared.parts.Parts.{Parts}
use Rattle.verdict.specs.Recheck.{Rejudgement}
use Rattle.verdict.specs.Verdict.{Judgement}
use Rattle.app_folder.specs.Due.{Due, reported}
use Rattle.vetting_desk.specs.Sets.{set_of, analysis_of}
use Rattle.vetting_desk.specs.Due.{certified, no_certificate, long_certificate, storied, uncertified}
use Rattle.app_stories.specs.Stories.{Story, Tells}

-- the digest of the parts
abbrev pub digest_of : Parts → List ℕ
digest_of parts = sha256 (parts_bytes (parts.manifest ∷ parts.layouts ∷ parts.declaration ∷ parts.lists ∷ parts.dex))

-- Parts that are certified: the report, and where there is a table the certificate of it.
pub data Certifies (path : List ℕ) (parts : Parts) : Due → Type 0 where
  no_table : (outcome : Outcome) →
      Judgement parts (record { outcome = outcome; table = None }) →
      Certifies path parts (reported outcome)
  table : (outcome : Outcome) (derived : FlowTable) (bytes : List ℕ) →
      Judgement parts (record { outcome = outcome; table = Some derived }) →
      IsCert bytes (set_of derived.analysis) (digest_of parts) derived.rows →
      Certifies path parts (certified outcome path bytes)

-- a certificate is refused with the defect of its table
abbrev pub refusal_of : TableDefect → CertRefusal
refusal_of (At Stranger row) = refusals.Stranger row
refusal_of (At NoStart row) = refusals.NoStart row
refusal_of (NotClosed row) = refusals.NotClosed row

-- due to parts that were judged by a table; lists that do not ask for the second analysis know of no certificate of it
abbrev pub rechecked : Rechecked → Due
rechecked (rechecks.Refused part reason) = reported (outcomes.Refused part reason)
rechecked rechecks.Unasked = uncertified (refusals.Fault Magic)
rechecked (rechecks.Defect defect) = uncertified (refusal_of defect)
rechecked (rechecks.By outcome) = reported outcome

-- Parts that are checked by a certificate of these bytes: its reading, its digest, and then what its table makes of the
-- parts.
pub data RechecksBy (bytes : List ℕ) (parts : Parts) : Due → Type 0 where
  unread : (fault : CertFault) →
      FirstCertFault bytes fault →
      RechecksBy bytes parts (uncertified (refusals.Fault fault))
  other_digest : (set : Set) (digest : List ℕ) (rows : List Row) →
      IsCert bytes set digest rows →
      digest ≢ digest_of parts →
      RechecksBy bytes parts (uncertified (refusals.Digest digest (digest_of parts)))
  judged : (set : Set) (rows : List Row) (r : Rechecked) →
      IsCert bytes set (digest_of parts) rows →
      Rejudgement parts (analysis_of set) rows r →
      RechecksBy bytes parts (rechecked r)

-- where the files are told, the file of this name is so
abbrev pub FileTold : Option Told → List ℕ → (Option (List ℕ) → Type 0) → Type 0
FileTold told name P = IsTrue (is_some told) → P (held_by told name)

-- what a read of at most so many bytes gives of a file
abbrev pub FileGives : ℕ → Result (List ℕ) FileFault → Option (List ℕ) → Type 0
FileGives limit (Ok bytes) file = file ≡ Some bytes
FileGives limit (Err faults.Absent) file = file ≡ None
FileGives limit (Err faults.TooLong) file = IsSomeAnd file (λ bytes. limit < length bytes)
FileGives limit (Err faults.Failed) file = ⊥
FileGives limit (Err faults.Memory) file = ⊥

-- where the files are told, a read of the certificate at this path gives this
abbrev pub GivesTold : Option Told → List ℕ → Result (List ℕ) FileFault → Type 0
GivesTold told path given = FileTold told path (FileGives 536870912 given)

-- Parts that are checked by the certificate in a file, by what a read of it gives: the file is absent, or too long, or
-- read.
pub data Rechecks (path : List ℕ) (Gives : Result (List ℕ) FileFault → Type 0) (parts : Parts) : Due → Type 0 where
  absent : Gives (Err faults.Absent) → Rechecks path Gives parts (no_certificate path)
  too_long : Gives (Err faults.TooLong) → Rechecks path Gives parts (long_certificate path)
  read : (bytes : List ℕ) (due : Due) →
      Gives (Ok bytes) →
      length bytes ≤ 536870912 →
      RechecksBy bytes parts due →
      Rechecks path Gives parts due

-- Parts of which stories are told: the report, and where there is a table a story of each finding.
pub data Retells (parts : Parts) : Due → Type 0 where
  stories : (outcome : Outcome) (stories : Option (List Story)) →
      Tells parts outcome stories →
      Retells parts (storied outcome stories)
