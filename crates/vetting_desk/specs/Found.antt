-- What is found of the words and the files before anything is written or printed.
use Rattle.std.specs.Prelude.{◌≡◌, ◌⊎◌, ℕ, List, [], ◌∷◌, ◌++◌, Option, Some, None, Result, Ok, Err, String, string_bytes, IsTrue, is_some}
use Rattle.std.specs.declared.alloc.Global.{Global}
use Rattle.vet_base.specs.Outside.{HasRisen, Told}
use Rattle.heard_files.specs.Outside.{Entry}
use Rattle.vet_base.specs.declared.outside.FileFault.{FileFault}
use Rattle.vet_base.specs.declared.outside.FileFault.TheVariants as faults
use Rattle.app_flow.specs.declared.flow_rows.FlowTable.{FlowTable}
use Rattle.certificate.specs.Cert.{IsCert}
use Rattle.verdict.specs.declared.outcome.Outcome.{Outcome}
use Rattle.verdict.specs.declared.outcome.Outcome.TheVariants as outcomes
use Rattle.verdict.specs.declared.parts.Parts.{Parts}
use Rattle.verdict.specs.Outcome.{status_of}
use Rattle.verdict_report.specs.Report.{report_text}
use Rattle.verdict.specs.Tells.{IsFollowed, TellsOfApp}
use Rattle.verdict.specs.Verdict.{IsSafeApp}
use Rattle.vet_base.specs.declared.stop.Stop.{Stop}
use Rattle.vet_base.specs.declared.stop.Stop.TheVariants as stops
use Rattle.cert_report.specs.declared.refusal.CertRefusal.TheVariants.{Fault}
use Rattle.certificate.specs.declared.fault.CertFault.{CertFault}
use Rattle.vet_base.specs.declared.memory.Memory.{Memory as NoMemory}
use Rattle.vetting_desk.specs.declared.answer.Answer.{Answer}
use Rattle.vetting_desk.specs.declared.answer.Answer.TheVariants.{Vetted, NoCertificate, LongCertificate, Uncertified}
use Rattle.vetting_desk.specs.declared.finding.Found.{Found}
use Rattle.vetting_desk.specs.declared.finding.Found.TheVariants.{Said, ReadFault, Memory}
use Rattle.app_folder.specs.declared.folder.Halt.{Halt}
use Rattle.app_folder.specs.declared.folder.Halt.TheVariants as halts
use Rattle.desk_words.specs.Words.{Words}
use Rattle.vetting_desk.specs.Answer.{ComesByRows, Answers, DueByReads, Alike, SaysClear, IsSafe, SaysFound, IsFullReport, IsFileOf}
use Rattle.app_folder.specs.Due.{Due, NewFile, reported}
use Rattle.app_stories.specs.Stories.{Story, Tells as TellsStories}
use Rattle.vetting_desk.specs.Due.{SameButStories, certified, due_of, read_fault_text, storied_text}
use Rattle.vetting_desk.specs.Sets.{set_of}
use Rattle.vetting_desk.specs.PartsDue.{digest_of, GivesTold, Rechecks, Retells}
use Rattle.app_folder.specs.Outside.{Tells, TellsInput}
use Rattle.app_folder.specs.Reading.{TellsRead, SameFiles}

-- The text is the report of what the parts come to, which leaves out nothing that a run of their app does, unless it is
-- too large.
pub record ReportsAll (Comes : Parts → Outcome → Type 0) (parts : Parts) (due : Due) : Type 0 where
  pub outcome : Outcome
  pub comes : Comes parts outcome
  pub status : due.status ≡ status_of outcome
  pub text : due.text ≡ report_text outcome
  pub tells : IsFollowed outcome → TellsOfApp parts outcome

-- What is found of parts of which this is asked: what is due, and, where it is sure, that nothing else is; that clear
-- is sound, and that flagged and undecided leave out nothing.
pub record FindsOfParts (Sure : Type 0) (PartsDue : Parts → Due → Type 0) (Comes : Parts → Outcome → Type 0)
    (parts : Parts) (due : Due) : Type 0 where
  pub is : PartsDue parts due
  pub only : Sure → (other : Due) → PartsDue parts other → other ≡ due
  pub safe : due.status ≡ 0 → IsSafeApp parts
  pub full : (due.status ≡ 1) ⊎ (due.status ≡ 2) → ReportsAll Comes parts due

-- the same with the stories of the findings behind it
pub record ReportsStories (parts : Parts) (due : Due) : Type 0 where
  pub outcome : Outcome
  pub stories : Option (List Story)
  pub retells : TellsStories parts outcome stories
  pub status : due.status ≡ status_of outcome
  pub text : due.text ≡ storied_text outcome stories
  pub tells : IsFollowed outcome → TellsOfApp parts outcome

-- What is found of parts of which stories are asked for: what is due, and that nothing else is but other stories; that
-- clear is sound, and that flagged and undecided leave out nothing.
pub record FindsStories (parts : Parts) (due : Due) : Type 0 where
  pub is : Retells parts due
  pub only : (other : Due) → Retells parts other → SameButStories due other
  pub safe : due.status ≡ 0 → IsSafeApp parts
  pub full : (due.status ≡ 1) ⊎ (due.status ≡ 2) → ReportsStories parts due

-- the report, with the certificate of the table where there is one
abbrev pub CertifiedAs : List ℕ → Parts → Outcome → Option FlowTable → Due → Type 0
CertifiedAs path parts outcome None due = due ≡ reported outcome
CertifiedAs path parts outcome (Some table) due =
    (bytes : List ℕ) × IsCert bytes (set_of table.analysis) (digest_of parts) table.rows × (due ≡ certified outcome path bytes)

-- the due to the words, also by what the reads gave, with that each is alike, and with what it says of the app, where so
-- much was heard of the files before and after
pub record TheDue (words : Option Words) (tells : Tells) (old new : List Entry) (due : Due) : Type 0 where
  pub answers : Answers words tells due
  pub read : DueByReads words old new due
  pub only : TellsInput tells → (other : Due) → Answers words tells other → Alike words tells due other
  pub safe : SaysClear words due.status → IsSafe words tells old new
  pub full : SaysFound words due.status → IsFullReport words tells old new due.status due.text

-- whatever was printed before
abbrev pub FindsDue : Option Words → Option Told → List Entry → List Entry → Due → Type 0
FindsDue words told old new due =
    (printed : Option (List ℕ)) → TheDue words (record { files = told; printed = printed }) old new due

-- A read of a file of this command failed in this very call, and is the call that failed last. No file changed.
pub record ReadFails (words : Option Words) (old new : Option Told) (before after : ℕ) (name : List ℕ) : Type 0 where
  pub of_command : IsFileOf words name
  pub risen : HasRisen before after
  pub last : TellsRead new name
  pub kept : SameFiles old new

abbrev pub IsFound : Option Words → Option Told → Option Told → ℕ → ℕ → List Entry → List Entry → Found → Type 0
IsFound words old new before after ho hn (Said answer) =
    FindsDue words old ho hn (due_of answer) × (new ≡ old) × (after ≡ before)
IsFound words old new before after ho hn (ReadFault name) = ReadFails words old new before after (string_bytes name)
IsFound words old new before after ho hn Memory = (new ≡ old) × (after ≡ before)

-- what is found of parts by the certificate in a file
abbrev pub FindsByFile : List ℕ → Parts → Option Told → Option Told → ℕ → ℕ → Found → Type 0
FindsByFile path parts old new before after (Said answer) =
    FindsOfParts (IsTrue (is_some old)) (Rechecks path (GivesTold old path)) ComesByRows parts (due_of answer)
    × (new ≡ old) × (after ≡ before)
FindsByFile path parts old new before after (ReadFault name) =
    (string_bytes name ≡ path) × HasRisen before after × TellsRead new (string_bytes name) × SameFiles old new
FindsByFile path parts old new before after Memory = (new ≡ old) × (after ≡ before)

-- The read of the certificate gave this, by which the answer is due.
abbrev pub HearsFile : List ℕ → Parts → List Entry → List Entry → Found → Type 0
HearsFile path parts old new (Said answer) =
    (given : Result (List ℕ) FileFault) × (new ≡ old ++ (path, 536870912, given) ∷ [])
    × Rechecks path (λ g. g ≡ given) parts (due_of answer)
HearsFile path parts old new (ReadFault name) = Unit {0}
HearsFile path parts old new Memory = Unit {0}

-- an answer was found, unless memory ran out
abbrev pub said : Result Answer NoMemory → Found
said (Ok answer) = Said answer
said (Err e) = Memory

-- the answer where the bytes are no certificate
abbrev pub IsUnreadable : Stop CertFault → Answer → Type 0
IsUnreadable stops.Memory answer = ⊥
IsUnreadable (stops.Fault fault) answer = answer ≡ Uncertified (Fault fault)

-- the parts of the folder could not be had
abbrev pub halted : Halt → Found
halted (halts.Refused part reason) = Said (Vetted (outcomes.Refused part reason))
halted (halts.ReadFault name) = ReadFault name
halted halts.Memory = Memory

-- the certificate at this path could not be had
abbrev pub unread : String Global → FileFault → Found
unread path faults.Absent = Said (NoCertificate path)
unread path faults.TooLong = Said (LongCertificate path)
unread path faults.Failed = ReadFault path
unread path faults.Memory = Memory

-- the file that is to be written, if any
abbrev pub file_of : Found → Option NewFile
file_of (Said answer) = (due_of answer).written
file_of (ReadFault name) = None
file_of Memory = None

-- the status and the text that say what was found
abbrev pub Says : Found → ℕ → List ℕ → Type 0
Says (Said answer) status text = (status ≡ (due_of answer).status) × (text ≡ (due_of answer).text)
Says (ReadFault name) status text = (status ≡ 5) × (text ≡ read_fault_text (string_bytes name))
Says Memory status text = ⊥
