-- What is due to the words, and how far that is one thing; when it says clear, and what clear says; and which files a
-- command reads.
use Rattle.std.specs.Prelude.{◌≡◌, ◌⊎◌, ◌++◌, ℕ, List, [], ◌∷◌, length, Option, Some, None, Result, IsTrue, is_some, codes}
use Rattle.std.specs.Option.{option_map}
use Rattle.vet_base.specs.Outside.{Told, held_by}
use Rattle.vet_base.specs.declared.outside.FileFault.{FileFault}
use Rattle.heard_files.specs.Outside.{Entry}
use Rattle.verdict.specs.declared.outcome.Judged.{Judged}
use Rattle.verdict.specs.declared.outcome.Outcome.{Outcome}
use Rattle.verdict.specs.declared.outcome.Outcome.TheVariants.{Clear, Flagged, Undecided, Refused}
use Rattle.verdict.specs.declared.parts.Parts.{Parts}
use Rattle.verdict.specs.Outcome.{status_of}
use Rattle.verdict_report.specs.Report.{report_text}
use Rattle.verdict.specs.Tells.{IsFollowed, TellsOfApp}
use Rattle.verdict.specs.Verdict.{Judgement, IsSafeApp, Verdict}
use Rattle.verdict.specs.Recheck.{Rejudgement}
use Rattle.verdict.specs.declared.outcome.Rechecked.TheVariants.{By}
use Rattle.app_flow.specs.declared.flow_rows.FlowTable.{FlowTable}
use Rattle.fact_rows.specs.declared.row.Row.{Row}
use Rattle.flow_analyses.specs.declared.Analysis.{Analysis}
use Rattle.desk_words.specs.Words.{Words, Check, Certify, Recheck, Story, Make}
use Rattle.app_folder.specs.Due.{Due, reported}
use Rattle.app_stories.specs.Stories.{Story as StoryOfFinding, Tells as TellsStories}
use Rattle.vetting_desk.specs.Due.{SameButStories, storied_text, summarised, usage}
use Rattle.app_folder.specs.Folder.{Holds, IsFileIn}
use Rattle.app_folder.specs.Heard.{GaveParts, Gave}
use Rattle.app_folder.specs.FolderDue.{FolderDue, Checks}
use Rattle.app_folder.specs.Reading.{GathersTold}
use Rattle.vetting_desk.specs.PartsDue.{Certifies, GivesTold, Rechecks, Retells}
use Rattle.vetting_desk.specs.Made.{made_parts}
use Rattle.app_folder.specs.Outside.{Tells}

-- What is due to a generated app with so many drawn methods that has so many rows and comes to this: a summary, or the
-- report that it is refused.
abbrev pub due_to_made : ℕ → Option ℕ → Outcome → Due
due_to_made size rows Clear = summarised size rows Clear
due_to_made size rows (Flagged fs) = summarised size rows (Flagged fs)
due_to_made size rows (Undecided cs fs) = summarised size rows (Undecided cs fs)
due_to_made size rows (Refused part reason) = reported (Refused part reason)

-- What is due to the words where the outside tells this: one constructor a command.
pub data Answers (words : Option Words) (tells : Tells) : Due → Type 0 where
  no_command : words ≡ None → Answers words tells usage
  check : (dir : List ℕ) (n : ℕ) (due : Due) →
      words ≡ Some (Check dir n) →
      FolderDue Checks (GathersTold tells.files dir) due →
      Answers words tells due
  certify : (dir cert : List ℕ) (due : Due) →
      words ≡ Some (Certify dir cert) →
      FolderDue (Certifies cert) (GathersTold tells.files dir) due →
      Answers words tells due
  recheck : (dir cert : List ℕ) (due : Due) →
      words ≡ Some (Recheck dir cert) →
      FolderDue (Rechecks cert (GivesTold tells.files cert)) (GathersTold tells.files dir) due →
      Answers words tells due
  story : (dir : List ℕ) (due : Due) →
      words ≡ Some (Story dir) →
      FolderDue Retells (GathersTold tells.files dir) due →
      Answers words tells due
  make : (seed size n : ℕ) (judged : Judged) →
      words ≡ Some (Make seed size n) →
      Judgement (made_parts seed size) judged →
      Answers words tells (due_to_made size (option_map (λ (table : FlowTable). length table.rows) judged.table) judged.outcome)

-- What is due to the words by what the reads in between gave, of any files: those of the folder, in their order, up to
-- the first file for which the app is refused, or those of all its files; behind them for `recheck` that of the
-- certificate; and no more.
abbrev pub DueByReads : Option Words → List Entry → List Entry → Due → Type 0
DueByReads None old new due = (due ≡ usage) × (new ≡ old)
DueByReads (Some (Check dir n)) old new due = FolderDue Checks (Gave old new dir []) due
DueByReads (Some (Certify dir cert)) old new due = FolderDue (Certifies cert) (Gave old new dir []) due
DueByReads (Some (Recheck dir cert)) old new due =
    (given : Result (List ℕ) FileFault)
    × FolderDue (Rechecks cert (λ g. g ≡ given)) (Gave old new dir ((cert, 536870912, given) ∷ [])) due
DueByReads (Some (Story dir)) old new due = FolderDue Retells (Gave old new dir []) due
DueByReads (Some (Make seed size n)) old new due =
    (judged : Judged) × Judgement (made_parts seed size) judged
    × (due ≡ due_to_made size (option_map (λ (table : FlowTable). length table.rows) judged.table) judged.outcome) × (new ≡ old)

-- Of two that are due to the words the one is the other; where stories are asked for, the one has right stories, and
-- but for them is the other.
abbrev pub Alike : Option Words → Tells → Due → Due → Type 0
Alike None tells one other = one ≡ other
Alike (Some (Check dir n)) tells one other = one ≡ other
Alike (Some (Certify dir cert)) tells one other = one ≡ other
Alike (Some (Recheck dir cert)) tells one other = one ≡ other
Alike (Some (Story dir)) tells one other = FolderDue Retells (GathersTold tells.files dir) one × SameButStories one other
Alike (Some (Make seed size n)) tells one other = one ≡ other

-- The soundness of `clear`: these parts make a safe app. The first reads of this call gave them, whatever the files
-- are; and where the files of the folder are told, they hold these parts.
pub record HasSafeApp (dir : List ℕ) (told : Option Told) (old new : List Entry) : Type 0 where
  pub parts : Parts
  pub gave : GaveParts old new dir parts
  pub holds : IsTrue (is_some told) → Holds (held_by told) dir parts
  pub safe : IsSafeApp parts

-- a text begins with another one
abbrev pub BeginsWith : List ℕ → List ℕ → Type 0
BeginsWith front text = (rest : List ℕ) × (text ≡ front ++ rest)

-- the status says that the app of the words is clear
abbrev pub SaysClear : Option Words → ℕ → Type 0
SaysClear None status = ⊥
SaysClear (Some (Check dir n)) status = status ≡ 0
SaysClear (Some (Certify dir cert)) status = status ≡ 0
SaysClear (Some (Recheck dir cert)) status = status ≡ 0
SaysClear (Some (Story dir)) status = status ≡ 0
SaysClear (Some (Make seed size n)) status = status ≡ 0

-- the text begins with the word `clear`, be it cut off behind it; `make` prints a summary, and no such text
abbrev pub TellsClear : Option Words → List ℕ → Type 0
TellsClear None text = ⊥
TellsClear (Some (Check dir n)) text = BeginsWith (codes "clear") text
TellsClear (Some (Certify dir cert)) text = BeginsWith (codes "clear") text
TellsClear (Some (Recheck dir cert)) text = BeginsWith (codes "clear") text
TellsClear (Some (Story dir)) text = BeginsWith (codes "clear") text
TellsClear (Some (Make seed size n)) text = ⊥

-- The words name a safe app, where so much was heard of the files before and after.
abbrev pub IsSafe : Option Words → Tells → List Entry → List Entry → Type 0
IsSafe None tells old new = ⊥
IsSafe (Some (Check dir n)) tells old new = HasSafeApp dir tells.files old new
IsSafe (Some (Certify dir cert)) tells old new = HasSafeApp dir tells.files old new
IsSafe (Some (Recheck dir cert)) tells old new = HasSafeApp dir tells.files old new
IsSafe (Some (Story dir)) tells old new = HasSafeApp dir tells.files old new
IsSafe (Some (Make seed size n)) tells old new = IsSafeApp (made_parts seed size)

-- what parts come to by rows of an analysis that someone gave
abbrev pub ComesByRows : Parts → Outcome → Type 0
ComesByRows parts outcome = (analysis : Analysis) × (rows : List Row) × Rejudgement parts analysis rows (By outcome)

-- The text is the report of what these parts come to, which leaves out nothing that a run of their app does, unless the
-- app is too large. The first reads of this call gave these parts; and where the files of the folder are told, they
-- hold them.
pub record HasFullReport (Comes : Parts → Outcome → Type 0) (dir : List ℕ) (told : Option Told) (old new : List Entry)
    (n : ℕ) (printed : List ℕ) : Type 0 where
  pub parts : Parts
  pub gave : GaveParts old new dir parts
  pub holds : IsTrue (is_some told) → Holds (held_by told) dir parts
  pub outcome : Outcome
  pub comes : Comes parts outcome
  pub status : n ≡ status_of outcome
  pub text : printed ≡ report_text outcome
  pub tells : IsFollowed outcome → TellsOfApp parts outcome

-- The same of what these parts come to by their judgement, with the stories of the findings behind it.
pub record HasFullStories (dir : List ℕ) (told : Option Told) (old new : List Entry) (n : ℕ) (printed : List ℕ)
    : Type 0 where
  pub parts : Parts
  pub gave : GaveParts old new dir parts
  pub holds : IsTrue (is_some told) → Holds (held_by told) dir parts
  pub outcome : Outcome
  pub stories : Option (List StoryOfFinding)
  pub retells : TellsStories parts outcome stories
  pub status : n ≡ status_of outcome
  pub text : printed ≡ storied_text outcome stories
  pub tells : IsFollowed outcome → TellsOfApp parts outcome

-- the status says that the app of the words is flagged or undecided, and a report is printed
abbrev pub SaysFound : Option Words → ℕ → Type 0
SaysFound None status = ⊥
SaysFound (Some (Check dir n)) status = (status ≡ 1) ⊎ (status ≡ 2)
SaysFound (Some (Certify dir cert)) status = (status ≡ 1) ⊎ (status ≡ 2)
SaysFound (Some (Recheck dir cert)) status = (status ≡ 1) ⊎ (status ≡ 2)
SaysFound (Some (Story dir)) status = (status ≡ 1) ⊎ (status ≡ 2)
SaysFound (Some (Make seed size n)) status = ⊥

-- the text leaves out nothing of the app that the words name
abbrev pub IsFullReport : Option Words → Tells → List Entry → List Entry → ℕ → List ℕ → Type 0
IsFullReport None tells old new status text = ⊥
IsFullReport (Some (Check dir n)) tells old new status text = HasFullReport Verdict dir tells.files old new status text
IsFullReport (Some (Certify dir cert)) tells old new status text =
    HasFullReport Verdict dir tells.files old new status text
IsFullReport (Some (Recheck dir cert)) tells old new status text =
    HasFullReport ComesByRows dir tells.files old new status text
IsFullReport (Some (Story dir)) tells old new status text = HasFullStories dir tells.files old new status text
IsFullReport (Some (Make seed size n)) tells old new status text = ⊥

-- the command reads the file of this name
abbrev pub IsFileOf : Option Words → List ℕ → Type 0
IsFileOf None name = ⊥
IsFileOf (Some (Check dir n)) name = IsFileIn dir name
IsFileOf (Some (Certify dir cert)) name = IsFileIn dir name
IsFileOf (Some (Recheck dir cert)) name = IsFileIn dir name ⊎ (name ≡ cert)
IsFileOf (Some (Story dir)) name = IsFileIn dir name
IsFileOf (Some (Make seed size n)) name = ⊥
