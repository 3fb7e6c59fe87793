-- How a run ends.
use Rattle.std.specs.Prelude.{◌≡◌, ◌⊎◌, ℕ, List, ◌++◌, take, Option, Some, None, Result, Ok, Err}
use Rattle.std.specs.Option.{option_map}
use Rattle.vet_base.specs.Outside.{HasRisen, Told, WritesFile}
use Rattle.heard_files.specs.Outside.{Entry}
use Rattle.vet_base.specs.declared.outside.FileFault.{FileFault}
use Rattle.vet_base.specs.declared.outside.FileFault.TheVariants as faults
use Rattle.vetting_desk.specs.declared.answer.Status.{Status}
use Rattle.desk_words.specs.Words.{Words}
use Rattle.vetting_desk.specs.Answer.{Alike, Answers, DueByReads, IsFullReport, TellsClear}
use Rattle.app_folder.specs.Due.{Due, NewFile}
use Rattle.vetting_desk.specs.Due.{read_fault_text}
use Rattle.vetting_desk.specs.declared.finding.Found.{Found}
use Rattle.vetting_desk.specs.Found.{ReadFails, Says, file_of}
use Rattle.app_folder.specs.Outside.{TellsInput, Outside}

abbrev pub status : ℕ → Status
status n = record { 0 = n }

-- no file changed but one, if any, that was written whole
abbrev pub Writes : Option NewFile → Option Told → Option Told → Type 0
Writes None old new = new ≡ old
Writes (Some file) old new = WritesFile old new file.0 file.1 (Ok tt)

-- No call of the files failed, and this alone was written.
pub record NoFault (written : Option NewFile) (old new : Outside) : Type 0 where
  pub files : Writes written old.tells.files new.tells.files
  pub count : new.faults.files ≡ old.faults.files

-- The write of this file failed in this very call, and is the call that failed last: the file has its old bytes or a front of the new.
pub record WriteFails (file : NewFile) (old new : Outside) : Type 0 where
  pub files : WritesFile old.tells.files new.tells.files file.0 file.1 (Err faults.Failed)
  pub risen : HasRisen old.faults.files new.faults.files

abbrev pub ReadFault : Option Words → Outside → Outside → List ℕ → Type 0
ReadFault words old new name = ReadFails words old.tells.files new.tells.files old.faults.files new.faults.files name

-- A run comes to a status and a text before it prints: those that are due, or those of a read that failed.
pub data ComesToSay (IsDue : Due → Type 0) (words : Option Words) (old new : Outside) : ℕ → List ℕ → Type 0 where
  answer : (due : Due) → IsDue due → NoFault due.written old new → ComesToSay IsDue words old new due.status due.text
  read_fault : (name : List ℕ) → ReadFault words old new name → ComesToSay IsDue words old new 5 (read_fault_text name)

-- Memory ran out on the way there: nothing was done before, or the file that is due was written, or a read had failed.
pub data RunsOut (IsDue : Due → Type 0) (words : Option Words) (old new : Outside) : Type 0 where
  no_fault : NoFault None old new → RunsOut IsDue words old new
  written : (due : Due) → IsDue due → NoFault due.written old new → RunsOut IsDue words old new
  read_fault : (name : List ℕ) → ReadFault words old new name → RunsOut IsDue words old new

-- the whole text was handed to the sink, and printed
pub record Prints (text : List ℕ) (old new : Outside) : Type 0 where
  pub printed : new.tells.printed ≡ option_map (λ taken. taken ++ text) old.tells.printed
  pub count : new.faults.sink ≡ old.faults.sink
  pub handed : new.handed ≡ old.handed ++ text

-- the whole text was handed to the sink, which failed, having taken a front of it
pub record PrintsFront (text : List ℕ) (old new : Outside) : Type 0 where
  pub length : ℕ
  pub printed : new.tells.printed ≡ option_map (λ taken. taken ++ take length text) old.tells.printed
  pub risen : HasRisen old.faults.sink new.faults.sink
  pub handed : new.handed ≡ old.handed ++ text

pub record PrintsNothing (old new : Outside) : Type 0 where
  pub printed : new.tells.printed ≡ old.tells.printed
  pub count : new.faults.sink ≡ old.faults.sink
  pub handed : new.handed ≡ old.handed

-- How a run ends, and with which status, where this is due: what it came to say was printed; or the sink failed meanwhile; or
-- the write of the file that is due failed, and nothing was printed; or memory ran out.
pub data Ends (IsDue : Due → Type 0) (words : Option Words) (old new : Outside) : ℕ → Type 0 where
  said : (n : ℕ) (text : List ℕ) → ComesToSay IsDue words old new n text → Prints text old new → Ends IsDue words old new n
  put_failed : (n : ℕ) (text : List ℕ) → ComesToSay IsDue words old new n text → PrintsFront text old new → Ends IsDue words old new 6
  write_failed : (due : Due) (file : NewFile) → IsDue due → due.written ≡ Some file → WriteFails file old new → PrintsNothing old new → Ends IsDue words old new 6
  memory : RunsOut IsDue words old new → PrintsNothing old new → Ends IsDue words old new 7

-- It ends with what is due to the words and the outside.
abbrev pub EndsAsDue : Option Words → Outside → Outside → ℕ → Type 0
EndsAsDue words old new n = Ends (Answers words old.tells) words old new n

-- It ends with what is due to the words by what the reads in between gave, of any files.
abbrev pub EndsAsRead : Option Words → Outside → Outside → List Entry → List Entry → ℕ → Type 0
EndsAsRead words old new ho hn n = Ends (DueByReads words ho hn) words old new n

-- Where what is read is told, it ends with what is like each due: there is one, but that of a finding there may be several right stories.
abbrev pub EndsAsOnlyDue : Option Words → Outside → Outside → ℕ → Type 0
EndsAsOnlyDue words old new n = TellsInput old.tells → (due : Due) → Answers words old.tells due → Ends (λ d. Alike words old.tells d due) words old new n

-- the text that was printed leaves out nothing
pub record PrintsFullReport (words : Option Words) (old new : Outside) (ho hn : List Entry) (status : ℕ) : Type 0 where
  pub text : List ℕ
  pub prints : Prints text old new
  pub full : IsFullReport words old.tells ho hn status text

-- In between a text was handed to the sink that tells that the app of the words is clear.
pub record HandsClear (words : Option Words) (old new : Outside) : Type 0 where
  pub text : List ℕ
  pub handed : new.handed ≡ old.handed ++ text
  pub tells : TellsClear words text

-- In between the sink took such a text, where it tells.
pub record TakesClear (words : Option Words) (old new : Outside) : Type 0 where
  pub before : List ℕ
  pub text : List ℕ
  pub old_is : old.tells.printed ≡ Some before
  pub new_is : new.tells.printed ≡ Some (before ++ text)
  pub tells : TellsClear words text

-- What a put of a text came to: the text went out and the status stands; or the sink failed, having taken a front of the text; or
-- memory ran out.
abbrev pub PutsText : Option (List ℕ) → Option (List ℕ) → ℕ → ℕ → List ℕ → List ℕ → Status → List ℕ → Status → Type 0
PutsText old new before after hands handed due text result =
    ((result ≡ due) × (new ≡ option_map (λ taken. taken ++ text) old) × (after ≡ before) × (handed ≡ hands ++ text))
    ⊎ ((result ≡ status 6) × ((n : ℕ) × (new ≡ option_map (λ taken. taken ++ take n text) old)) × HasRisen before after
    × (handed ≡ hands ++ text))
    ⊎ ((result ≡ status 7) × (new ≡ old) × (after ≡ before) × (handed ≡ hands))

-- the status of a write that failed
abbrev pub status_of_write : FileFault → Status
status_of_write faults.Absent = status 6
status_of_write faults.TooLong = status 6
status_of_write faults.Failed = status 6
status_of_write faults.Memory = status 7

-- the write of the file that is due failed, or memory ran out
abbrev pub NotWritten : Option NewFile → Option Told → Option Told → ℕ → ℕ → Status → Type 0
NotWritten None old new before after result = ⊥
NotWritten (Some file) old new before after result =
    ((result ≡ status 6) × WritesFile old new file.0 file.1 (Err faults.Failed) × HasRisen before after)
    ⊎ ((result ≡ status 7) × (new ≡ old) × (after ≡ before))

-- what a write of the file that is due came to, if there is one
abbrev pub WritesDue : Option NewFile → Option Told → Option Told → ℕ → ℕ → Result (Unit {0}) Status → Type 0
WritesDue file old new before after (Ok x) = Writes file old new × (after ≡ before)
WritesDue file old new before after (Err result) = NotWritten file old new before after result

-- What was found comes to this end: its file was written, if any, and its text put; or the write failed, or memory ran out there; or
-- memory ran out before anything was written.
pub data Finishes (found : Found) (old new : Outside) (result : Status) : Type 0 where
  put : (due : Status) (text : List ℕ) → Says found due.0 text → NoFault (file_of found) old new → PutsText old.tells.printed new.tells.printed old.faults.sink new.faults.sink old.handed new.handed due text result → Finishes found old new result
  unwritten : NotWritten (file_of found) old.tells.files new.tells.files old.faults.files new.faults.files result → PrintsNothing old new → Finishes found old new result
  memory : result ≡ status 7 → NoFault None old new → PrintsNothing old new → Finishes found old new result
