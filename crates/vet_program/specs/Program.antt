-- What the program does for words that ask for no desk: it hands in an app, or it vets.
use Rattle.std.specs.Prelude.{◌≡◌, ◌≢◌, ℕ, List, [], Option, Some, None, Result, Ok, Err, String, Vec, map, string_bytes}
use Rattle.std.specs.declared.alloc.Global.{Global}
use Rattle.std.specs.declared.io.Error.{Error}
use Rattle.std.specs.declared.io.ErrorKind.TheVariants.{OutOfMemory}
use Rattle.std.specs.IoError.{error_kind}
use Rattle.heard_files.specs.Outside.{Entry}
use Rattle.app_folder.specs.Outside.{Outside, outside}
use Rattle.client_service.specs.Submitting.{Seen, Ends}
use Rattle.client_service.specs.Words.{Submit}
use Rattle.client_service.specs.Words.{parse as parse_submit}
use Rattle.desk_words.specs.Words.{Words}
use Rattle.desk_words.specs.Words.{parse as parse_vetting}
use Rattle.vetting_desk.specs.Answer.{SaysClear, IsSafe, SaysFound}
use Rattle.vetting_desk.specs.Top.{EndsAsDue, EndsAsRead, EndsAsOnlyDue, PrintsFullReport, HandsClear, TakesClear}

-- what the words ask for; words that are no command are answered as a vetting
pub data Task : Type 0 where
  Submitting : Submit → Task
  Vetting : Option Words → Task

abbrev pub task_in : Option Submit → Option Words → Task
task_in (Some asked) words = Submitting asked
task_in None words = Vetting words

abbrev pub task_of : List (List ℕ) → Task
task_of words = task_in (parse_submit words) (parse_vetting words)

-- A vetting ends as is due to its words, and so by what its reads gave, and only so; clear is of a safe app, by its
-- status and where it is printed or handed over; and what is found leaves out nothing. So much was heard of the files
-- before and after.
pub record Vets (words : Option Words) (old new : Outside) (ho hn : List Entry) (status : ℕ) : Type 0 where
  pub ends : EndsAsDue words old new status
  pub reads : EndsAsRead words old new ho hn status
  pub only : EndsAsOnlyDue words old new status
  pub sound : SaysClear words status → IsSafe words old.tells ho hn
  pub clear : TakesClear words old new → IsSafe words old.tells ho hn
  pub handed : HandsClear words old new → IsSafe words old.tells ho hn
  pub full : SaysFound words status → PrintsFullReport words old new ho hn status

-- what a vetting acts on, without the dials
abbrev pub vetted_of : Seen → Outside
vetted_of seen = outside seen.io.files seen.io.file_faults seen.printed seen.print_faults seen.handed

-- How the task ends, and with which status. A vetting dials nothing.
abbrev pub Runs : Task → Seen → Seen → ℕ → Type 0
Runs (Submitting asked) old new status = Ends asked old new status
Runs (Vetting words) old new status =
    Vets words (vetted_of old) (vetted_of new) old.heard new.heard status × (new.io.dials ≡ old.io.dials)

-- The words as the system gives them: where memory ran out while they were read, this is the end; words that cannot be
-- read otherwise are none.
abbrev pub RunsGiven : Result (Vec (String Global) Global) Error → (List (List ℕ) → Type 0) → Type 0 → Type 0
RunsGiven (Ok words) RunsFor NoMemory = RunsFor (map string_bytes words.items)
RunsGiven (Err e) RunsFor NoMemory =
    (error_kind e ≡ OutOfMemory → NoMemory) × (error_kind e ≢ OutOfMemory → RunsFor [])
