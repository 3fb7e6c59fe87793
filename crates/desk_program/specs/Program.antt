-- What the program does: it serves a desk, hands in an app, or vets, by its words.
use Rattle.std.specs.Prelude.{◌≡◌, ℕ, List, Option, Some, None}
use Rattle.vet_base.specs.Outside.{Told as FilesTold}
use Rattle.heard_files.specs.Outside.{Entry}
use Rattle.desk_links.specs.Links.{Told as LinkTold}
use Rattle.case_rules.specs.declared.case.Case.{Case}
use Rattle.desk_client.specs.Tries.{Moment}
use Rattle.desk_service.specs.Serving.{Seen, Ends, seen}
use Rattle.desk_words.specs.Serve.{Serve, parse}
use Rattle.client_service.specs.Submitting.{Seen as Submission}
use Rattle.vet_program.specs.Program.{Task as Other}
use Rattle.vet_program.specs.Program.{Runs as RunsOther}
use Rattle.vet_program.specs.Program.{task_of as other_task}

-- what the words ask for: a desk, or what needs none
pub data Task : Type 0 where
  Serving : Serve → Task
  Without : Other → Task

abbrev pub task_in : Option Serve → Other → Task
task_in (Some asked) other = Serving asked
task_in None other = Without other

abbrev pub task_of : List (List ℕ) → Task
task_of words = task_in (parse words) (other_task words)

-- what is told at one moment of all that the program acts on, and how often its calls failed
pub record World : Type 0 where
  pub desk : Seen
  pub dials : Moment

abbrev pub world : Option FilesTold → ℕ → List Entry → Option (List ℕ) → ℕ → List ℕ → Option (List Case) → ℕ → Option LinkTold → ℕ → Option LinkTold → ℕ → World
world files file_faults heard printed print_faults handed cases store_faults talk link_faults dials dial_faults = record {
  desk = seen files file_faults heard printed print_faults handed cases store_faults talk link_faults;
  dials = record { told = dials; faults = dial_faults };
}

-- files, output and dials
abbrev pub without_desk : World → Submission
without_desk world = record {
  io = record { files = world.desk.files; file_faults = world.desk.file_faults; dials = world.dials };
  heard = world.desk.heard;
  printed = world.desk.printed;
  print_faults = world.desk.print_faults;
  handed = world.desk.handed;
}

-- How the task ends on this day, and with which status. A desk dials nothing; without one no case changes and no connection is
-- taken.
abbrev pub Runs : Task → Option ℕ → World → World → ℕ → Type 0
Runs (Serving asked) today old new status = Ends asked today old.desk new.desk status × (new.dials ≡ old.dials)
Runs (Without other) today old new status =
    RunsOther other (without_desk old) (without_desk new) status × (new.desk.desk ≡ old.desk.desk)
