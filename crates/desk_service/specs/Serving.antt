-- How a run of `serve` ends.
use Rattle.std.specs.Prelude.{◌≡◌, ℕ, List, ◌++◌, take, Option, Some, None, Result, Ok, Err}
use Rattle.std.specs.Option.{option_map}
use Rattle.sha2.specs.Sha256.{sha256}
use Rattle.vet_base.specs.Outside.{HasRisen}
use Rattle.vet_base.specs.Outside.{Told as FilesTold}
use Rattle.heard_files.specs.Outside.{Entry}
use Rattle.desk_links.specs.Links.{Told as LinkTold}
use Rattle.desk_links.specs.declared.door.DoorFault.{DoorFault}
use Rattle.desk_links.specs.declared.door.DoorFault.TheVariants as doors
use Rattle.case_rules.specs.declared.case.Case.{Case}
use Rattle.desk_serving.specs.Serving.{Outside, outside}
use Rattle.desk_serving.specs.Run.{Runs, IsMachineRun, HoldsTalks, CountsAll}
use Rattle.desk_service.specs.Adding.{AddsVerdicts}
use Rattle.desk_service.specs.declared.opening.Paper.{Paper}
use Rattle.desk_service.specs.declared.outside.Status.{Status}
use Rattle.desk_service.specs.Judging.{FindsBy}
use Rattle.desk_service.specs.Opening.{Opened, Refusal, OpensAs, GaveOffice, ReadFails, paper_path}
use Rattle.desk_service.specs.Safety.{StaysSafe}
use Rattle.desk_service.specs.Texts.{refused_text, read_fault_text, served_text, door_fault_text}
use Rattle.desk_words.specs.Serve.{Serve}

-- what is told of the outside at one moment, how often its calls failed, what was heard of the files and handed to the sink
pub record Seen : Type 0 where
  pub files : Option FilesTold
  pub file_faults : ℕ
  pub heard : List Entry
  pub printed : Option (List ℕ)
  pub print_faults : ℕ
  pub handed : List ℕ
  pub desk : Outside

abbrev pub seen : Option FilesTold → ℕ → List Entry → Option (List ℕ) → ℕ → List ℕ → Option (List Case) → ℕ → Option LinkTold → ℕ → Seen
seen files file_faults heard printed print_faults handed cases store_faults talk link_faults = record {
  files = files;
  file_faults = file_faults;
  heard = heard;
  printed = printed;
  print_faults = print_faults;
  handed = handed;
  desk = outside cases store_faults talk link_faults;
}

-- no file changed, and no call of the files failed
pub record KeepsFiles (old new : Seen) : Type 0 where
  pub files : new.files ≡ old.files
  pub faults : new.file_faults ≡ old.file_faults

-- Connections were taken, one after the other, up to a number or until no more came, and each was served by these lists. Where
-- the keeper tells its cases, whatever the door tells: this is a run of the desk's machine, only verdicts are added to the
-- cases, and what is called clear stays safe. Where the door tells, whatever the keeper tells: conversations were held, as
-- many as there are.
pub record ServesDesk (opened : Opened) (today : Option ℕ) (most : ℕ) (old new : Outside) (result : Result ℕ DoorFault)
    : Type 0 where
  pub runs : Runs (FindsBy opened.lists) opened.office (sha256 opened.lists) today most old new result
  pub machine : IsMachineRun old new result
  pub adds : AddsVerdicts opened.lists old.cases new.cases
  pub safe : StaysSafe opened.lists old new
  pub talks : HoldsTalks opened.office old new result
  pub counts : CountsAll most old result

-- Connections were taken at the desk that the folder gives. The reads in between gave its two files, whatever the files are.
pub record Serves (asked : Serve) (today : Option ℕ) (old new : Seen) (result : Result ℕ DoorFault) : Type 0 where
  pub opened : Opened
  pub opens : OpensAs old.files asked.office (Ok opened)
  pub gave : GaveOffice old.heard new.heard asked.office opened
  pub files : KeepsFiles old new
  pub desk : ServesDesk opened today asked.most old.desk new.desk result

-- A run comes to a status and a text before it prints: the files were read, and connections taken where none is refused.
pub data ComesToSay (asked : Serve) (today : Option ℕ) (old new : Seen) : ℕ → List ℕ → Type 0 where
  served : (count : ℕ) → Serves asked today old new (Ok count) → ComesToSay asked today old new 0 (served_text count)
  refused : (refusal : Refusal) → OpensAs old.files asked.office (Err refusal) → KeepsFiles old new → new.desk ≡ old.desk
      → ComesToSay asked today old new 3 (refused_text refusal.0 refusal.1)
  read_fault : (paper : Paper)
      → ReadFails old.files new.files old.file_faults new.file_faults (paper_path asked.office paper)
      → new.desk ≡ old.desk
      → ComesToSay asked today old new 5 (read_fault_text (paper_path asked.office paper))
  door_fault : Serves asked today old new (Err doors.Failed) → HasRisen old.desk.link_faults new.desk.link_faults
      → ComesToSay asked today old new 8 door_fault_text

-- Memory ran out on the way there: before connections were taken, as one was opened, or as the text was made.
pub data RunsOut (asked : Serve) (today : Option ℕ) (old new : Seen) : Type 0 where
  unopened : KeepsFiles old new → new.desk ≡ old.desk → RunsOut asked today old new
  at_door : Serves asked today old new (Err doors.Memory) → RunsOut asked today old new
  unsaid : (n : ℕ) (text : List ℕ) → ComesToSay asked today old new n text → RunsOut asked today old new

-- the whole text was handed to the sink, and printed
pub record Prints (text : List ℕ) (old new : Seen) : Type 0 where
  pub printed : new.printed ≡ option_map (λ taken. taken ++ text) old.printed
  pub count : new.print_faults ≡ old.print_faults
  pub handed : new.handed ≡ old.handed ++ text

-- the whole text was handed to the sink, which failed, having taken a front of it
pub record PrintsFront (text : List ℕ) (old new : Seen) : Type 0 where
  pub length : ℕ
  pub printed : new.printed ≡ option_map (λ taken. taken ++ take length text) old.printed
  pub risen : HasRisen old.print_faults new.print_faults
  pub handed : new.handed ≡ old.handed ++ text

pub record PrintsNothing (old new : Seen) : Type 0 where
  pub printed : new.printed ≡ old.printed
  pub count : new.print_faults ≡ old.print_faults
  pub handed : new.handed ≡ old.handed

-- How a run ends, and with which status: what it came to say was printed; or the sink failed meanwhile; or memory ran out.
pub data Ends (asked : Serve) (today : Option ℕ) (old new : Seen) : ℕ → Type 0 where
  said : (n : ℕ) (text : List ℕ) → ComesToSay asked today old new n text → Prints text old new → Ends asked today old new n
  put_failed : (n : ℕ) (text : List ℕ) → ComesToSay asked today old new n text → PrintsFront text old new
      → Ends asked today old new 6
  memory : RunsOut asked today old new → PrintsNothing old new → Ends asked today old new 7

-- Words that are no `serve` end nothing, and change nothing.
abbrev pub Answers : Option Serve → Option ℕ → Seen → Seen → Option Status → Type 0
Answers None today old new None = new ≡ old
Answers None today old new (Some status) = ⊥
Answers (Some asked) today old new None = ⊥
Answers (Some asked) today old new (Some status) = Ends asked today old new status.0
