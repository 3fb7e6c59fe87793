-- How a run of `submit` ends.
use Rattle.std.specs.Prelude.{◌≡◌, ℕ, ◌==◌, ◌||◌, Bool, List, ◌++◌, take, Option, Some, None, Result, Ok, Err, if◌then◌else◌}
use Rattle.std.specs.Option.{option_map}
use Rattle.vet_base.specs.Outside.{HasRisen}
use Rattle.vet_base.specs.Outside.{Told as FilesTold}
use Rattle.heard_files.specs.Outside.{Entry}
use Rattle.desk_links.specs.Links.{Told as LinkTold}
use Rattle.client_http.specs.ReadAs.{IsReadAs}
use Rattle.client_replies.specs.declared.answered.Answered.{Answered}
use Rattle.desk_client.specs.declared.submission.SubmitFault.{SubmitFault}
use Rattle.desk_client.specs.declared.submission.SubmitFault.TheVariants as submits
use Rattle.desk_client.specs.Tries.{Moment, Runs}
use Rattle.client_service.specs.declared.outside.Status.{Status}
use Rattle.client_service.specs.declared.ready.Refusal.{Refusal}
use Rattle.client_service.specs.Posting.{Posting, Posts, request_for}
use Rattle.client_service.specs.Reading.{ReadFails}
use Rattle.client_service.specs.Texts.{refused_text, read_fault_text, accepted_text, answered_text, no_answer_text}
use Rattle.client_service.specs.Words.{Submit}

-- what is told of the files and of the dials at one moment, and how often their calls failed
pub record Outside : Type 0 where
  pub files : Option FilesTold
  pub file_faults : ℕ
  pub dials : Moment

abbrev pub outside : Option FilesTold → ℕ → Option LinkTold → ℕ → Outside
outside files file_faults talk link_faults = record {
  files = files;
  file_faults = file_faults;
  dials = record { told = talk; faults = link_faults };
}

-- besides, what was heard of the files, what was printed, and what was handed to the sink
pub record Seen : Type 0 where
  pub io : Outside
  pub heard : List Entry
  pub printed : Option (List ℕ)
  pub print_faults : ℕ
  pub handed : List ℕ

abbrev pub seen : Option FilesTold → ℕ → List Entry → Option (List ℕ) → ℕ → List ℕ → Option LinkTold → ℕ → Seen
seen files file_faults heard printed print_faults handed talk link_faults = record {
  io = outside files file_faults talk link_faults;
  heard = heard;
  printed = printed;
  print_faults = print_faults;
  handed = handed;
}

-- The request for what the folder gives was sent up to this end, as often as the client says at most. The desk reads these bytes as
-- the submission of this app under this reference, by whoever has the client's token. No file changed.
pub record Sends (asked : Submit) (old new : Outside) (posting : Posting) (end : Result Answered SubmitFault) : Type 0 where
  pub posts : Posts old.files asked (Ok posting)
  pub read : IsReadAs posting.client.token asked.reference posting.content (request_for asked.reference posting)
  pub runs : Runs (request_for asked.reference posting) posting.client.tries old.dials end new.dials
  pub files : new.files ≡ old.files
  pub file_faults : new.file_faults ≡ old.file_faults

-- the desk has the app: 200 where it was there already, and 201 (RFC 9110, sections 15.3.1 and 15.3.2)
abbrev pub is_accepted : ℕ → Bool
is_accepted status = (status == 200) || (status == 201)

abbrev pub reply_status : ℕ → ℕ
reply_status status = if is_accepted status then 0 else 3

abbrev pub reply_text : List ℕ → ℕ → List ℕ
reply_text reference status = if is_accepted status then accepted_text reference else answered_text status

-- A run comes to a status and a text before it prints. Where a folder is refused, or a file of it could not be read, nothing is
-- dialled.
pub data ComesToSay (asked : Submit) (old new : Outside) : ℕ → List ℕ → Type 0 where
  refused : (refusal : Refusal) → Posts old.files asked (Err refusal) → new ≡ old → ComesToSay asked old new 3 (refused_text refusal)
  read_fault : (name : List ℕ) → ReadFails old.files new.files old.file_faults new.file_faults asked.dir name
      → new.dials ≡ old.dials → ComesToSay asked old new 5 (read_fault_text name)
  answered : (posting : Posting) (reply : Answered) → Sends asked old new posting (Ok reply)
      → ComesToSay asked old new (reply_status reply.status) (reply_text asked.reference reply.status)
  no_answer : (posting : Posting) → Sends asked old new posting (Err submits.NoReply)
      → ComesToSay asked old new 10 (no_answer_text posting.client.tries)

-- Memory ran out on the way there: before anything was dialled, as a reply was read, or as the text was made.
pub data RunsOut (asked : Submit) (old new : Outside) : Type 0 where
  unsent : new ≡ old → RunsOut asked old new
  unread : (posting : Posting) → Sends asked old new posting (Err submits.Memory) → RunsOut asked old new
  unsaid : (n : ℕ) (text : List ℕ) → ComesToSay asked old new n text → RunsOut asked old new

-- the whole text was handed to the sink, and printed
pub record Prints (text : List ℕ) (old new : Seen) : Type 0 where
  pub printed : new.printed ≡ option_map (λ taken. taken ++ text) old.printed
  pub count : new.print_faults ≡ old.print_faults
  pub handed : new.handed ≡ old.handed ++ text

-- the whole text was handed to the sink, which failed, having taken a front of it
pub record PrintsFront (text : List ℕ) (old new : Seen) : Type 0 where
  pub length : ℕ
  pub printed : new.printed ≡ option_map (λ taken. taken ++ take length text) old.printed
  pub risen : HasRisen old.print_faults new.print_faults
  pub handed : new.handed ≡ old.handed ++ text

pub record PrintsNothing (old new : Seen) : Type 0 where
  pub printed : new.printed ≡ old.printed
  pub count : new.print_faults ≡ old.print_faults
  pub handed : new.handed ≡ old.handed

-- How a run ends, and with which status: what it came to say was printed; or the sink failed meanwhile; or memory ran out.
pub data Ends (asked : Submit) (old new : Seen) : ℕ → Type 0 where
  said : (n : ℕ) (text : List ℕ) → ComesToSay asked old.io new.io n text → Prints text old new → Ends asked old new n
  put_failed : (n : ℕ) (text : List ℕ) → ComesToSay asked old.io new.io n text → PrintsFront text old new
      → Ends asked old new 6
  memory : RunsOut asked old.io new.io → PrintsNothing old new → Ends asked old new 7

-- Words that are no `submit` end nothing, and change nothing: nothing is dialled.
abbrev pub Answers : Option Submit → Seen → Seen → Option Status → Type 0
Answers None old new None = new ≡ old
Answers None old new (Some status) = ⊥
Answers (Some asked) old new None = ⊥
Answers (Some asked) old new (Some status) = Ends asked old new status.0
