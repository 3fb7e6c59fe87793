-- One connection of the desk: what was asked, how it ended, and what was written.
use Rattle.std.specs.Prelude.{◌≡◌, ◌≤◌, ℕ, List, [], take, Option, Some, None, IfSome, Result, Err}
use Rattle.vet_base.specs.Outside.{HasRisen}
use Rattle.desk_links.specs.Links.{Told, without_first, with_written}
use Rattle.case_rules.specs.declared.case.Case.{Case}
use Rattle.case_rules.specs.declared.case.Content.{Content}
use Rattle.case_rules.specs.declared.command.Command.{Command}
use Rattle.case_rules.specs.declared.reply.Reply.{Reply}
use Rattle.case_rules.specs.Desk.{Judgement, Turn, plan_over, reply_to}
use Rattle.case_rules.specs.Runs.{Standing, Ending, Replied, CutOff, Ended as ended, Unread, Unanswered, IsConnection, ToCommand, ToOther, StoreFailed, NoMemory}
use Rattle.case_rules.specs.Runs.{Answer as RunAnswer}
use Rattle.desk_http.specs.declared.asked.Asked.{Asked}
use Rattle.desk_http.specs.declared.asked.HttpFault.{HttpFault}
use Rattle.desk_http.specs.declared.asked.HttpFault.TheVariants as faults
use Rattle.desk_http.specs.declared.reply.Answer.{Answer}
use Rattle.desk_http.specs.Requests.{Answers}
use Rattle.desk_http.specs.Replies.{reply_bytes}
use Rattle.desk_answers.specs.Answers.{error_answer, answer_of}
use Rattle.desk_answers.specs.Texts.{store_failed, no_memory}
use Rattle.desk_serving.specs.declared.serving.Served.{Served}
use Rattle.desk_serving.specs.declared.serving.Served.TheVariants as served
use Rattle.desk_serving.specs.Obeying.{FindsIn}
use Rattle.desk_serving.specs.Responding.{Setting, setting_of, session_in, IsCommand, IsOther}
use Rattle.store_office.specs.declared.office.Office.{Office}
use Rattle.store_office.specs.declared.party.Party.{Party}

-- The turn is the request's command in the session of its party, with what judging gave.
pub record IsTurnOf (finds : Content → Judgement → Type 0) (setting : Setting) (cases : List Case)
    (request : Result Asked HttpFault) (turn : Turn) : Type 0 where
  pub command : IsCommand setting.office request turn.session.party turn.command
  pub session : turn.session ≡ session_in setting turn.session.party
  pub found : FindsIn finds (plan_over turn.session turn.command cases) turn.judgement

-- what is answered
abbrev pub IsAnswer : (Content → Judgement → Type 0) → Setting → List Case → Result Asked HttpFault → RunAnswer → Answer
    → Type 0
IsAnswer finds setting cases request (ToCommand turn) answer =
    IsTurnOf finds setting cases request turn × (answer ≡ answer_of turn.session.party.role (reply_to turn cases))
IsAnswer finds setting cases request ToOther answer = IsOther setting.office request answer
IsAnswer finds setting cases request StoreFailed answer = answer ≡ error_answer 503 store_failed
IsAnswer finds setting cases request NoMemory answer = answer ≡ error_answer 507 no_memory

abbrev pub IsMaybeTurn : (Content → Judgement → Type 0) → Setting → List Case → Result Asked HttpFault → Option Turn
    → Type 0
IsMaybeTurn finds setting cases request None = Unit {0}
IsMaybeTurn finds setting cases request (Some turn) = IsTurnOf finds setting cases request turn

abbrev pub bytes_of : Answer → List ℕ
bytes_of answer = reply_bytes answer.status answer.is_text answer.body

-- How the connection ended, with the bytes that were written, and what is said of it.
abbrev pub IsEnd : (Content → Judgement → Type 0) → Setting → List Case → Result Asked HttpFault → Ending → List ℕ
    → Served → Type 0
IsEnd finds setting cases request (Replied sent) written said =
    (answer : Answer) × IsAnswer finds setting cases request sent answer × (written ≡ bytes_of answer)
    × (said ≡ served.Replied answer.status)
IsEnd finds setting cases request (CutOff sent) written said =
    (answer : Answer) × (n : ℕ) × IsAnswer finds setting cases request sent answer
    × (written ≡ take n (bytes_of answer)) × (said ≡ served.WriteFault)
IsEnd finds setting cases request ended written said =
    (request ≡ Err faults.Ended) × (written ≡ []) × (said ≡ served.Ended)
IsEnd finds setting cases request Unread written said =
    (request ≡ Err faults.ReadFault) × (written ≡ []) × (said ≡ served.ReadFault)
IsEnd finds setting cases request (Unanswered turn) written said =
    IsMaybeTurn finds setting cases request turn × (written ≡ []) × (said ≡ served.Memory)

-- A connection over the cases: keeper and cases are those of one connection of a run, which ended so with these bytes.
pub record IsKept (finds : Content → Judgement → Type 0) (setting : Setting) (before after : Standing)
    (request : Result Asked HttpFault) (written : List ℕ) (said : Served) : Type 0 where
  pub ending : Ending
  pub connection : IsConnection (record { before = before; ending = ending; after = after })
  pub ends : IsEnd finds setting before.cases request ending written said

-- A connection over its link: the request is that of the bytes that came, or why they are none; and nothing is written
-- but these bytes.
pub record IsTalked (told : Told) (told_after : Option Told) (request : Result Asked HttpFault) (written : List ℕ)
    : Type 0 where
  pub of_bytes : Answers told.coming request
  pub taken : ℕ
  pub link : told_after ≡ Some (with_written written (without_first taken told))

-- a connection over both, with one request and the bytes that are due to it
pub record IsServed (finds : Content → Judgement → Type 0) (setting : Setting) (before after : Standing) (told : Told)
    (told_after : Option Told) (said : Served) : Type 0 where
  pub request : Result Asked HttpFault
  pub written : List ℕ
  pub kept : IsKept finds setting before after request written said
  pub talked : IsTalked told told_after request written

-- what is told of the outside, and how often it failed
pub record Outside : Type 0 where
  pub cases : Option (List Case)
  pub store_faults : ℕ
  pub talk : Option Told
  pub link_faults : ℕ

abbrev pub outside : Option (List Case) → ℕ → Option Told → ℕ → Outside
outside cases store_faults talk link_faults =
    record { cases = cases; store_faults = store_faults; talk = talk; link_faults = link_faults }

abbrev pub standing : List Case → Outside → Standing
standing cases o = record { cases = cases; keeper = o.store_faults; link = o.link_faults }

-- What may be answered, whatever the cases are: some reply to the command of the request, in the words for its party; the
-- answer to what is no command; that the store failed, where the keeper's count rose; that memory ran out.
pub data MayAnswer (office : Office) (request : Result Asked HttpFault) (before after : Outside) (answer : Answer)
    : Type 0 where
  to_command : (party : Party) (command : Command) (reply : Reply) → IsCommand office request party command
      → answer ≡ answer_of party.role reply → MayAnswer office request before after answer
  to_other : IsOther office request answer → MayAnswer office request before after answer
  to_failure : answer ≡ error_answer 503 store_failed → HasRisen before.store_faults after.store_faults
      → MayAnswer office request before after answer
  to_want : answer ≡ error_answer 507 no_memory → MayAnswer office request before after answer

-- How a connection may end, whatever the cases are: the bytes that were written, and what is said of it. An answer is cut
-- off, and a request not read, only where the link's count rose.
abbrev pub MayEnd : Office → Result Asked HttpFault → Outside → Outside → List ℕ → Served → Type 0
MayEnd office request before after written (served.Replied status) =
    (answer : Answer) × MayAnswer office request before after answer × (written ≡ bytes_of answer)
    × (status ≡ answer.status)
MayEnd office request before after written served.WriteFault =
    (answer : Answer) × (n : ℕ) × MayAnswer office request before after answer × (written ≡ take n (bytes_of answer))
    × HasRisen before.link_faults after.link_faults
MayEnd office request before after written served.Ended = (request ≡ Err faults.Ended) × (written ≡ [])
MayEnd office request before after written served.ReadFault =
    (request ≡ Err faults.ReadFault) × (written ≡ []) × HasRisen before.link_faults after.link_faults
MayEnd office request before after written served.Memory = written ≡ []

-- One connection on one day, the clock's where it tells it, with one request and the bytes that are due to it: it ends as
-- it may; where the keeper tells its cases, it is one over them, whatever the link tells; where the link tells what comes and
-- is written, it is one over the link, whatever the keeper tells; so where both tell, it is one over both.
pub record Serves (finds : Content → Judgement → Type 0) (office : Office) (edition : List ℕ) (today : Option ℕ)
    (before after : Outside) (said : Served) : Type 0 where
  pub day : ℕ
  pub of_clock : IfSome today (λ d. day ≡ d)
  pub request : Result Asked HttpFault
  pub written : List ℕ
  pub ends : MayEnd office request before after written said
  pub store_never_falls : before.store_faults ≤ after.store_faults
  pub link_never_falls : before.link_faults ≤ after.link_faults
  pub kept : (cases : List Case) → before.cases ≡ Some cases
      → (then : List Case) × (after.cases ≡ Some then)
      × IsKept finds (setting_of office edition day) (standing cases before) (standing then after) request written said
  pub talked : (talk : Told) → before.talk ≡ Some talk → IsTalked talk after.talk request written
