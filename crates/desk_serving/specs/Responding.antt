-- What a request is answered, and what becomes of the cases with it.
use Rattle.std.specs.Prelude.{◌≡◌, ℕ, ◌⊎◌, List, Option, Some, None, IfSome, Result, Ok, Err}
use Rattle.http.specs.StatusCode.{IsStatusCode}
use Rattle.vet_base.specs.Outside.{HasRisen}
use Rattle.case_rules.specs.declared.case.Case.{Case}
use Rattle.case_rules.specs.declared.case.Content.{Content}
use Rattle.case_rules.specs.declared.command.Command.{Command}
use Rattle.store_office.specs.declared.party.Party.{Party}
use Rattle.store_office.specs.declared.party.Role.{Role}
use Rattle.case_rules.specs.declared.reply.Reply.{Reply}
use Rattle.case_rules.specs.Rules.{Session, session_of}
use Rattle.case_rules.specs.Desk.{Judgement}
use Rattle.store_office.specs.declared.office.Office.{Office}
use Rattle.desk_http.specs.declared.asked.Asked.{Asked}
use Rattle.desk_http.specs.declared.asked.HttpFault.{HttpFault}
use Rattle.desk_http.specs.declared.reply.Answer.{Answer}
use Rattle.desk_answers.specs.Answers.{error_answer, answer_of, answer_to_fault}
use Rattle.desk_answers.specs.Texts.{store_failed, no_memory}
use Rattle.desk_routes.specs.declared.command.Turn.{Turn}
use Rattle.desk_routes.specs.declared.command.Turn.TheVariants as turns
use Rattle.desk_routes.specs.Turns.{turn_of}
use Rattle.desk_serving.specs.declared.responding.Due.{Due}
use Rattle.desk_serving.specs.declared.responding.Due.TheVariants.{Command as ToCommand, Other as ToOther, StoreFailed, NoMemory, Nothing}
use Rattle.desk_serving.specs.Obeying.{Obeys}

-- the office, the edition of the lists, and the day
pub record Setting : Type 0 where
  pub office : Office
  pub edition : List ℕ
  pub day : ℕ

abbrev pub setting_of : Office → List ℕ → ℕ → Setting
setting_of office edition day = record { office = office; edition = edition; day = day }

-- the session of a party on this day
abbrev pub session_in : Setting → Party → Session
session_in setting party = session_of party setting.office.appeal_days setting.day setting.edition

-- what a request comes to at an office
abbrev pub turn_at : Office → Asked → Turn
turn_at office asked = turn_of asked.post asked.path asked.token asked.body.items office

-- The request is this command of this party.
abbrev pub IsCommand : Office → Result Asked HttpFault → Party → Command → Type 0
IsCommand office (Ok asked) party command = turn_at office asked ≡ turns.Run party command
IsCommand office (Err fault) party command = ⊥

-- The request is no command, and is answered so.
abbrev pub IsOther : Office → Result Asked HttpFault → Answer → Type 0
IsOther office (Ok asked) answer = turn_at office asked ≡ turns.Answer answer
IsOther office (Err fault) answer = answer_to_fault fault ≡ Some answer

-- The request is a command, and it was carried out with this reply.
pub record CarriesOut (finds : Content → Judgement → Type 0) (setting : Setting)
    (before after : Option (List Case)) (request : Result Asked HttpFault) (party : Party) (reply : Reply) : Type 0 where
  pub command : Command
  pub is : IsCommand setting.office request party command
  pub obeys : Obeys finds (session_in setting party) command before after reply

-- What is due to a request: the reply to a command that was carried out; the answer to what is no command; that the
-- store failed, or that memory ran out, and the cases are as before; or nothing, for want of memory, be it before a
-- command was carried out or behind it.
abbrev pub Responds : (Content → Judgement → Type 0) → Setting → Option (List Case) → Option (List Case)
    → Result Asked HttpFault → Due → Type 0
Responds finds setting before after request (ToCommand answer) =
    (party : Party) × (reply : Reply) × CarriesOut finds setting before after request party reply
    × (answer ≡ answer_of party.role reply)
Responds finds setting before after request (ToOther answer) = IsOther setting.office request answer × (after ≡ before)
Responds finds setting before after request (StoreFailed answer) =
    (answer ≡ error_answer 503 store_failed) × (after ≡ before)
Responds finds setting before after request (NoMemory answer) = (answer ≡ error_answer 507 no_memory) × (after ≡ before)
Responds finds setting before after request Nothing =
    (after ≡ before)
    ⊎ ((party : Party) × (reply : Reply) × CarriesOut finds setting before after request party reply)

-- What a party of this role is answered to a reply, or nothing.
abbrev pub SaysReply : Role → Reply → Due → Type 0
SaysReply role reply (ToCommand answer) = answer ≡ answer_of role reply
SaysReply role reply (ToOther answer) = ⊥
SaysReply role reply (StoreFailed answer) = ⊥
SaysReply role reply (NoMemory answer) = ⊥
SaysReply role reply Nothing = Unit {0}

-- That memory ran out is said, or nothing.
abbrev pub SaysNoMemory : Due → Type 0
SaysNoMemory (ToCommand answer) = ⊥
SaysNoMemory (ToOther answer) = ⊥
SaysNoMemory (StoreFailed answer) = ⊥
SaysNoMemory (NoMemory answer) = answer ≡ error_answer 507 no_memory
SaysNoMemory Nothing = Unit {0}

-- That the store failed is said, or nothing.
abbrev pub SaysStoreFailed : Due → Type 0
SaysStoreFailed (ToCommand answer) = ⊥
SaysStoreFailed (ToOther answer) = ⊥
SaysStoreFailed (StoreFailed answer) = answer ≡ error_answer 503 store_failed
SaysStoreFailed (NoMemory answer) = ⊥
SaysStoreFailed Nothing = Unit {0}

-- What is answered to bytes that are no request, or nothing.
abbrev pub SaysOther : HttpFault → Due → Type 0
SaysOther fault (ToCommand answer) = ⊥
SaysOther fault (ToOther answer) = answer_to_fault fault ≡ Some answer
SaysOther fault (StoreFailed answer) = ⊥
SaysOther fault (NoMemory answer) = ⊥
SaysOther fault Nothing = Unit {0}

-- the answer that is due, if any
abbrev pub answer_in : Due → Option Answer
answer_in (ToCommand answer) = Some answer
answer_in (ToOther answer) = Some answer
answer_in (StoreFailed answer) = Some answer
answer_in (NoMemory answer) = Some answer
answer_in Nothing = None

-- Its status is one of HTTP.
abbrev pub IsCoded : Due → Type 0
IsCoded due = IfSome (answer_in due) (λ answer. IsStatusCode answer.status)

-- The store is called failed only where the keeper's count rose.
abbrev pub RaisesStore : ℕ → ℕ → Due → Type 0
RaisesStore before now (ToCommand answer) = Unit {0}
RaisesStore before now (ToOther answer) = Unit {0}
RaisesStore before now (StoreFailed answer) = HasRisen before now
RaisesStore before now (NoMemory answer) = Unit {0}
RaisesStore before now Nothing = Unit {0}
