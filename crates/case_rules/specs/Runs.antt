-- A run of the desk: connections one after the other. Each is replied to as the machine says, or has a cause why
-- not. What stands in requests and replies is a matter of the layer above.
use Rattle.std.specs.Prelude.{◌≤◌, ◌≡◌, ℕ, ◌+◌, List, [], ◌∷◌, Option, Some, None}
use Rattle.vet_base.specs.Outside.{HasRisen}
use Rattle.case_rules.specs.declared.case.Case.{Case}
use Rattle.case_rules.specs.declared.reply.Reply.{Reply}
use Rattle.case_rules.specs.Desk.{Turn, reply_to, cases_then}

-- the cases, and how often the keeper and the link failed
pub record Standing : Type 0 where
  pub cases : List Case
  pub keeper : ℕ
  pub link : ℕ

-- What is answered: the reply to a command; an answer to what is no command; that the store failed; that memory
-- ran out.
pub data Answer : Type 0 where
  ToCommand : Turn → Answer
  ToOther : Answer
  StoreFailed : Answer
  NoMemory : Answer

-- How a connection ends: with the whole answer; with a part of it; before a whole request came; with a request that
-- could not be read; or, where memory ran out, without an answer, be it before a command was carried out or behind it.
pub data Ending : Type 0 where
  Replied : Answer → Ending
  CutOff : Answer → Ending
  Ended : Ending
  Unread : Ending
  Unanswered : Option Turn → Ending

pub record Connection : Type 0 where
  pub before : Standing
  pub ending : Ending
  pub after : Standing

-- the command that was carried out
abbrev pub command_of : Answer → Option Turn
command_of (ToCommand turn) = Some turn
command_of ToOther = None
command_of StoreFailed = None
command_of NoMemory = None

abbrev pub carried_out : Ending → Option Turn
carried_out (Replied answer) = command_of answer
carried_out (CutOff answer) = command_of answer
carried_out Ended = None
carried_out Unread = None
carried_out (Unanswered turn) = turn

abbrev pub cases_by : Option Turn → List Case → List Case
cases_by None cases = cases
cases_by (Some turn) cases = cases_then turn cases

-- The store is called failed only where the keeper's count rose.
abbrev pub AnswerCause : Standing → Standing → Answer → Type 0
AnswerCause before after (ToCommand turn) = Unit {0}
AnswerCause before after ToOther = Unit {0}
AnswerCause before after StoreFailed = HasRisen before.keeper after.keeper
AnswerCause before after NoMemory = Unit {0}

-- An answer is cut off, and a request not read, only where the link's count rose.
abbrev pub EndingCause : Standing → Standing → Ending → Type 0
EndingCause before after (Replied answer) = AnswerCause before after answer
EndingCause before after (CutOff answer) = AnswerCause before after answer × HasRisen before.link after.link
EndingCause before after Ended = Unit {0}
EndingCause before after Unread = HasRisen before.link after.link
EndingCause before after (Unanswered turn) = Unit {0}

-- The cases are changed by the command that was carried out, and no count falls.
pub record IsConnection (c : Connection) : Type 0 where
  pub cases : c.after.cases ≡ cases_by (carried_out c.ending) c.before.cases
  pub keeper : c.before.keeper ≤ c.after.keeper
  pub link : c.before.link ≤ c.after.link
  pub cause : EndingCause c.before c.after c.ending

-- From one connection to the next the cases and the keeper's count stay; the link's count may rise as the next one
-- opens.
pub record PassesOn (from to : Standing) : Type 0 where
  pub cases : to.cases ≡ from.cases
  pub keeper : to.keeper ≡ from.keeper
  pub link : from.link ≤ to.link

-- the connections of a run from its entry to its exit
abbrev pub IsDeskRun : Standing → List Connection → Standing → Type 0
IsDeskRun entry [] exit = PassesOn entry exit
IsDeskRun entry (c ∷ connections) exit = PassesOn entry c.before × IsConnection c × IsDeskRun c.after connections exit

-- the commands of a run, one after the other
abbrev pub turns_with : Option Turn → List Turn → List Turn
turns_with None turns = turns
turns_with (Some turn) turns = turn ∷ turns

abbrev pub turns_of : List Connection → List Turn
turns_of [] = []
turns_of (c ∷ connections) = turns_with (carried_out c.ending) (turns_of connections)

-- the replies to them, each by the cases before its connection
abbrev pub replies_with : Option Turn → List Case → List Reply → List Reply
replies_with None cases replies = replies
replies_with (Some turn) cases replies = reply_to turn cases ∷ replies

abbrev pub replies_in : List Connection → List Reply
replies_in [] = []
replies_in (c ∷ connections) = replies_with (carried_out c.ending) c.before.cases (replies_in connections)

-- how many connections were told that the store failed, or were about to be
abbrev pub failures_by : Answer → ℕ
failures_by (ToCommand turn) = 0
failures_by ToOther = 0
failures_by StoreFailed = 1
failures_by NoMemory = 0

abbrev pub failures_at : Ending → ℕ
failures_at (Replied answer) = failures_by answer
failures_at (CutOff answer) = failures_by answer
failures_at Ended = 0
failures_at Unread = 0
failures_at (Unanswered turn) = 0

abbrev pub failures_in : List Connection → ℕ
failures_in [] = 0
failures_in (c ∷ connections) = failures_at c.ending + failures_in connections
