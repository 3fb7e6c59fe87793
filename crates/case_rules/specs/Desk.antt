-- The machine of the desk over the list of all cases: one command, and lists of commands.
use Rattle.std.specs.Prelude.{ℕ, Bool, false, List, [], ◌∷◌, find}
use Rattle.case_rules.specs.declared.case.Case.{Case}
use Rattle.case_rules.specs.declared.case.Decision.{Decision}
use Rattle.case_rules.specs.declared.case.Line.{Line}
use Rattle.case_rules.specs.declared.case.OutcomeWord.{OutcomeWord}
use Rattle.store_office.specs.declared.party.Role.{Role}
use Rattle.store_office.specs.declared.party.Role.TheVariants.{Developer, Reviewer}
use Rattle.case_rules.specs.declared.command.Command.{Command}
use Rattle.case_rules.specs.declared.command.Command.TheVariants as commands
use Rattle.case_rules.specs.declared.command.View.{View}
use Rattle.case_rules.specs.declared.reply.Reply.{Reply}
use Rattle.case_rules.specs.declared.reply.Reply.TheVariants as replies
use Rattle.case_rules.specs.declared.reply.Plan.{Plan}
use Rattle.case_rules.specs.declared.reply.Plan.TheVariants.{Say, Do, Judge}
use Rattle.case_rules.specs.Cases.{is_named, is_queued, with_entry, amended, after, queued_of, own_lines, open_lines}
use Rattle.case_rules.specs.Rules.{Session, planned}

-- what judging gave, where a case is judged
pub record Judgement : Type 0 where
  pub outcome : OutcomeWord
  pub report : List ℕ

-- the test of the case that a command speaks of
abbrev pub speaks_of : Session → Command → Case → Bool
speaks_of session (commands.Submit reference content) = is_named session.party.name reference
speaks_of session commands.Decide = is_queued
speaks_of session (commands.Show reference) = is_named session.party.name reference
speaks_of session (commands.Report reference) = is_named session.party.name reference
speaks_of session (commands.Appeal reference text) = is_named session.party.name reference
speaks_of session (commands.Review developer reference) = is_named developer reference
speaks_of session (commands.Rule developer reference word) = is_named developer reference
speaks_of session commands.List = λ _. false

-- A developer lists the own cases, a reviewer the open appeals.
abbrev pub listed : Role → List ℕ → List Case → List Line
listed Developer party cases = own_lines party cases
listed Reviewer party cases = open_lines cases

-- all that the cases show for a command
abbrev pub view_of : Session → Command → List Case → View
view_of session command cases = record {
  found = find (speaks_of session command) cases;
  first = find is_queued cases;
  queued = queued_of session.party.name cases;
  lines = listed session.party.role session.party.name cases;
}

-- the decision that a session adds
abbrev pub decision_by : Session → Judgement → Decision
decision_by session judgement = record {
  outcome = judgement.outcome;
  report = judgement.report;
  lists = session.edition;
  reviewer = session.party.name;
  day = session.day;
}

-- what a plan gives: the reply, and the cases then
abbrev pub carried : (Case → Bool) → Decision → Plan → List Case → Reply × List Case
carried test decision (Say reply) cases = (reply, cases)
carried test decision (Do change reply) cases = (reply, after change cases)
carried test decision (Judge case) cases =
    (replies.Decided case.party case.reference decision.outcome, amended test (with_entry decision) cases)

-- the plan for a command, by what the cases show
abbrev pub plan_over : Session → Command → List Case → Plan
plan_over session command cases = planned session command (view_of session command cases)

-- One command: the reply, and the cases then.
abbrev pub desk : Session → Judgement → Command → List Case → Reply × List Case
desk session judgement command cases =
    carried (speaks_of session command) (decision_by session judgement) (plan_over session command cases) cases

-- a command with all that it comes with
pub record Turn : Type 0 where
  pub session : Session
  pub judgement : Judgement
  pub command : Command

abbrev pub step : Turn → List Case → Reply × List Case
step turn cases = desk turn.session turn.judgement turn.command cases

abbrev pub reply_to : Turn → List Case → Reply
reply_to turn cases = (step turn cases).0

abbrev pub cases_then : Turn → List Case → List Case
cases_then turn cases = (step turn cases).1

-- the cases after some commands, one after the other
abbrev pub cases_after : List Turn → List Case → List Case
cases_after [] cases = cases
cases_after (turn ∷ turns) cases = cases_after turns (cases_then turn cases)

-- the replies to them
abbrev pub replies_to : List Turn → List Case → List Reply
replies_to [] cases = []
replies_to (turn ∷ turns) cases = reply_to turn cases ∷ replies_to turns (cases_then turn cases)
