-- The machine as it was before there were editions: a case had at most one decision, and no command reviewed it.
use Rattle.std.specs.Prelude.{◌≡◌, ℕ, ◌+◌, Bool, true, not, List, [], ◌∷◌, ◌++◌, Option, Some, None, is_some, is_none, Result, Ok, Err, find, filter, count_by, map, fold, ◌&&◌, nat_lt, nat_le}
use Rattle.std.specs.BTreeMap.{insert_entry}
use Rattle.case_rules.specs.declared.case.Case.{Case}
use Rattle.case_rules.specs.declared.case.Content.{Content}
use Rattle.case_rules.specs.declared.case.Decision.{Decision}
use Rattle.case_rules.specs.declared.case.Appeal.{Appeal}
use Rattle.case_rules.specs.declared.case.Ruling.{Ruling}
use Rattle.case_rules.specs.declared.case.Entry.{Entry}
use Rattle.case_rules.specs.declared.case.Line.{Line}
use Rattle.case_rules.specs.declared.case.State.{State}
use Rattle.case_rules.specs.declared.case.State.TheVariants.{Queued}
use Rattle.case_rules.specs.declared.case.RulingWord.{RulingWord}
use Rattle.store_office.specs.declared.party.Party.{Party}
use Rattle.store_office.specs.declared.party.Role.{Role}
use Rattle.store_office.specs.declared.party.Role.TheVariants.{Developer, Reviewer}
use Rattle.case_rules.specs.declared.command.Command.{Command}
use Rattle.case_rules.specs.declared.command.Command.TheVariants as commands
use Rattle.case_rules.specs.declared.reply.Refusal.{Refusal}
use Rattle.case_rules.specs.declared.reply.Refusal.TheVariants.{WrongRole, NoCase, OtherContent, TooManyOpen, NothingQueued, NotDecided, NoAppealFor, AppealedAlready, TooLate, NoAppeal, RuledAlready, SameReviewer}
use Rattle.case_rules.specs.declared.reply.Reply.{Reply}
use Rattle.case_rules.specs.declared.reply.Reply.TheVariants as replies
use Rattle.case_rules.specs.Cases.{same, same_content, stage, amended, name_cmp, line_of}
use Rattle.case_rules.specs.Rules.{Session, ◌>>=◌, allow, known, is_developer, is_reviewer, is_appealable}
use Rattle.case_rules.specs.Desk.{Judgement, decision_by}

pub record EarlierCase : Type 0 where
  pub party : List ℕ
  pub reference : List ℕ
  pub content : Content
  pub decision : Option Decision
  pub appeal : Option Appeal
  pub ruling : Option Ruling

-- Only a decided case has an appeal, and only an appealed one a ruling.
pub record IsEarlierCase (case : EarlierCase) : Type 0 where
  pub appeal : is_none case.decision ≡ true → case.appeal ≡ None
  pub ruling : is_none case.appeal ≡ true → case.ruling ≡ None

abbrev pub raised_entries : Option Decision → Option Appeal → Option Ruling → List Entry
raised_entries None appeal ruling = []
raised_entries (Some decision) appeal ruling = record { decision = decision; appeal = appeal; ruling = ruling } ∷ []

-- the case with its one decision as its one entry
abbrev pub raised : EarlierCase → Case
raised case = record {
  party = case.party;
  reference = case.reference;
  content = case.content;
  entries = raised_entries case.decision case.appeal case.ruling;
}

pub data EarlierReply : Type 0 where
  ShownEarlier : EarlierCase → EarlierReply
  Plainly : Reply → EarlierReply

abbrev pub raised_reply : EarlierReply → Reply
raised_reply (ShownEarlier case) = replies.Shown (raised case)
raised_reply (Plainly reply) = reply

-- every command but Review
abbrev pub IsEarlierCommand : Command → Type 0
IsEarlierCommand (commands.Submit reference content) = Unit {0}
IsEarlierCommand commands.Decide = Unit {0}
IsEarlierCommand (commands.Show reference) = Unit {0}
IsEarlierCommand (commands.Report reference) = Unit {0}
IsEarlierCommand (commands.Appeal reference text) = Unit {0}
IsEarlierCommand (commands.Review developer reference) = ⊥
IsEarlierCommand (commands.Rule developer reference word) = Unit {0}
IsEarlierCommand commands.List = Unit {0}

abbrev pub is_called : List ℕ → List ℕ → EarlierCase → Bool
is_called party reference case = same case.party party && same case.reference reference

abbrev pub is_own : List ℕ → EarlierCase → Bool
is_own party case = same case.party party

abbrev pub is_waiting : EarlierCase → Bool
is_waiting case = is_none case.decision

abbrev pub state_with : Option Decision → Option Appeal → Option Ruling → State
state_with None appeal ruling = Queued
state_with (Some decision) appeal ruling = stage appeal ruling

abbrev pub earlier_state : EarlierCase → State
earlier_state case = state_with case.decision case.appeal case.ruling

abbrev pub awaits_ruling : EarlierCase → Bool
awaits_ruling case = is_some case.appeal && is_none case.ruling

abbrev pub place_in_order : List ((List ℕ × List ℕ) × State) → EarlierCase → List ((List ℕ × List ℕ) × State)
place_in_order placed case = insert_entry name_cmp placed (case.party, case.reference) (earlier_state case)

abbrev pub earlier_lines : List EarlierCase → List Line
earlier_lines cases = map line_of (fold place_in_order [] cases)

abbrev pub earlier_listed : Role → List ℕ → List EarlierCase → List Line
earlier_listed Developer party cases = earlier_lines (filter (is_own party) cases)
earlier_listed Reviewer party cases = earlier_lines (filter awaits_ruling cases)

abbrev pub waiting_of : List ℕ → List EarlierCase → ℕ
waiting_of party cases = count_by is_waiting (filter (is_own party) cases)

abbrev pub new_earlier_case : List ℕ → List ℕ → Content → EarlierCase
new_earlier_case party reference content = record {
  party = party;
  reference = reference;
  content = content;
  decision = None;
  appeal = None;
  ruling = None;
}

abbrev pub decide_case : Decision → EarlierCase → EarlierCase
decide_case decision case = record case { decision = Some decision }

abbrev pub appeal_case : Appeal → EarlierCase → EarlierCase
appeal_case appeal case = record case { appeal = Some appeal }

abbrev pub rule_case : Ruling → EarlierCase → EarlierCase
rule_case ruling case = record case { ruling = Some ruling }

-- what a decision, an appeal and a ruling make of the cases
abbrev pub decided_earlier : Session → Judgement → List EarlierCase → List EarlierCase
decided_earlier session judgement cases = amended is_waiting (decide_case (decision_by session judgement)) cases

abbrev pub appealed_earlier : Session → List ℕ → List ℕ → List EarlierCase → List EarlierCase
appealed_earlier session reference text cases =
    amended (is_called session.party.name reference) (appeal_case (record { day = session.day; text = text })) cases

abbrev pub ruled_earlier : Session → List ℕ → List ℕ → RulingWord → List EarlierCase → List EarlierCase
ruled_earlier session developer reference word cases =
    amended (is_called developer reference)
    (rule_case (record { reviewer = session.party.name; day = session.day; word = word })) cases

abbrev pub Answer : Type 0
Answer = EarlierReply × List EarlierCase

abbrev pub submit_to : Party → List ℕ → Content → Option EarlierCase → List EarlierCase → Result Answer Refusal
submit_to party reference content (Some case) cases = do
  _ ← allow (same_content case.content content) OtherContent
  Ok (Plainly (replies.Kept reference (earlier_state case)), cases)
submit_to party reference content None cases = do
  _ ← allow (nat_lt (waiting_of party.name cases) 1000) (TooManyOpen 1000)
  Ok (Plainly (replies.Added reference), cases ++ new_earlier_case party.name reference content ∷ [])

abbrev pub earlier_answer : Session → Judgement → Command → List EarlierCase → Result Answer Refusal
earlier_answer session judgement (commands.Submit reference content) cases = do
  _ ← allow (is_developer session.party.role) WrongRole
  submit_to session.party reference content (find (is_called session.party.name reference) cases) cases
earlier_answer session judgement commands.Decide cases = do
  _ ← allow (is_reviewer session.party.role) WrongRole
  case ← known (find is_waiting cases) NothingQueued
  Ok (Plainly (replies.Decided case.party case.reference judgement.outcome), decided_earlier session judgement cases)
earlier_answer session judgement (commands.Show reference) cases = do
  _ ← allow (is_developer session.party.role) WrongRole
  case ← known (find (is_called session.party.name reference) cases) NoCase
  Ok (ShownEarlier case, cases)
earlier_answer session judgement (commands.Report reference) cases = do
  _ ← allow (is_developer session.party.role) WrongRole
  case ← known (find (is_called session.party.name reference) cases) NoCase
  decision ← known case.decision NotDecided
  Ok (Plainly (replies.Text decision.report), cases)
earlier_answer session judgement (commands.Appeal reference text) cases = do
  _ ← allow (is_developer session.party.role) WrongRole
  case ← known (find (is_called session.party.name reference) cases) NoCase
  decision ← known case.decision NotDecided
  _ ← allow (is_appealable decision.outcome) (NoAppealFor decision.outcome)
  _ ← allow (is_none case.appeal) AppealedAlready
  _ ← allow (nat_le session.day (decision.day + session.appeal_days)) (TooLate (decision.day + session.appeal_days))
  Ok (Plainly (replies.Appealed reference), appealed_earlier session reference text cases)
earlier_answer session judgement (commands.Review developer reference) cases = Err WrongRole
earlier_answer session judgement (commands.Rule developer reference word) cases = do
  _ ← allow (is_reviewer session.party.role) WrongRole
  case ← known (find (is_called developer reference) cases) NoCase
  decision ← known case.decision NoAppeal
  _ ← allow (is_some case.appeal) NoAppeal
  _ ← allow (is_none case.ruling) RuledAlready
  _ ← allow (not (same decision.reviewer session.party.name)) SameReviewer
  Ok (Plainly (replies.Ruled developer reference word), ruled_earlier session developer reference word cases)
earlier_answer session judgement commands.List cases =
    Ok (Plainly (replies.Lines (earlier_listed session.party.role session.party.name cases)), cases)

abbrev pub told_earlier : Result Answer Refusal → List EarlierCase → Answer
told_earlier (Ok answer) cases = answer
told_earlier (Err refusal) cases = (Plainly (replies.No refusal), cases)

-- One command: the reply, and the cases then.
abbrev pub earlier_desk : Session → Judgement → Command → List EarlierCase → Answer
earlier_desk session judgement command cases = told_earlier (earlier_answer session judgement command cases) cases
