-- The page of rules: what each command is answered, the first refusal that is due, else what is to be done.
use Rattle.std.specs.Prelude.{◌≡◌, ℕ, ◌+◌, Bool, true, false, not, List, Option, Some, None, is_some, is_none, Result, Ok, Err, nat_lt, nat_le}
use Rattle.case_rules.specs.declared.case.Case.{Case}
use Rattle.case_rules.specs.declared.case.Content.{Content}
use Rattle.case_rules.specs.declared.case.Entry.{Entry}
use Rattle.case_rules.specs.declared.case.OutcomeWord.{OutcomeWord}
use Rattle.case_rules.specs.declared.case.OutcomeWord.TheVariants.{Clear, Flagged, Undecided, Refused}
use Rattle.case_rules.specs.declared.case.RulingWord.{RulingWord}
use Rattle.store_office.specs.declared.party.Party.{Party}
use Rattle.store_office.specs.declared.party.Role.{Role}
use Rattle.store_office.specs.declared.party.Role.TheVariants.{Developer, Reviewer}
use Rattle.case_rules.specs.declared.command.Command.{Command}
use Rattle.case_rules.specs.declared.command.Command.TheVariants as commands
use Rattle.case_rules.specs.declared.command.View.{View}
use Rattle.case_rules.specs.declared.reply.Refusal.{Refusal}
use Rattle.case_rules.specs.declared.reply.Refusal.TheVariants.{WrongRole, NoCase, OtherContent, TooManyOpen, NothingQueued, NotDecided, SameEdition, AppealOpen, NoAppealFor, AppealedAlready, TooLate, NoAppeal, RuledAlready, SameReviewer}
use Rattle.case_rules.specs.declared.reply.Reply.TheVariants as replies
use Rattle.case_rules.specs.declared.reply.Change.TheVariants as changes
use Rattle.case_rules.specs.declared.reply.Plan.{Plan}
use Rattle.case_rules.specs.declared.reply.Plan.TheVariants.{Say, Do, Judge}
use Rattle.vet_base.specs.declared.stop.Stop.{Stop}
use Rattle.vet_base.specs.declared.stop.Stop.TheVariants as stops
use Rattle.case_rules.specs.Cases.{same, same_content, last, state_of, is_open, has_edition, new_case}

-- Who asks, for how many days after a decision an appeal is taken, the day, and the edition of the lists.
pub record Session : Type 0 where
  pub party : Party
  pub appeal_days : ℕ
  pub day : ℕ
  pub edition : List ℕ

-- one step after another, up to the first refusal; this is what `do` stands for
infixl 10 ◌>>=◌
abbrev pub ◌>>=◌ : {A B : Type 0} → Result A Refusal → (A → Result B Refusal) → Result B Refusal
(Ok x) >>= f = f x
(Err refusal) >>= f = Err refusal

-- goes on where the test holds
abbrev pub allow : Bool → Refusal → Result (Unit {0}) Refusal
allow true refusal = Ok tt
allow false refusal = Err refusal

-- goes on with what is there
abbrev pub known : {A : Type 0} → Option A → Refusal → Result A Refusal
known None refusal = Err refusal
known (Some x) refusal = Ok x

abbrev pub is_developer : Role → Bool
is_developer Developer = true
is_developer Reviewer = false

abbrev pub is_reviewer : Role → Bool
is_reviewer Developer = false
is_reviewer Reviewer = true

-- an outcome against which an appeal is taken
abbrev pub is_appealable : OutcomeWord → Bool
is_appealable Clear = false
is_appealable Flagged = true
is_appealable Undecided = true
is_appealable Refused = false

-- the last day on which an appeal against the entry is taken
abbrev pub last_day : ℕ → Entry → ℕ
last_day appeal_days entry = entry.decision.day + appeal_days

abbrev pub submit_anew : Party → List ℕ → Content → Option Case → ℕ → Result Plan Refusal
submit_anew party reference content (Some case) queued = do
  _ ← allow (same_content case.content content) OtherContent
  Ok (Say (replies.Kept reference (state_of case)))
submit_anew party reference content None queued = do
  _ ← allow (nat_lt queued 1000) (TooManyOpen 1000)
  Ok (Do (changes.Add (new_case party.name reference content)) (replies.Added reference))

-- A new reference adds a case; a reference with the same bytes gets the state of its case.
unfoldable pub submit : Party → List ℕ → Content → Option Case → ℕ → Result Plan Refusal
submit party reference content found queued = do
  _ ← allow (is_developer party.role) WrongRole
  submit_anew party reference content found queued

-- The first case without an entry is judged.
unfoldable pub decide : Party → Option Case → Result Plan Refusal
decide party first = do
  _ ← allow (is_reviewer party.role) WrongRole
  case ← known first NothingQueued
  Ok (Judge case)

unfoldable pub show : Party → Option Case → Result Plan Refusal
show party found = do
  _ ← allow (is_developer party.role) WrongRole
  case ← known found NoCase
  Ok (Say (replies.Shown case))

-- the report of the last decision
unfoldable pub report : Party → Option Case → Result Plan Refusal
report party found = do
  _ ← allow (is_developer party.role) WrongRole
  case ← known found NoCase
  entry ← known (last case.entries) NotDecided
  Ok (Say (replies.Text entry.decision.report))

abbrev pub appeal_against : Party → ℕ → ℕ → List ℕ → List ℕ → Entry → Result Plan Refusal
appeal_against party appeal_days day reference text entry = do
  _ ← allow (is_appealable entry.decision.outcome) (NoAppealFor entry.decision.outcome)
  _ ← allow (is_none entry.appeal) AppealedAlready
  _ ← allow (nat_le day (last_day appeal_days entry)) (TooLate (last_day appeal_days entry))
  Ok (Do (changes.Appeal party.name reference (record { day = day; text = text })) (replies.Appealed reference))

-- An appeal is taken against a last decision that is flagged or undecided, once, up to its last day.
unfoldable pub appeal : Party → ℕ → ℕ → List ℕ → List ℕ → Option Case → Result Plan Refusal
appeal party appeal_days day reference text found = do
  _ ← allow (is_developer party.role) WrongRole
  case ← known found NoCase
  entry ← known (last case.entries) NotDecided
  appeal_against party appeal_days day reference text entry

-- A decided case is judged again under lists by which it was not decided, unless an appeal is open.
unfoldable pub review : Party → List ℕ → Option Case → Result Plan Refusal
review party edition found = do
  _ ← allow (is_reviewer party.role) WrongRole
  case ← known found NoCase
  entry ← known (last case.entries) NotDecided
  _ ← allow (not (has_edition edition case)) SameEdition
  _ ← allow (not (is_open entry)) AppealOpen
  Ok (Judge case)

abbrev pub rule_on : Party → ℕ → List ℕ → List ℕ → RulingWord → Entry → Result Plan Refusal
rule_on party day developer reference word entry = do
  _ ← allow (is_some entry.appeal) NoAppeal
  _ ← allow (is_none entry.ruling) RuledAlready
  _ ← allow (not (same entry.decision.reviewer party.name)) SameReviewer
  Ok (Do (changes.Rule developer reference (record { reviewer = party.name; day = day; word = word }))
      (replies.Ruled developer reference word))

-- An open appeal gets one ruling, by another reviewer than the one who decided.
unfoldable pub rule : Party → ℕ → List ℕ → List ℕ → RulingWord → Option Case → Result Plan Refusal
rule party day developer reference word found = do
  _ ← allow (is_reviewer party.role) WrongRole
  case ← known found NoCase
  entry ← known (last case.entries) NoAppeal
  rule_on party day developer reference word entry

-- what a command is answered, by what the cases show for it
abbrev pub answered : Session → Command → View → Result Plan Refusal
answered session (commands.Submit reference content) view =
    submit session.party reference content view.found view.queued
answered session commands.Decide view = decide session.party view.first
answered session (commands.Show reference) view = show session.party view.found
answered session (commands.Report reference) view = report session.party view.found
answered session (commands.Appeal reference text) view =
    appeal session.party session.appeal_days session.day reference text view.found
answered session (commands.Review developer reference) view = review session.party session.edition view.found
answered session (commands.Rule developer reference word) view =
    rule session.party session.day developer reference word view.found
answered session commands.List view = Ok (Say (replies.Lines view.lines))

-- A refusal is a reply, and changes nothing.
abbrev pub told : Result Plan Refusal → Plan
told (Ok plan) = plan
told (Err refusal) = Say (replies.No refusal)

-- the plan for a command
abbrev pub planned : Session → Command → View → Plan
planned session command view = told (answered session command view)

abbrev pub session_of : Party → ℕ → ℕ → List ℕ → Session
session_of party appeal_days day edition =
    record { party = party; appeal_days = appeal_days; day = day; edition = edition }

-- What a function returned is the rule's answer, unless memory ran out.
abbrev pub Gives : {X : Type 0} → Result X (Stop Refusal) → Result X Refusal → Type 0
Gives (Ok x) rule = rule ≡ Ok x
Gives (Err stops.Memory) rule = Unit {0}
Gives (Err (stops.Fault refusal)) rule = rule ≡ Err refusal
