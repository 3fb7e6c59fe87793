-- What a command is answered by what the cases show for it, whatever else they show. Behind each fact stands what a slip would do.
use Rattle.std.specs.Prelude.{◌≡◌, ◌<◌, ◌≤◌, ℕ, true, List, Some, None}
use Rattle.case_rules.specs.declared.case.Appeal.{Appeal}
use Rattle.case_rules.specs.declared.case.Case.{Case}
use Rattle.case_rules.specs.declared.case.Content.{Content}
use Rattle.case_rules.specs.declared.case.Entry.{Entry}
use Rattle.case_rules.specs.declared.case.Ruling.{Ruling}
use Rattle.case_rules.specs.declared.case.RulingWord.{RulingWord}
use Rattle.case_rules.specs.declared.command.Command.{Command}
use Rattle.case_rules.specs.declared.command.Command.TheVariants.{Submit, Appeal as AppealTo, Review, Rule}
use Rattle.case_rules.specs.declared.command.View.{View}
use Rattle.case_rules.specs.declared.reply.Plan.TheVariants.{Say}
use Rattle.case_rules.specs.declared.reply.Refusal.{Refusal}
use Rattle.case_rules.specs.declared.reply.Refusal.TheVariants.{WrongRole, TooManyOpen, AppealedAlready, TooLate, RuledAlready, SameReviewer}
use Rattle.case_rules.specs.declared.reply.Reply.TheVariants.{No}
use Rattle.case_rules.specs.Cases.{same_content, last}
use Rattle.case_rules.specs.Rules.{Session, is_developer, is_reviewer, is_appealable, last_day, planned}

abbrev pub IsRefused : Session → Command → View → Refusal → Type 0
IsRefused session command view refusal = planned session command view ≡ Say (No refusal)

abbrev pub ByDeveloper : Session → Type 0
ByDeveloper session = is_developer session.party.role ≡ true

abbrev pub ByReviewer : Session → Type 0
ByReviewer session = is_reviewer session.party.role ≡ true

-- a case is shown, and this is its last entry
pub record ShowsLast (view : View) (entry : Entry) : Type 0 where
  pub case : Case
  pub found : view.found ≡ Some case
  pub entry_is : last case.entries ≡ Some entry

-- whoever asks, whatever is shown beside the case and whatever the entry says beside this
pub record PlanTells (session : Session) (view : View) (entry : Entry) (appeal : Appeal) (developer reference : List ℕ) (content : Content) (text : List ℕ) (word : RulingWord) : Type 0 where
  -- where a reference is not known to a developer with 1,000 open cases or more, no case is added (else one more)
  pub a_thousand : ByDeveloper session → view.found ≡ None → 1000 ≤ view.queued → IsRefused session (Submit reference content) view (TooManyOpen 1000)
  -- an appeal is not taken after its last day (else a day later)
  pub in_time : ByDeveloper session → ShowsLast view entry → is_appealable entry.decision.outcome ≡ true → entry.appeal ≡ None → last_day session.appeal_days entry < session.day
      → IsRefused session (AppealTo reference text) view (TooLate (last_day session.appeal_days entry))
  -- where there is an appeal there is no second one (else it would take the place of the first)
  pub one_appeal : ByDeveloper session → ShowsLast view entry → is_appealable entry.decision.outcome ≡ true → entry.appeal ≡ Some appeal
      → IsRefused session (AppealTo reference text) view AppealedAlready
  -- where there is a ruling there is no second one (else it would take the place of the first)
  pub one_ruling : (ruling : Ruling) → ByReviewer session → ShowsLast view entry → entry.appeal ≡ Some appeal → entry.ruling ≡ Some ruling
      → IsRefused session (Rule developer reference word) view RuledAlready
  -- nobody rules on an own decision (else one would)
  pub another_reviewer : ByReviewer session → ShowsLast view entry → entry.appeal ≡ Some appeal → entry.ruling ≡ None → entry.decision.reviewer ≡ session.party.name
      → IsRefused session (Rule developer reference word) view SameReviewer
  -- a developer who asks for a review is told nothing of the case (else that there is none)
  pub own_role : ByDeveloper session → IsRefused session (Review developer reference) view WrongRole
  -- an app with the same content has the same bytes in each file (else as many DEX files would be enough)
  pub own_bytes : (other : Content) → same_content content other ≡ true → content ≡ other

abbrev pub PlansTell : Type 0
PlansTell =
    (session : Session) (view : View) (entry : Entry) (appeal : Appeal) (developer reference : List ℕ) (content : Content) (text : List ℕ) (word : RulingWord) →
    PlanTells session view entry appeal developer reference content text word
