-- What a plan is worth over the list of all cases.
use Rattle.std.specs.Prelude.{◌≡◌, List, Some, find}
use Rattle.case_rules.specs.declared.case.Case.{Case}
use Rattle.case_rules.specs.declared.case.Decision.{Decision}
use Rattle.case_rules.specs.declared.command.Command.{Command}
use Rattle.case_rules.specs.declared.reply.Reply.{Reply}
use Rattle.case_rules.specs.declared.reply.Reply.TheVariants as replies
use Rattle.case_rules.specs.declared.reply.Change.{Change}
use Rattle.case_rules.specs.declared.reply.Change.TheVariants as changes
use Rattle.case_rules.specs.declared.reply.Plan.{Plan}
use Rattle.case_rules.specs.declared.reply.Plan.TheVariants.{Say, Do, Judge}
use Rattle.case_rules.specs.Cases.{after, is_named}
use Rattle.case_rules.specs.Rules.{Session}
use Rattle.case_rules.specs.Desk.{Judgement, decision_by, desk}
use Rattle.case_rules.specs.Docket.{Fits, TakesDecision}

-- change and reply where a case is decided
abbrev pub settled : Case → Decision → Change × Reply
settled case decision =
    (changes.Decide case.party case.reference decision, replies.Decided case.party case.reference decision.outcome)

-- The change fits, and with it the reply is the desk's, and the cases are those of the desk.
pub record Does (session : Session) (judgement : Judgement) (command : Command) (cases : List Case)
    (change : Change) (reply : Reply) : Type 0 where
  pub fits : Fits change cases
  pub desk : desk session judgement command cases ≡ (reply, after change cases)

-- Change and reply, once the case is decided, are the desk's.
abbrev pub Settles : Session → Judgement → Command → List Case → Case → Type 0
Settles session judgement command cases case =
    let made = settled case (decision_by session judgement) in Does session judgement command cases made.0 made.1

-- The case is one of the cases and takes the decision, and with it change and reply are the desk's.
pub record Judges (session : Session) (judgement : Judgement) (command : Command) (cases : List Case)
    (case : Case) : Type 0 where
  pub found : find (is_named case.party case.reference) cases ≡ Some case
  pub takes : TakesDecision (decision_by session judgement) case
  pub does : Settles session judgement command cases case

-- A case that is to be judged takes the decision, whatever judging it gives.
abbrev pub JudgesTaking : Session → Plan → Type 0
JudgesTaking session (Say reply) = Unit {0}
JudgesTaking session (Do change reply) = Unit {0}
JudgesTaking session (Judge case) = (judgement : Judgement) → TakesDecision (decision_by session judgement) case

abbrev pub AddsNoDecision : Change → Type 0
AddsNoDecision (changes.Add case) = Unit {0}
AddsNoDecision (changes.Decide party reference decision) = ⊥
AddsNoDecision (changes.Appeal party reference appeal) = Unit {0}
AddsNoDecision (changes.Rule party reference ruling) = Unit {0}

-- Following the plan does what the desk does; it judges a case exactly where the desk adds a decision to that case.
abbrev pub IsPlanFor : Session → Judgement → Command → List Case → Plan → Type 0
IsPlanFor session judgement command cases (Say reply) = desk session judgement command cases ≡ (reply, cases)
IsPlanFor session judgement command cases (Do change reply) =
    Does session judgement command cases change reply × AddsNoDecision change
IsPlanFor session judgement command cases (Judge case) = Judges session judgement command cases case
