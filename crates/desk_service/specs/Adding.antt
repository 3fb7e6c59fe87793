-- What is added to the cases: each decision that was not there before is a verdict by the lists, whatever the older ones are.
use Rattle.std.specs.Prelude.{◌≡◌, ℕ, List, [], ◌∷◌, ◌++◌, map, Option, Some, Result}
use Rattle.std.specs.List.{AllByRecursion}
use Rattle.sha2.specs.Sha256.{sha256}
use Rattle.desk_links.specs.declared.door.DoorFault.{DoorFault}
use Rattle.case_rules.specs.declared.case.Case.{Case}
use Rattle.case_rules.specs.declared.case.Content.{Content}
use Rattle.case_rules.specs.declared.case.Decision.{Decision}
use Rattle.case_rules.specs.declared.command.Command.{Command}
use Rattle.case_rules.specs.declared.reply.Reply.{Reply}
use Rattle.case_rules.specs.Rules.{Session}
use Rattle.store_office.specs.declared.office.Office.{Office}
use Rattle.desk_serving.specs.Obeying.{Obeys}
use Rattle.desk_serving.specs.Serving.{Outside}
use Rattle.desk_serving.specs.Run.{Runs}
use Rattle.desk_service.specs.Judging.{FindsBy}

-- The decision has the edition of the lists, and word and report of the verdict on the content under them.
pub record IsVerdict (lists : List ℕ) (content : Content) (decision : Decision) : Type 0 where
  pub edition : decision.lists ≡ sha256 lists
  pub found : FindsBy lists content (record { outcome = decision.outcome; report = decision.report })

abbrev pub decisions_on : Case → List Decision
decisions_on case = map (λ e. e.decision) case.entries

-- Each decision on the case is one.
abbrev pub IsDecided : (Content → Decision → Type 0) → Case → Type 0
IsDecided Is case = AllByRecursion (Is case.content) (decisions_on case)

-- The case with the decisions that it had, and others behind them, each of which is one.
pub record IsDecidedOn (Is : Content → Decision → Type 0) (before after : Case) : Type 0 where
  pub party : after.party ≡ before.party
  pub reference : after.reference ≡ before.reference
  pub content : after.content ≡ before.content
  pub added : List Decision
  pub decisions : decisions_on after ≡ decisions_on before ++ added
  pub are : AllByRecursion (Is before.content) added

-- The cases that were there, in their order, with such decisions alone behind their own; and behind them new cases, with such
-- decisions alone.
abbrev pub AddsOnly : (Content → Decision → Type 0) → List Case → List Case → Type 0
AddsOnly Is [] new = AllByRecursion (IsDecided Is) new
AddsOnly Is (case ∷ cases) [] = ⊥
AddsOnly Is (case ∷ cases) (then ∷ more) = IsDecidedOn Is case then × AddsOnly Is cases more

-- Where the cases are told, only verdicts are added.
abbrev pub AddsVerdicts : List ℕ → Option (List Case) → Option (List Case) → Type 0
AddsVerdicts lists before after =
    (cases then : List Case) → before ≡ Some cases → after ≡ Some then → AddsOnly (IsVerdict lists) cases then

-- by one command
abbrev pub CommandsAddVerdicts : Type 0
CommandsAddVerdicts = (lists : List ℕ) (session : Session) (command : Command) (before after : Option (List Case)) (reply : Reply)
    → session.edition ≡ sha256 lists → Obeys (FindsBy lists) session command before after reply → AddsVerdicts lists before after

-- by connections, one after the other
abbrev pub RunsAddVerdicts : Type 0
RunsAddVerdicts = (lists : List ℕ) (office : Office) (today : Option ℕ) (most : ℕ) (entry exit : Outside)
    (result : Result ℕ DoorFault)
    → Runs (FindsBy lists) office (sha256 lists) today most entry exit result → AddsVerdicts lists entry.cases exit.cases
