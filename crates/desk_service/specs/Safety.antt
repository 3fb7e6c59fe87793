-- What a decision says that a case is clear: its app is safe by the lists of the decision.
use Rattle.std.specs.Prelude.{◌≡◌, ℕ, List, Option, Some, Result}
use Rattle.std.specs.List.{AllByRecursion}
use Rattle.sha2.specs.Sha256.{sha256}
use Rattle.desk_links.specs.declared.door.DoorFault.{DoorFault}
use Rattle.case_rules.specs.declared.case.Case.{Case}
use Rattle.case_rules.specs.declared.case.Content.{Content}
use Rattle.case_rules.specs.declared.case.Entry.{Entry}
use Rattle.case_rules.specs.declared.case.OutcomeWord.TheVariants.{Clear}
use Rattle.case_rules.specs.declared.command.Command.{Command}
use Rattle.case_rules.specs.declared.reply.Reply.{Reply}
use Rattle.case_rules.specs.Rules.{Session}
use Rattle.store_office.specs.declared.office.Office.{Office}
use Rattle.desk_serving.specs.Obeying.{Obeys}
use Rattle.desk_serving.specs.Serving.{Outside}
use Rattle.desk_serving.specs.Run.{Runs}
use Rattle.verdict.specs.Verdict.{IsSafeApp}
use Rattle.desk_service.specs.Judging.{parts_of, FindsBy}

-- Where the decision is under these lists and clear, the app is safe by them.
abbrev pub IsSafeEntry : List ℕ → Content → Entry → Type 0
IsSafeEntry lists content entry = entry.decision.lists ≡ sha256 lists → entry.decision.outcome ≡ Clear
    → IsSafeApp (parts_of lists content)

abbrev pub IsSafeCase : List ℕ → Case → Type 0
IsSafeCase lists case = AllByRecursion (IsSafeEntry lists case.content) case.entries

-- Each app that is called clear under these lists is safe by them.
abbrev pub AreSafe : List ℕ → List Case → Type 0
AreSafe lists cases = AllByRecursion (IsSafeCase lists) cases

-- What is called clear stays safe, whatever command is carried out.
abbrev pub StaysSafeBy : List ℕ → Session → Command → Option (List Case) → Option (List Case) → Type 0
StaysSafeBy lists session command before after =
    (cases : List Case) (then : List Case) → before ≡ Some cases → after ≡ Some then → AreSafe lists cases → AreSafe lists then

-- one command
abbrev pub CommandsStaySafe : Type 0
CommandsStaySafe = (lists : List ℕ) (session : Session) (command : Command) (before after : Option (List Case)) (reply : Reply)
    → session.edition ≡ sha256 lists → Obeys (FindsBy lists) session command before after reply
    → StaysSafeBy lists session command before after

-- What is called clear stays safe, from the entry of a run to its exit, whatever the door tells.
abbrev pub StaysSafe : List ℕ → Outside → Outside → Type 0
StaysSafe lists entry exit = (cases then : List Case) → entry.cases ≡ Some cases → exit.cases ≡ Some then
    → AreSafe lists cases → AreSafe lists then

-- connections, one after the other
abbrev pub RunsStaySafe : Type 0
RunsStaySafe = (lists : List ℕ) (office : Office) (today : Option ℕ) (most : ℕ) (entry exit : Outside)
    (result : Result ℕ DoorFault)
    → Runs (FindsBy lists) office (sha256 lists) today most entry exit result → StaysSafe lists entry exit
