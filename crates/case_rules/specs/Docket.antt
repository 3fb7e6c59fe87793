-- What holds of every list of cases that the desk makes, what a change needs, and what a command has to be.
use Rattle.std.specs.Prelude.{◌≡◌, ℕ, Bool, true, false, ◌&&◌, List, [], ◌∷◌, None, IsTrue, IsSomeAnd, IfSome, is_none, length, find, nat_le}
use Rattle.std.specs.List.{list_any, AllByRecursion}
use Rattle.store_office.specs.Reference.{is_reference}
use Rattle.case_rules.specs.declared.case.Case.{Case}
use Rattle.case_rules.specs.declared.case.Decision.{Decision}
use Rattle.case_rules.specs.declared.case.Entry.{Entry}
use Rattle.case_rules.specs.declared.command.Command.{Command}
use Rattle.case_rules.specs.declared.command.Command.TheVariants as commands
use Rattle.case_rules.specs.declared.command.View.{View}
use Rattle.case_rules.specs.declared.reply.Change.{Change}
use Rattle.case_rules.specs.declared.reply.Change.TheVariants as changes
use Rattle.case_rules.specs.Cases.{is_named, is_open, is_queued, is_under, has_edition, has_open_appeal, last, queued_of}
use Rattle.case_rules.specs.Rules.{Session}
use Rattle.case_rules.specs.Desk.{listed, view_of}

-- 1 to 4,000 bytes
abbrev pub is_appeal_text : List ℕ → Bool
is_appeal_text bytes = nat_le 1 (length bytes) && nat_le (length bytes) 4000

-- The reference of a new case and the text of an appeal have their form. A reference of another form names no case.
abbrev pub IsFormed : Command → Type 0
IsFormed (commands.Submit reference content) = IsTrue (is_reference reference)
IsFormed commands.Decide = Unit {0}
IsFormed (commands.Show reference) = Unit {0}
IsFormed (commands.Report reference) = Unit {0}
IsFormed (commands.Appeal reference text) = IsTrue (is_appeal_text text)
IsFormed (commands.Review developer reference) = Unit {0}
IsFormed (commands.Rule developer reference word) = Unit {0}
IsFormed commands.List = Unit {0}

-- The view shows the case that the command speaks of, as the cases do.
abbrev pub ShowsCase : Session → Command → View → List Case → Type 0
ShowsCase session command view cases = view.found ≡ (view_of session command cases).found

-- What the view shows is so, as far as the command needs it.
abbrev pub Shows : Session → Command → View → List Case → Type 0
Shows session (commands.Submit reference content) view cases =
    ShowsCase session (commands.Submit reference content) view cases
    × (view.queued ≡ queued_of session.party.name cases)
Shows session commands.Decide view cases = view.first ≡ find is_queued cases
Shows session (commands.Show reference) view cases = ShowsCase session (commands.Show reference) view cases
Shows session (commands.Report reference) view cases = ShowsCase session (commands.Report reference) view cases
Shows session (commands.Appeal reference text) view cases =
    ShowsCase session (commands.Appeal reference text) view cases
Shows session (commands.Review developer reference) view cases =
    ShowsCase session (commands.Review developer reference) view cases
Shows session (commands.Rule developer reference word) view cases =
    ShowsCase session (commands.Rule developer reference word) view cases
Shows session commands.List view cases = view.lines ≡ listed session.party.role session.party.name cases

-- The case that is shown as the first without an entry has none.
abbrev pub ShowsQueued : View → Type 0
ShowsQueued view = IfSome view.first (λ case. is_queued case ≡ true)

-- A case that is decided has no entry under these lists and no open appeal.
abbrev pub TakesDecision : Decision → Case → Type 0
TakesDecision decision case = (has_edition decision.lists case ≡ false) × (has_open_appeal case ≡ false)

-- One that is appealed has a last entry without an appeal.
abbrev pub TakesAppeal : Case → Type 0
TakesAppeal case = IsSomeAnd (last case.entries) (λ entry. entry.appeal ≡ None)

-- One that is ruled on has a last entry with an appeal and without a ruling.
abbrev pub TakesRuling : Case → Type 0
TakesRuling case = IsSomeAnd (last case.entries) (λ entry. is_open entry ≡ true)

-- An added case is new and has no entry; another change has a case that takes it.
abbrev pub Fits : Change → List Case → Type 0
Fits (changes.Add case) cases = (find (is_named case.party case.reference) cases ≡ None) × (case.entries ≡ [])
Fits (changes.Decide party reference decision) cases =
    IsSomeAnd (find (is_named party reference) cases) (TakesDecision decision)
Fits (changes.Appeal party reference appeal) cases = IsSomeAnd (find (is_named party reference) cases) TakesAppeal
Fits (changes.Rule party reference ruling) cases = IsSomeAnd (find (is_named party reference) cases) TakesRuling

-- A ruling stands on an appeal.
abbrev pub IsEntry : Entry → Type 0
IsEntry entry = is_none entry.appeal ≡ true → is_none entry.ruling ≡ true

-- No two entries are under one edition, and only the last has an open appeal.
abbrev pub IsHistory : List Entry → Type 0
IsHistory [] = Unit {0}
IsHistory (entry ∷ []) = IsEntry entry
IsHistory (entry ∷ next ∷ entries) = IsEntry entry × (is_open entry ≡ false)
    × (list_any (is_under entry.decision.lists) (next ∷ entries) ≡ false) × IsHistory (next ∷ entries)

-- No two cases have one name. It is what changes keep that fit, whatever their references and texts.
abbrev pub IsDocket : List Case → Type 0
IsDocket [] = Unit {0}
IsDocket (case ∷ cases) = IsHistory case.entries × (find (is_named case.party case.reference) cases ≡ None) × IsDocket cases

-- The text of an appeal has its form.
abbrev pub IsFormedEntry : Entry → Type 0
IsFormedEntry entry = IfSome entry.appeal (λ appeal. IsTrue (is_appeal_text appeal.text))

-- The reference of a case and the texts of its appeals have their form.
pub record IsFormedCase (case : Case) : Type 0 where
  pub reference : IsTrue (is_reference case.reference)
  pub texts : AllByRecursion IsFormedEntry case.entries

abbrev pub AreFormedCases : List Case → Type 0
AreFormedCases cases = AllByRecursion IsFormedCase cases
