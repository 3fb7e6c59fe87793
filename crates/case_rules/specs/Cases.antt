-- A case: its name, how far it is, and what one change makes of it; and the list of all cases, in the order of
-- submission.
use Rattle.std.specs.Prelude.{ℕ, ◌==◌, Bool, false, ◌&&◌, List, [], ◌∷◌, ◌++◌, Option, Some, None, is_some, is_none, length, map, filter, count_by, fold, nat_eq, if◌then◌else◌}
use Rattle.std.specs.List.{list_any}
use Rattle.std.specs.Ordering.{nat_cmp, ordering_then}
use Rattle.std.specs.Cmp.Lexicographic.{pointwise, slice_cmp}
use Rattle.std.specs.BTreeMap.{insert_entry}
use Rattle.std.specs.declared.cmp.Ordering.{Ordering}
use Rattle.case_rules.specs.declared.case.Case.{Case}
use Rattle.case_rules.specs.declared.case.Content.{Content}
use Rattle.case_rules.specs.declared.case.Decision.{Decision}
use Rattle.case_rules.specs.declared.case.Appeal.{Appeal}
use Rattle.case_rules.specs.declared.case.Ruling.{Ruling}
use Rattle.case_rules.specs.declared.case.Entry.{Entry}
use Rattle.case_rules.specs.declared.case.Line.{Line}
use Rattle.case_rules.specs.declared.case.State.{State}
use Rattle.case_rules.specs.declared.case.State.TheVariants.{Queued, Decided, Appealed, Ruled}
use Rattle.case_rules.specs.declared.reply.Change.{Change}
use Rattle.case_rules.specs.declared.reply.Change.TheVariants as changes

-- whether two texts are one
abbrev pub same : List ℕ → List ℕ → Bool
same a b = pointwise nat_eq a b

-- A case is named by its developer and its reference.
abbrev pub is_named : List ℕ → List ℕ → Case → Bool
is_named party reference case = same case.party party && same case.reference reference

abbrev pub is_of : List ℕ → Case → Bool
is_of party case = same case.party party

-- the cases of a developer
abbrev pub rows_of : List ℕ → List Case → List Case
rows_of party cases = filter (is_of party) cases

abbrev pub same_content : Content → Content → Bool
same_content a b = same a.manifest b.manifest && same a.layouts b.layouts && same a.declaration b.declaration
    && pointwise (pointwise nat_eq) a.dex b.dex

abbrev pub last : {X : Type 0} → List X → Option X
last [] = None
last (x ∷ []) = Some x
last (x ∷ y ∷ xs) = last (y ∷ xs)

-- the list with its last item changed
abbrev pub change_last : {X : Type 0} → (X → X) → List X → List X
change_last f [] = []
change_last f (x ∷ []) = f x ∷ []
change_last f (x ∷ y ∷ xs) = x ∷ change_last f (y ∷ xs)

-- An appeal is open until there is a ruling.
abbrev pub is_open : Entry → Bool
is_open entry = is_some entry.appeal && is_none entry.ruling

abbrev pub stage : Option Appeal → Option Ruling → State
stage None ruling = Decided
stage (Some appeal) None = Appealed
stage (Some appeal) (Some ruling) = Ruled

-- how far a case with this last entry is
abbrev pub state_by : Option Entry → State
state_by None = Queued
state_by (Some entry) = stage entry.appeal entry.ruling

abbrev pub state_of : Case → State
state_of case = state_by (last case.entries)

abbrev pub is_queued : Case → Bool
is_queued case = length case.entries == 0

abbrev pub is_open_by : Option Entry → Bool
is_open_by None = false
is_open_by (Some entry) = is_open entry

-- whether the last entry has an open appeal
abbrev pub has_open_appeal : Case → Bool
has_open_appeal case = is_open_by (last case.entries)

abbrev pub is_under : List ℕ → Entry → Bool
is_under lists entry = same entry.decision.lists lists

-- whether the case was decided under this edition of the lists
abbrev pub has_edition : List ℕ → Case → Bool
has_edition lists case = list_any (is_under lists) case.entries

-- a case as it is submitted
abbrev pub new_case : List ℕ → List ℕ → Content → Case
new_case party reference content = record { party = party; reference = reference; content = content; entries = [] }

-- an entry as it is added
abbrev pub entry_of : Decision → Entry
entry_of decision = record { decision = decision; appeal = None; ruling = None }

abbrev pub with_entry : Decision → Case → Case
with_entry decision case = record case { entries = case.entries ++ entry_of decision ∷ [] }

abbrev pub appeal_entry : Appeal → Entry → Entry
appeal_entry appeal entry = record entry { appeal = Some appeal }

abbrev pub with_appeal : Appeal → Case → Case
with_appeal appeal case = record case { entries = change_last (appeal_entry appeal) case.entries }

abbrev pub rule_entry : Ruling → Entry → Entry
rule_entry ruling entry = record entry { ruling = Some ruling }

abbrev pub with_ruling : Ruling → Case → Case
with_ruling ruling case = record case { entries = change_last (rule_entry ruling) case.entries }

-- the list with the first item that passes the test changed
abbrev pub amended : {X : Type 0} → (X → Bool) → (X → X) → List X → List X
amended test f [] = []
amended test f (x ∷ xs) = if test x then f x ∷ xs else x ∷ amended test f xs

-- the cases after a change
abbrev pub after : Change → List Case → List Case
after (changes.Add case) cases = cases ++ case ∷ []
after (changes.Decide party reference decision) cases = amended (is_named party reference) (with_entry decision) cases
after (changes.Appeal party reference appeal) cases = amended (is_named party reference) (with_appeal appeal) cases
after (changes.Rule party reference ruling) cases = amended (is_named party reference) (with_ruling ruling) cases

-- how many cases of the developer have no entry
abbrev pub queued_of : List ℕ → List Case → ℕ
queued_of party cases = count_by is_queued (rows_of party cases)

abbrev pub name_cmp : List ℕ × List ℕ → List ℕ × List ℕ → Ordering
name_cmp a b = ordering_then (slice_cmp nat_cmp a.0 b.0) (slice_cmp nat_cmp a.1 b.1)

abbrev pub put_in_order : List ((List ℕ × List ℕ) × State) → Case → List ((List ℕ × List ℕ) × State)
put_in_order placed case = insert_entry name_cmp placed (case.party, case.reference) (state_of case)

abbrev pub line_of : (List ℕ × List ℕ) × State → Line
line_of placed = record { party = placed.0.0; reference = placed.0.1; state = placed.1 }

-- a line for each case, by developer and reference
abbrev pub lines_of : List Case → List Line
lines_of cases = map line_of (fold put_in_order [] cases)

-- a developer's own cases
abbrev pub own_lines : List ℕ → List Case → List Line
own_lines party cases = lines_of (rows_of party cases)

-- the cases with an open appeal
abbrev pub open_lines : List Case → List Line
open_lines cases = lines_of (filter has_open_appeal cases)
