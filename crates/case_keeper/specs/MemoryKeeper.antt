-- A keeper in memory: what it keeps, how it finds it, and at which calls it fails.
use Rattle.std.specs.Prelude.{◌≡◌, ℕ, ◌+◌, ◌==◌, ◌≤◌, length, min, Bool, true, false, List, [], ◌∷◌, ◌++◌, Option, Some, None, Result, Ok, Err, Vec, unwrap_or, ◌&&◌, if◌then◌else◌}
use Rattle.std.specs.List.{list_any, filter_map, slice_get, AllWithin}
use Rattle.std.specs.Ordering.{nat_cmp}
use Rattle.std.specs.Cmp.Lexicographic.{slice_cmp}
use Rattle.std.specs.BTreeMap.{BTreeMap, get, is_at}
use Rattle.std.specs.BTreeSet.{contains}
use Rattle.std.specs.declared.alloc.Global.{Global}
use Rattle.vet_base.specs.Members.{first_index}
use Rattle.case_rules.specs.declared.case.Case.{Case}
use Rattle.case_rules.specs.declared.reply.Change.{Change}
use Rattle.case_rules.specs.declared.reply.Change.TheVariants as changes
use Rattle.case_rules.specs.Cases.{name_cmp, same, is_named, is_of, is_queued, queued_of, has_open_appeal, with_entry, with_appeal, with_ruling}
use Rattle.case_keeper.specs.declared.placing.CaseIndex.{CaseIndex}
use Rattle.case_keeper.specs.declared.keeper.KeepFault.{KeepFault}
use Rattle.case_keeper.specs.declared.keeper.KeepFault.TheVariants.{Failed, Memory}

-- the cases, the numbers of the calls that fail, how many calls came and how many failed
pub record Kept : Type 0 where
  pub cases : List Case
  pub failing : List ℕ
  pub calls : ℕ
  pub faults : ℕ

-- whether the number of the next call is among those that fail; at 2^64 - 1 the numbering stops
abbrev pub fails_next : Kept → Bool
fails_next kept = list_any (λ n. n == min (kept.calls + 1) 18446744073709551615) kept.failing

-- A call fails exactly where its number is listed.
abbrev pub FailsAsNumbered : {X : Type 0} → Bool → Result X KeepFault → Type 0
FailsAsNumbered listed (Ok x) = listed ≡ false
FailsAsNumbered listed (Err Failed) = listed ≡ true
FailsAsNumbered listed (Err Memory) = listed ≡ false

-- the next call has the next number, and the listed numbers stay
pub record CountsCall (old new : Kept) : Type 0 where
  pub calls : new.calls ≡ min (old.calls + 1) 18446744073709551615
  pub failing : new.failing ≡ old.failing

-- the places of the items that pass a test, from a number on
abbrev pub places_from : ℕ → (Case → Bool) → List Case → List ℕ
places_from n test [] = []
places_from n test (case ∷ cases) =
    if test case then n ∷ places_from (n + 1) test cases else places_from (n + 1) test cases

-- the cases at these places
abbrev pub cases_at : List Case → List ℕ → List Case
cases_at cases places = filter_map (slice_get cases) places

abbrev pub Places : Type 0
Places = BTreeMap (List ℕ × List ℕ) ℕ

abbrev pub Owned : Type 0
Owned = BTreeMap (List ℕ) (Vec ℕ Global)

abbrev pub Waiting : Type 0
Waiting = BTreeMap (List ℕ) ℕ

abbrev pub items_or_none : Option (Vec ℕ Global) → List ℕ
items_or_none None = []
items_or_none (Some places) = places.items

-- the places that are noted for a developer
abbrev pub owned_by : Owned → List ℕ → List ℕ
owned_by owned party = items_or_none (get (slice_cmp nat_cmp) owned party)

-- the number that is noted for a developer
abbrev pub waiting_for : Waiting → List ℕ → ℕ
waiting_for waiting party = unwrap_or (get (slice_cmp nat_cmp) waiting party) 0

-- whether there is a case with an open appeal
abbrev pub is_open_case : Option Case → Bool
is_open_case None = false
is_open_case (Some case) = has_open_appeal case

-- Each name leads to the place of its case, each developer to the places of the own ones and to how many of them
-- are queued; and the places of open appeals are noted.
pub record IsIndex (cases : List Case) (index : CaseIndex) : Type 0 where
  pub named : (party reference : List ℕ)
      → get name_cmp index.places (party, reference) ≡ first_index (is_named party reference) cases
  pub own : (party : List ℕ) → owned_by index.owned party ≡ places_from 0 (is_of party) cases
  pub waiting : (party : List ℕ) → waiting_for index.waiting party ≡ queued_of party cases
  pub open_places : (place : ℕ) → contains nat_cmp index.appealed place ≡ is_open_case (slice_get cases place)

-- the name of the case leads to the place, or to none, and any other name where it led before
abbrev pub Notes : Places → Places → Case → Option ℕ → Type 0
Notes old new case place = (party reference : List ℕ)
    → get name_cmp new (party, reference)
    ≡ (if is_at (name_cmp (case.party, case.reference)) (party, reference) then place
    else get name_cmp old (party, reference))

-- the developer of the case has the place behind the others
abbrev pub Owns : Owned → Owned → Case → ℕ → Type 0
Owns old new case place = (party : List ℕ)
    → owned_by new party ≡ (if same case.party party then owned_by old party ++ place ∷ [] else owned_by old party)

-- a case is added: its name is noted, its place and that it waits
pub record Adds (before after : CaseIndex) (case : Case) (place : ℕ) : Type 0 where
  pub notes : Notes before.places after.places case (Some place)
  pub owns : Owns before.owned after.owned case place
  pub waiting : (party : List ℕ) → waiting_for after.waiting party
      ≡ (if same case.party party then waiting_for before.waiting case.party + 1 else waiting_for before.waiting party)
  pub appealed : (place : ℕ) → contains nat_cmp after.appealed place ≡ contains nat_cmp before.appealed place

-- 1 where the developer has the case and it is queued, else 0
abbrev pub waits : List ℕ → Case → ℕ
waits party case = if is_of party case && is_queued case then 1 else 0

-- what is noted once the case at a place became another
pub record NotesChange (before after : CaseIndex) (place : ℕ) (old new : Case) : Type 0 where
  pub places : after.places ≡ before.places
  pub owned : after.owned ≡ before.owned
  pub waiting : (party : List ℕ)
      → waiting_for after.waiting party + waits party old ≡ waiting_for before.waiting party + waits party new
  pub open_places : (other : ℕ) → contains nat_cmp after.appealed other
      ≡ (if place == other then has_open_appeal new else contains nat_cmp before.appealed other)

-- the same is noted
pub record SameNotes (before after : CaseIndex) : Type 0 where
  pub places : (name : List ℕ × List ℕ) → get name_cmp after.places name ≡ get name_cmp before.places name
  pub owned : (party : List ℕ) → owned_by after.owned party ≡ owned_by before.owned party
  pub waiting : (party : List ℕ) → waiting_for after.waiting party ≡ waiting_for before.waiting party
  pub open_places : (other : ℕ) → contains nat_cmp after.appealed other ≡ contains nat_cmp before.appealed other

abbrev pub IsPast : Case → Type 0
IsPast case = is_queued case ≡ false

-- The index leads to the cases, and no case before the place is queued.
pub record IsHeld (cases : List Case) (noted : CaseIndex) (decided : ℕ) : Type 0 where
  pub index : IsIndex cases noted
  pub within : decided ≤ length cases
  pub past : AllWithin IsPast cases 0 decided

-- a case as it is after a change to it
abbrev pub amended_by : Change → Case → Case
amended_by (changes.Add added) case = case
amended_by (changes.Decide party reference decision) case = with_entry decision case
amended_by (changes.Appeal party reference appeal) case = with_appeal appeal case
amended_by (changes.Rule party reference ruling) case = with_ruling ruling case
