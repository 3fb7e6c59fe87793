-- What the laws of the desk say: nothing that was written is changed or lost, and whose commands some are.
use Rattle.std.specs.Prelude.{◌≡◌, ◌≢◌, ℕ, List, [], ◌∷◌, Option, Some, None}
use Rattle.std.specs.List.{AllByRecursion}
use Rattle.case_rules.specs.declared.case.Case.{Case}
use Rattle.case_rules.specs.declared.case.Entry.{Entry}
use Rattle.store_office.specs.declared.party.Role.TheVariants.{Developer}
use Rattle.case_rules.specs.Docket.{IsFormed}
use Rattle.case_rules.specs.Desk.{Turn}

-- what is there stays as it is
abbrev pub KeepsSome : {X : Type 0} → Option X → Option X → Type 0
KeepsSome None new = Unit {0}
KeepsSome (Some x) new = new ≡ Some x

-- The decision stays, and an appeal and a ruling that are there.
pub record KeepsEntry (old new : Entry) : Type 0 where
  pub decision : new.decision ≡ old.decision
  pub appeal : KeepsSome old.appeal new.appeal
  pub ruling : KeepsSome old.ruling new.ruling

-- each entry stays at its place, and others may follow
abbrev pub KeepsEntries : List Entry → List Entry → Type 0
KeepsEntries [] new = Unit {0}
KeepsEntries (entry ∷ old) [] = ⊥
KeepsEntries (entry ∷ old) (same ∷ new) = KeepsEntry entry same × KeepsEntries old new

pub record KeepsCase (old new : Case) : Type 0 where
  pub party : new.party ≡ old.party
  pub reference : new.reference ≡ old.reference
  pub content : new.content ≡ old.content
  pub entries : KeepsEntries old.entries new.entries

-- each case stays at its place, and others may follow
abbrev pub KeepsCases : List Case → List Case → Type 0
KeepsCases [] new = Unit {0}
KeepsCases (case ∷ old) [] = ⊥
KeepsCases (case ∷ old) (same ∷ new) = KeepsCase case same × KeepsCases old new

-- the command of this developer
pub record IsBy (party : List ℕ) (turn : Turn) : Type 0 where
  pub role : turn.session.party.role ≡ Developer
  pub name : turn.session.party.name ≡ party

-- the command of another developer
pub record IsByAnother (party : List ℕ) (turn : Turn) : Type 0 where
  pub role : turn.session.party.role ≡ Developer
  pub name : turn.session.party.name ≢ party

abbrev pub AllBy : List ℕ → List Turn → Type 0
AllBy party turns = AllByRecursion (IsBy party) turns

abbrev pub AllByOthers : List ℕ → List Turn → Type 0
AllByOthers party turns = AllByRecursion (IsByAnother party) turns

-- Every reference and text has its form.
abbrev pub AreFormed : List Turn → Type 0
AreFormed turns = AllByRecursion (λ turn. IsFormed turn.command) turns
