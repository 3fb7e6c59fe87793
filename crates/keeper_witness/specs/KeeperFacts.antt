-- What calls of a keeper over a journal, and of the disk below it, do not come to. Behind each fact stands what a slip
-- would do.
use Rattle.std.specs.Prelude.{◌≡◌, ◌+◌, ℕ, Bool, true, List, [], ◌∷◌, ◌++◌, Some, Ok, Err}
use Rattle.disks.specs.Disks.{Told}
use Rattle.gated_log.specs.declared.log.Gate.TheVariants.{Closed}
use Rattle.gated_log.specs.Format.{magic, record_bytes}
use Rattle.gated_log.specs.Ends.{Stands}
use Rattle.case_rules.specs.declared.case.Case.{Case}
use Rattle.case_rules.specs.declared.reply.Change.TheVariants as changes
use Rattle.case_keeper.specs.declared.keeper.KeepFault.TheVariants.{Failed}
use Rattle.case_keeper.specs.Keeper.{told_after}
use Rattle.journal_law.specs.Journal.{IsBad}
use Rattle.journal_reading.specs.Keeping.{HoldsUpTo, NoOther}
use Rattle.journal_reading.specs.Opening.{Answers, HoldsCases, Spares}
use Rattle.journal_keeper.specs.Causes.{CountsBy}
use Rattle.disk_host.specs.Files.{Loses}

-- ten bytes of no journal
abbrev pub ten : List ℕ
ten = 88 ∷ 88 ∷ 88 ∷ 88 ∷ 88 ∷ 88 ∷ 88 ∷ 88 ∷ 88 ∷ 88 ∷ []

-- a journal whose one record is no change
abbrev pub bad : List ℕ
bad = magic ++ (record_bytes [] ++ 0 ∷ [])

pub record KeepersTell : Type 0 where
  -- of a journal with a case no crash leaves an empty file (else it may be emptied and written anew)
  pub emptied : (case : Case) → HoldsUpTo (case ∷ []) NoOther [] → ⊥
  -- a change that failed is not among the cases (else it is listed)
  pub refused : (case : Case) →
      told_after {X = Unit {0}} (changes.Add case) (Some []) (Err Failed) ≡ Some (case ∷ []) →
      ⊥
  -- a failure without a cause is not counted (else a call may fail at will)
  pub counted : (disk own : ℕ) → CountsBy {X = Unit {0}} ⊥ disk disk own (own + 1) (Err Failed) → ⊥
  -- a record that is no change is told by its gate (else by its length)
  pub gate : IsBad bad 9 → ⊥
  -- nothing is left behind the gate of a journal that is open and ready (else a torn record)
  pub torn : (t : Told) → t.now.bytes ≡ magic ++ 0 ∷ 1 ∷ [] → Stands (record { end = 8; gate = Closed }) t → ⊥
  -- ten other bytes are not opened (else they are begun anew)
  pub begun : Answers {X = Unit {0}} ten (Ok tt) → ⊥
  -- whatever is answered of ten other bytes, they are not cut off (else they are, and called foreign)
  pub foreign_cut : (t u : Told) → t.now.bytes ≡ ten → u.now.bytes ≡ [] → Spares (Some t) (Some u) → ⊥
  -- nor is a journal whose record is no change (else it is, and called bad)
  pub bad_cut : (t u : Told) → t.now.bytes ≡ bad → u.now.bytes ≡ [] → Spares (Some t) (Some u) → ⊥
  -- no call succeeds over ten other bytes (else they are begun anew)
  pub foreign_served : (t : Told) → t.now.bytes ≡ ten → HoldsCases t → ⊥
  -- nor over a journal whose record is no change
  pub bad_served : (t : Told) → t.now.bytes ≡ bad → HoldsCases t → ⊥
  -- no sync is Ok once one failed (else lost bytes are said to stay)
  pub lost : (now : Bool) → Loses {X = Unit {0}} true now (Ok tt) → ⊥
