-- What a journal holds. At most nine bytes hold no cases. More begin with those by which a journal is known, and hold the cases
-- that the changes of their records make, one after another, each of which fits. The records end where no whole one stands.
use Rattle.std.specs.Prelude.{◌≡◌, ◌≢◌, ◌⊎◌, ◌<◌, ◌≤◌, ◌+◌, ℕ, List, [], ◌∷◌, length, take, drop, Some, Ok}
use Rattle.vet_base.specs.Script.{run}
use Rattle.gated_log.specs.Format.{magic, first_record, NoRecord}
use Rattle.case_rules.specs.declared.case.Case.{Case}
use Rattle.case_rules.specs.declared.reply.Change.{Change}
use Rattle.case_rules.specs.Cases.{after}
use Rattle.case_rules.specs.Docket.{Fits}
use Rattle.case_records.specs.Reading.{change_of}

-- Records with these payloads stand at the front, and this is behind them.
abbrev pub Leads : List (List ℕ) → List ℕ → List ℕ → Type 0
Leads [] bytes rest = bytes ≡ rest
Leads (payload ∷ payloads) bytes rest =
    (first_record bytes ≡ Some payload) × Leads payloads (drop (9 + length payload) bytes) rest

-- The payload is that of a change that fits these cases.
pub record IsTaken (payload : List ℕ) (cases : List Case) (change : Change) : Type 0 where
  pub is : run (change_of payload) ≡ Ok change
  pub fits : Fits change cases

-- The changes of these payloads, one after another, make of the first cases the others.
abbrev pub Makes : List (List ℕ) → List Case → List Case → Type 0
Makes [] before cases = cases ≡ before
Makes (payload ∷ payloads) before cases =
    (change : Change) × (IsTaken payload before change × Makes payloads (after change before) cases)

-- More than nine bytes, with a record for each change.
pub record IsJournal (bytes : List ℕ) (cases : List Case) : Type 0 where
  pub long : 9 < length bytes
  pub known : take 8 bytes ≡ magic
  pub payloads : List (List ℕ)
  pub rest : List ℕ
  pub leads : Leads payloads (drop 8 bytes) rest
  pub none : NoRecord rest
  pub made : Makes payloads [] cases

-- The bytes hold these cases.
abbrev pub Holds : List ℕ → List Case → Type 0
Holds bytes cases = ((length bytes ≤ 9) × (cases ≡ [])) ⊎ IsJournal bytes cases

-- More than nine bytes that do not begin as a journal.
pub record IsForeign (bytes : List ℕ) : Type 0 where
  pub long : 9 < length bytes
  pub other : take 8 bytes ≢ magic

-- The first record whose payload is no change that fits has its gate at this offset.
pub record IsBad (bytes : List ℕ) (at : ℕ) : Type 0 where
  pub long : 9 < length bytes
  pub known : take 8 bytes ≡ magic
  pub payloads : List (List ℕ)
  pub rest : List ℕ
  pub leads : Leads payloads (drop 8 bytes) rest
  pub cases : List Case
  pub made : Makes payloads [] cases
  pub payload : List ℕ
  pub stands : first_record rest ≡ Some payload
  pub refused : (change : Change) → IsTaken payload cases change → ⊥
  pub gate : at + length rest ≡ length bytes

-- Bytes hold one list of cases, or are foreign, or are bad at one place: just one of these.
pub record HaveOneReading : Type 0 where
  pub one_list : (bytes : List ℕ) (cases others : List Case) → Holds bytes cases → Holds bytes others → cases ≡ others
  pub one_place : (bytes : List ℕ) (at other : ℕ) → IsBad bytes at → IsBad bytes other → at ≡ other
  pub not_foreign : (bytes : List ℕ) (cases : List Case) → Holds bytes cases → IsForeign bytes → ⊥
  pub not_bad : (bytes : List ℕ) (cases : List Case) (at : ℕ) → Holds bytes cases → IsBad bytes at → ⊥
  pub not_both : (bytes : List ℕ) (at : ℕ) → IsForeign bytes → IsBad bytes at → ⊥
