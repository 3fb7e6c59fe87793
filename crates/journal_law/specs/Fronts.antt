-- The records of a journal up to some offset, and what they make.
use Rattle.std.specs.Prelude.{◌≡◌, ◌≤◌, ℕ, List, [], ◌++◌, length, take, drop, Some}
use Rattle.gated_log.specs.Format.{magic, first_record}
use Rattle.case_rules.specs.declared.case.Case.{Case}
use Rattle.case_rules.specs.declared.reply.Change.{Change}
use Rattle.journal_law.specs.Journal.{Leads, IsTaken, Makes}

-- The bytes are those by which a journal is known and whole records, whose changes make these cases.
pub record IsFront (front : List ℕ) (cases : List Case) : Type 0 where
  pub records : List ℕ
  pub known : front ≡ magic ++ records
  pub payloads : List (List ℕ)
  pub whole : (rest : List ℕ) → Leads payloads (records ++ rest) rest
  pub made : Makes payloads [] cases

-- The payload is no change that fits.
abbrev pub IsRefused : List ℕ → List Case → Type 0
IsRefused payload cases = (change : Change) → IsTaken payload cases change → ⊥

-- The records before the offset make these cases.
pub record IsReadTo (bytes : List ℕ) (end : ℕ) (cases : List Case) : Type 0 where
  pub within : end ≤ length bytes
  pub front : IsFront (take end bytes) cases

-- The record whose gate is at the offset is refused, and all before it are not.
pub record StopsAt (bytes : List ℕ) (at : ℕ) : Type 0 where
  pub cases : List Case
  pub before : IsReadTo bytes at cases
  pub payload : List ℕ
  pub stands : first_record (drop at bytes) ≡ Some payload
  pub refused : IsRefused payload cases
