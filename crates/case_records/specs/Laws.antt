-- A change is read as it was written, and what is read of any bytes is written so alone.
use Rattle.std.specs.Prelude.{◌≡◌, ◌<◌, ℕ, List, Ok}
use Rattle.std.specs.List.{AllByRecursion}
use Rattle.vet_base.specs.Script.{run}
use Rattle.case_rules.specs.declared.reply.Change.{Change}
use Rattle.case_records.specs.Fitting.{ChangeFits}
use Rattle.case_records.specs.Reading.{change_of}
use Rattle.case_records.specs.Spelling.{change_bytes}

-- each is a byte
abbrev pub AreBytes : List ℕ → Type 0
AreBytes bytes = AllByRecursion (λ n. n < 256) bytes

-- A change that can be written is read from its bytes.
abbrev pub ChangesAreReadAgain : Type 0
ChangesAreReadAgain = (change : Change) → ChangeFits change → run (change_of (change_bytes change)) ≡ Ok change

-- Bytes of which a change is read are the bytes of that change, which can be written.
pub record IsSpelled (bytes : List ℕ) (change : Change) : Type 0 where
  pub is : bytes ≡ change_bytes change
  pub fits : ChangeFits change

abbrev pub ChangesAreFound : Type 0
ChangesAreFound = (bytes : List ℕ) (change : Change) → AreBytes bytes → run (change_of bytes) ≡ Ok change → IsSpelled bytes change
