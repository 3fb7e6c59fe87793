-- A row is read as it was written, and what is read of any bytes was written there.
use Rattle.std.specs.Prelude.{◌≡◌, ◌<◌, ℕ, List, ◌++◌, Ok}
use Rattle.std.specs.List.{AllByRecursion}
use Rattle.vet_base.specs.Script.{run}
use Rattle.fact_rows.specs.declared.row.Row.{Row}
use Rattle.cert_rows.specs.declared.sets.Set.{Set}
use Rattle.cert_rows.specs.Fitting.{IsSmall, RowFits}
use Rattle.cert_rows.specs.Reading.{u4_from}
use Rattle.cert_rows.specs.Rows.{row_from}
use Rattle.cert_rows.specs.Spelling.{u4_bytes, row_bytes}

-- each is a byte
abbrev pub AreBytes : List ℕ → Type 0
AreBytes bytes = AllByRecursion (λ n. n < 256) bytes

-- A row that certificates of the set can have is read from its bytes, whatever stands behind them.
abbrev pub RowsAreReadAgain : Type 0
RowsAreReadAgain = (set : Set) (row : Row) (rest : List ℕ) → RowFits set row → run (row_from set (row_bytes row ++ rest)) ≡ Ok (row, rest)

-- the bytes begin with what was read, which could be written
pub record Begins {A : Type 0} (spelled : A → List ℕ) (Fits : A → Type 0) (bytes : List ℕ) (x : A) (rest : List ℕ) : Type 0 where
  pub is : bytes ≡ spelled x ++ rest
  pub fits : Fits x
  pub left : AreBytes rest

-- What is read of any bytes is what they begin with.
pub record RowsAreFound : Type 0 where
  pub number : (bytes rest : List ℕ) (n : ℕ) → AreBytes bytes → run (u4_from bytes) ≡ Ok (n, rest) → Begins u4_bytes IsSmall bytes n rest
  pub row : (set : Set) (bytes rest : List ℕ) (row : Row) → AreBytes bytes → run (row_from set bytes) ≡ Ok (row, rest) → Begins row_bytes (RowFits set) bytes row rest
