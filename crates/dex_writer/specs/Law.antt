-- What is so of each id table and of each code item.
use Rattle.std.specs.Prelude.{◌≡◌, ℕ, ◌<◌, ◌%◌, List, ◌++◌, length, Some, slice_get}
use Rattle.dex_tables.specs.declared.dex.RawCode.{RawCode}
use Rattle.dex_writer.specs.CodeItem.{try_items, handlers_bytes, code_item}
use Rattle.dex_writer.specs.Rows.{place, with_row}
use Rattle.dex_writer.specs.Tables.{list_cmp}

-- a row that is found, at a place where it stands
pub record IsFound (rows : List (List ℕ)) (row : List ℕ) : Type 0 where
  pub number : ℕ
  pub at : place list_cmp rows row ≡ Some number
  pub stands : slice_get rows number ≡ Some row

abbrev pub AddedRowsAreFound : Type 0
AddedRowsAreFound = (rows : List (List ℕ)) (row : List ℕ) → IsFound (with_row list_cmp rows row) row

-- tries at a multiple of four bytes of their code item, and their handlers behind them
pub record TriesStand (code : RawCode) : Type 0 where
  pub before : List ℕ
  pub item : code_item code ≡ before ++ try_items code.tries ++ handlers_bytes code.tries
  pub aligned : length before % 4 ≡ 0

abbrev pub TriesAreAligned : Type 0
TriesAreAligned = (code : RawCode) → 0 < length code.tries → TriesStand code
