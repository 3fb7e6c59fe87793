-- Rows of an id table, each of which is named by its place.
use Rattle.std.specs.Prelude.{◌≡◌, ℕ, ◌+◌, List, [], ◌∷◌, ◌++◌, Option, Some, None, is_some, if◌then◌else◌}
use Rattle.std.specs.Option.{option_map}
use Rattle.std.specs.declared.cmp.Ordering.{Ordering}
use Rattle.std.specs.Ordering.{is_eq}
use Rattle.std.specs.BTreeMap.{BTreeMap, get}

-- where a row stands first
abbrev pub place : {K : Type 0} → (K → K → Ordering) → List K → K → Option ℕ
place cmp [] row = None
place cmp (x ∷ xs) row = if is_eq (cmp row x) then Some 0 else option_map (λ n. n + 1) (place cmp xs row)

-- the rows, with this one at the end unless it is there
abbrev pub with_row : {K : Type 0} → (K → K → Ordering) → List K → K → List K
with_row cmp rows row = if is_some (place cmp rows row) then rows else rows ++ row ∷ []

-- the map has the place of each row, and nothing else
pub record IsIndexOf {K : Type 0} (cmp : K → K → Ordering) (rows : List K) (index : BTreeMap K ℕ) : Type 0 where
  pub at : (row : K) → get cmp index row ≡ place cmp rows row
