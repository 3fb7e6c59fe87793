-- Lines by their pcs.
use Rattle.std.specs.Prelude.{◌≡◌, ◌<◌, ℕ, List, [], ◌∷◌, length, slice_index_or, Some}
use Rattle.dex_code.specs.Lines.{Line}
use Rattle.dex_code.specs.Flow.{found}

-- each line of the list stands behind the pc
unfoldable pub AllBehind : ℕ → List Line → Type 0
AllBehind pc [] = Unit {0}
AllBehind pc (line ∷ lines) = (pc < line.0) × AllBehind pc lines

-- each line stands behind those before it
unfoldable pub Ascend : List Line → Type 0
Ascend [] = Unit {0}
Ascend (line ∷ lines) = AllBehind line.0 lines × Ascend lines

-- the line that is found stands there
pub record FoundAt (lines : List Line) (pc at : ℕ) : Type 0 where
  pub within : at < length lines
  pub is : (d : Line) → found lines pc ≡ Some (slice_index_or lines at d).1
