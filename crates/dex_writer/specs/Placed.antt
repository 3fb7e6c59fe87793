-- Pieces that stand one behind the other, and rows of a table that say where.
use Rattle.std.specs.Prelude.{ℕ, ◌+◌, List, [], ◌∷◌, ◌++◌, length, ◌==◌, if◌then◌else◌}

-- where each piece stands, the first at an offset
abbrev pub offsets_of : {X : Type 0} → (X → List ℕ) → ℕ → List X → List ℕ
offsets_of piece at [] = []
offsets_of piece at (x ∷ xs) = at ∷ offsets_of piece (at + length (piece x)) xs

-- the rows, each of which knows where its piece stands
abbrev pub rows_of : {X : Type 0} → (ℕ → X → List ℕ) → (X → List ℕ) → ℕ → List X → List ℕ
rows_of row piece at [] = []
rows_of row piece at (x ∷ xs) = row at x ++ rows_of row piece (at + length (piece x)) xs

-- The pieces, of which the first stands at an offset, where what a piece says hangs on where it stands.
abbrev pub pieces : {X : Type 0} → (ℕ → X → List ℕ) → ℕ → List X → List ℕ
pieces piece at [] = []
pieces piece at (x ∷ xs) = piece at x ++ pieces piece (at + length (piece at x)) xs

-- the rows, each of which knows where such a piece stands
abbrev pub placed_rows : {X : Type 0} → (ℕ → X → List ℕ) → (ℕ → X → List ℕ) → ℕ → List X → List ℕ
placed_rows row piece at [] = []
placed_rows row piece at (x ∷ xs) = row at x ++ placed_rows row piece (at + length (piece at x)) xs

-- the offset of a piece, 0 for none
abbrev pub offset_of : ℕ → List ℕ → ℕ
offset_of at piece = if length piece == 0 then 0 else at
