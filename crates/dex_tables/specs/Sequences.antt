-- How the items of a list stand in a file.
use Rattle.std.specs.Prelude.{◌≡◌, ℕ, zero, suc, ◌+◌, List, [], ◌∷◌, Some}
use Rattle.vet_base.specs.Numbers.{u2, u4, uleb}

-- a number of two bytes, or of four, stands at an offset
abbrev pub Is2 : List ℕ → ℕ → ℕ → Type 0
Is2 file at x = u2 file at ≡ Some (x, at + 2)

abbrev pub Is4 : List ℕ → ℕ → ℕ → Type 0
Is4 file at x = u4 file at ≡ Some (x, at + 4)

-- a LEB128 number stands from an offset up to another
abbrev pub IsLeb : List ℕ → ℕ → ℕ → ℕ → Type 0
IsLeb file at x end = uleb file at ≡ Some (x, end)

-- each row stands behind the one before it, all of one width
abbrev pub RowsStand : {X : Type 0} → (ℕ → X → Type 0) → ℕ → ℕ → List X → Type 0
RowsStand IsAt width at [] = Unit {0}
RowsStand IsAt width at (x ∷ xs) = IsAt at x × RowsStand IsAt width (at + width) xs

-- Each item begins where the one before it ends. Beside each stands what it adds to a running total.
abbrev pub Follow : {Q X T : Type 0} → T → (T → T → T) → (Q → X → T → Q → Type 0) → Q → List X → T → Q → Type 0
Follow none plus IsAt from [] total to = (from ≡ to) × (total ≡ none)
Follow {Q = Q} {T = T} none plus IsAt from (x ∷ xs) total to = (mid : Q) × (one : T) × (rest : T) × IsAt from x one mid × Follow none plus IsAt mid xs rest to × (total ≡ plus one rest)

-- offset 0 stands for nothing
abbrev pub AtOffset : ℕ → Type 0 → Type 0 → Type 0
AtOffset zero nothing something = nothing
AtOffset (suc at) nothing something = something
