-- The numbers that words spell.
use Rattle.std.specs.Prelude.{ℕ, ◌+◌, ◌-◌, ◌*◌, ◌&&◌, ◌==◌, nat_le, List, [], ◌∷◌, Option, Some, None, if◌then◌else◌}
use Rattle.std.specs.Char.{is_ascii_digit}

-- the number that decimal digits spell behind those of n, none above the limit
unfoldable pub digits : ℕ → ℕ → List ℕ → Option ℕ
digits limit n [] = Some n
digits limit n (c ∷ cs) = if is_ascii_digit c && nat_le (10 * n + (c - 48)) limit then digits limit (10 * n + (c - 48)) cs else None

-- a decimal number up to the limit, without sign and without a leading zero unless it is 0
unfoldable pub number : ℕ → List ℕ → Option ℕ
number limit [] = None
number limit (c ∷ []) = digits limit 0 (c ∷ [])
number limit (c ∷ d ∷ ds) = if c == 48 then None else digits limit 0 (c ∷ d ∷ ds)

abbrev pub unless_zero : Option ℕ → Option ℕ
unless_zero None = None
unless_zero (Some n) = if n == 0 then None else Some n

-- such a number from 1 on
unfoldable pub positive : ℕ → List ℕ → Option ℕ
positive limit word = unless_zero (number limit word)
