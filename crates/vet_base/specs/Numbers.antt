-- Numbers as they stand in bytes (Android documentation, Dalvik executable format: data types, LEB128).
use Rattle.std.specs.Prelude.{ℕ, ℤ, zero, suc, ◌+◌, ◌*◌, ◌%◌, List, [], ◌∷◌, length, drop, slice_index, Option, Some, None, nat_lt, nat_le, if◌then◌else◌, Bool, true, false, ◌&&◌}
use Rattle.std.specs.Option.{option_map}
use Rattle.std.specs.Int.{w32, cast_signed}

-- two bytes, the low one first, and the offset behind them
abbrev pub u2 : List ℕ → ℕ → Option (ℕ × ℕ)
u2 bytes at = if nat_le (at + 2) (length bytes) then Some (slice_index bytes at + 256 * slice_index bytes (at + 1), at + 2) else None

-- four bytes, the low one first, and the offset behind them
abbrev pub u4 : List ℕ → ℕ → Option (ℕ × ℕ)
u4 bytes at = if nat_le (at + 4) (length bytes) then Some (slice_index bytes at + 256 * slice_index bytes (at + 1) + 65536 * slice_index bytes (at + 2) + 16777216 * slice_index bytes (at + 3), at + 4) else None

-- What the last byte stands for, at 32 bits: with a sign, the highest of its seven bits counts below 0.
abbrev pub last_group : Bool → ℕ → ℕ
last_group signed b = if signed && nat_le 64 b then b + 4294967168 else b

-- The number at 32 bits that seven bits of each byte make, the low ones first, and how many bytes it takes. Its last byte
-- is the first one without its high bit, and stands among the first n.
unfoldable pub groups : Bool → ℕ → List ℕ → Option (ℕ × ℕ)
groups signed zero bytes = None
groups signed (suc n) [] = None
groups signed (suc n) (b ∷ bytes) = if nat_lt b 128 then Some (last_group signed b, 1) else option_map (λ g. ((b % 128 + 128 * g.0) % 4294967296, g.1 + 1)) (groups signed n bytes)

-- an unsigned number of at most five bytes, and the offset behind it
abbrev pub uleb : List ℕ → ℕ → Option (ℕ × ℕ)
uleb bytes at = option_map (λ g. (g.0, at + g.1)) (groups false 5 (drop at bytes))

-- the same with a sign
abbrev pub sleb : List ℕ → ℕ → Option (ℤ × ℕ)
sleb bytes at = option_map (λ g. (cast_signed w32 g.0, at + g.1)) (groups true 5 (drop at bytes))
