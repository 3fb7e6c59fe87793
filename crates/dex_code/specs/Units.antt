-- Numbers in the 16-bit units of code. A unit behind the last reads as 0.
use Rattle.std.specs.Prelude.{ℕ, ℤ, pos, negsuc, ◌+ℤ◌, ◌-ℤ◌, ◌+◌, ◌*◌, ◌/◌, ◌%◌, List, slice_index, nat_lt, if◌then◌else◌}
use Rattle.std.specs.Int.{cast_signed, w32, w64}

-- bits 8 to 11 and bits 12 to 15 of a unit
abbrev pub third_nibble : ℕ → ℕ
third_nibble unit = (unit / 256) % 16

abbrev pub fourth_nibble : ℕ → ℕ
fourth_nibble unit = unit / 4096

-- the number in two units, the low one first
unfoldable pub long_at : List ℕ → ℕ → ℕ
long_at units at = slice_index units at + 65536 * slice_index units (at + 1)

-- the same with a sign
unfoldable pub int_at : List ℕ → ℕ → ℤ
int_at units at = cast_signed w32 (long_at units at)

-- the signed number in four units
unfoldable pub wide_at : List ℕ → ℕ → ℤ
wide_at units at = cast_signed w64 (long_at units at + 4294967296 * long_at units (at + 2))

-- a number with a sign, of which `half` is the weight of the sign
unfoldable pub signed : ℕ → ℕ → ℤ
signed half n = if nat_lt n half then pos n else (pos n -ℤ pos (2 * half))

-- The pc of a number. A number that is none of a `u32` is written as the largest `u32`, where no line begins, since a
-- method has fewer units.
unfoldable pub pc_of : ℤ → ℕ
pc_of (pos n) = if nat_lt n 4294967296 then n else 4294967295
pc_of (negsuc n) = 4294967295

-- the pc so far from another
unfoldable pub target_of : ℕ → ℤ → ℕ
target_of pc distance = pc_of (pos pc +ℤ distance)
