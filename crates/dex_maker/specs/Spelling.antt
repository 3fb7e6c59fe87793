-- How instructions are spelled in units of sixteen bits ("Dalvik executable instruction format"). Of each part the low bits stand
-- there that the format has room for.
use Rattle.std.specs.Prelude.{ℕ, ◌+◌, ◌*◌, ◌/◌, ◌%◌, List, [], ◌∷◌, length, slice_index}
use Rattle.dalvik_formats.specs.declared.format.Format.{Format}
use Rattle.dalvik_formats.specs.declared.format.Format.TheVariants.{Unused, F10x, F12x, F11n, F11x, F10t, F20t, F22x, F21t, F21s, F21h, F21c, F23x, F22b, F22t, F22s, F22c, F32x, F30t, F31t, F31i, F31c, F35c, F3rc, F51l}

-- sixteen bits of a number, from the one of that value on
abbrev pub unit_of : ℕ → ℕ → ℕ
unit_of number value = number / value % 65536

-- a byte above an opcode, and two halves of a byte above an opcode
abbrev pub with_byte : ℕ → ℕ → ℕ
with_byte opcode a = opcode + 256 * (a % 256)

abbrev pub with_halves : ℕ → ℕ → ℕ → ℕ
with_halves opcode a b = opcode + 256 * (a % 16) + 4096 * (b % 16)

-- two units, the low one first
abbrev pub two_units : ℕ → List ℕ
two_units number = unit_of number 1 ∷ unit_of number 65536 ∷ []

-- four units, the low one first
abbrev pub four_units : ℕ → List ℕ
four_units number = unit_of number 1 ∷ unit_of number 65536 ∷ unit_of number 4294967296 ∷ unit_of number 281474976710656 ∷ []

-- the four registers of format 35c that share a unit
abbrev pub four_halves : ℕ → ℕ → ℕ → ℕ → ℕ
four_halves a b c d = a % 16 + 16 * (b % 16) + 256 * (c % 16) + 4096 * (d % 16)

-- an instruction of format 35c: its registers, up to five, and how many there are
abbrev pub listed_units : ℕ → List ℕ → ℕ → List ℕ
listed_units op r index =
    with_halves op (slice_index r 4) (length r) ∷ unit_of index 1
    ∷ four_halves (slice_index r 0) (slice_index r 1) (slice_index r 2) (slice_index r 3) ∷ []

-- An instruction of a format: its opcode, registers, literal, index and distance. Literal and distance are in two's complement.
unfoldable pub plain_units : Format → ℕ → List ℕ → ℕ → ℕ → ℕ → List ℕ
plain_units Unused op r literal index distance = op ∷ []
plain_units F10x op r literal index distance = op ∷ []
plain_units F12x op r literal index distance = with_halves op (slice_index r 0) (slice_index r 1) ∷ []
plain_units F11n op r literal index distance = with_halves op (slice_index r 0) literal ∷ []
plain_units F11x op r literal index distance = with_byte op (slice_index r 0) ∷ []
plain_units F10t op r literal index distance = with_byte op distance ∷ []
plain_units F20t op r literal index distance = op ∷ unit_of distance 1 ∷ []
plain_units F22x op r literal index distance = with_byte op (slice_index r 0) ∷ unit_of (slice_index r 1) 1 ∷ []
plain_units F21t op r literal index distance = with_byte op (slice_index r 0) ∷ unit_of distance 1 ∷ []
plain_units F21s op r literal index distance = with_byte op (slice_index r 0) ∷ unit_of literal 1 ∷ []
plain_units F21h op r literal index distance = with_byte op (slice_index r 0) ∷ unit_of literal 1 ∷ []
plain_units (F21c pool) op r literal index distance = with_byte op (slice_index r 0) ∷ unit_of index 1 ∷ []
plain_units F23x op r literal index distance = with_byte op (slice_index r 0) ∷ with_byte (slice_index r 1 % 256) (slice_index r 2) ∷ []
plain_units F22b op r literal index distance = with_byte op (slice_index r 0) ∷ with_byte (slice_index r 1 % 256) literal ∷ []
plain_units F22t op r literal index distance = with_halves op (slice_index r 0) (slice_index r 1) ∷ unit_of distance 1 ∷ []
plain_units F22s op r literal index distance = with_halves op (slice_index r 0) (slice_index r 1) ∷ unit_of literal 1 ∷ []
plain_units (F22c pool) op r literal index distance = with_halves op (slice_index r 0) (slice_index r 1) ∷ unit_of index 1 ∷ []
plain_units F32x op r literal index distance = op ∷ unit_of (slice_index r 0) 1 ∷ unit_of (slice_index r 1) 1 ∷ []
plain_units F30t op r literal index distance = op ∷ two_units distance
plain_units F31t op r literal index distance = with_byte op (slice_index r 0) ∷ two_units distance
plain_units F31i op r literal index distance = with_byte op (slice_index r 0) ∷ two_units literal
plain_units F31c op r literal index distance = with_byte op (slice_index r 0) ∷ two_units index
plain_units (F35c pool) op r literal index distance = listed_units op r index
plain_units (F3rc pool) op r literal index distance = with_byte op (slice_index r 1) ∷ unit_of index 1 ∷ unit_of (slice_index r 0) 1 ∷ []
plain_units F51l op r literal index distance = with_byte op (slice_index r 0) ∷ four_units literal
