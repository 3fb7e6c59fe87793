-- How payloads are spelled ("Dalvik bytecode": packed-switch-payload, sparse-switch-payload, fill-array-data-payload).
use Rattle.std.specs.Prelude.{ℕ, ℤ, pos, ◌-ℤ◌, ◌+◌, ◌*◌, ◌/◌, List, [], ◌∷◌, ◌++◌, length, slice_index, ◌==◌, if◌then◌else◌}
use Rattle.std.specs.List.{flat_map}
use Rattle.std.specs.Int.{w64, cast_unsigned}
use Rattle.dex_maker.specs.Spelling.{unit_of, two_units}

-- from a unit to where a line begins, in two's complement
unfoldable pub distance_bits : List ℕ → ℕ → ℕ → ℕ
distance_bits starts at line = cast_unsigned w64 (pos (slice_index starts line) -ℤ pos at)

-- a number with a sign
abbrev pub key_units : ℤ → List ℕ
key_units key = two_units (cast_unsigned w64 key)

abbrev pub target_units : List ℕ → ℕ → ℕ → List ℕ
target_units starts at line = two_units (distance_bits starts at line)

-- of a switch at that unit
unfoldable pub packed_units : List ℕ → ℕ → ℤ → List ℕ → List ℕ
packed_units starts at key targets = 256 ∷ unit_of (length targets) 1 ∷ key_units key ++ flat_map (target_units starts at) targets

abbrev pub pair_key : ℤ × ℕ → List ℕ
pair_key pair = key_units pair.0

abbrev pub pair_target : List ℕ → ℕ → ℤ × ℕ → List ℕ
pair_target starts at pair = target_units starts at pair.1

unfoldable pub sparse_units : List ℕ → ℕ → List (ℤ × ℕ) → List ℕ
sparse_units starts at pairs = 512 ∷ unit_of (length pairs) 1 ∷ flat_map pair_key pairs ++ flat_map (pair_target starts at) pairs

-- two bytes a unit, the low one first
abbrev pub byte_units : List ℕ → List ℕ
byte_units [] = []
byte_units (a ∷ []) = a ∷ []
byte_units (a ∷ b ∷ bytes) = (a + 256 * b) ∷ byte_units bytes

abbrev pub element_count : ℕ → List ℕ → ℕ
element_count width bytes = if width == 0 then 0 else length bytes / width

unfoldable pub filled_units : ℕ → List ℕ → List ℕ
filled_units width bytes = 768 ∷ width ∷ two_units (element_count width bytes) ++ byte_units bytes
