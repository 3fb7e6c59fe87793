-- How numbers, texts and lists of types are spelled ("Dalvik executable format": encoding, string_data_item, type_list).
use Rattle.std.specs.Prelude.{ℕ, zero, suc, ◌+◌, ◌*◌, ◌-◌, ◌/◌, ◌%◌, List, [], ◌∷◌, ◌++◌, length, nat_lt, nat_le, ◌||◌, count_by, take, ◌==◌, if◌then◌else◌}
use Rattle.std.specs.List.{flat_map}

-- two bytes, the low one first
abbrev pub u2_bytes : ℕ → List ℕ
u2_bytes n = n % 256 ∷ n / 256 % 256 ∷ []

-- four bytes, the low one first
abbrev pub u4_bytes : ℕ → List ℕ
u4_bytes n = n % 256 ∷ n / 256 % 256 ∷ n / 65536 % 256 ∷ n / 16777216 % 256 ∷ []

-- seven bits a byte, the low ones first; the last byte is below 128, and stands behind at most so many others
unfoldable pub groups_of : ℕ → ℕ → List ℕ
groups_of zero n = n % 128 ∷ []
groups_of (suc more) n = if nat_lt n 128 then n ∷ [] else (n % 128 + 128) ∷ groups_of more (n / 128)

-- a number below 2 ^ 32 as unsigned LEB128
abbrev pub uleb_bytes : ℕ → List ℕ
uleb_bytes n = groups_of 4 n

-- as many zeros as lead from that length to a multiple of four
unfoldable pub padding_of : ℕ → List ℕ
padding_of len = take ((4 - len % 4) % 4) (0 ∷ 0 ∷ 0 ∷ [])

-- The number of UTF-16 units of a text in MUTF-8: its bytes but for those that continue a character.
unfoldable pub text_len : List ℕ → ℕ
text_len bytes = count_by (λ b. nat_lt b 128 || nat_le 192 b) bytes

-- a string_data_item
abbrev pub string_item : List ℕ → List ℕ
string_item name = uleb_bytes (text_len name) ++ name ++ 0 ∷ []

-- a type_list, up to a multiple of four bytes; nothing for an empty one
unfoldable pub type_list : List ℕ → List ℕ
type_list types = if length types == 0 then [] else (u4_bytes (length types) ++ flat_map u2_bytes types ++ padding_of (2 * (length types % 2)))
