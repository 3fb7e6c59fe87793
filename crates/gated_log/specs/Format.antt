-- A log as bytes: eight by which it is known, then its records, each an open gate, a length and so many bytes, and last a closed
-- gate. An open gate is 1, a closed one 0.
use Rattle.std.specs.Prelude.{◌≡◌, ◌⊎◌, ◌+◌, ◌*◌, ◌/◌, ◌%◌, ℕ, zero, suc, List, [], ◌∷◌, ◌++◌, length, take, drop, Option, Some, None, nat_le, if◌then◌else◌}

-- VETJRNL1
abbrev pub magic : List ℕ
magic = 86 ∷ 69 ∷ 84 ∷ 74 ∷ 82 ∷ 78 ∷ 76 ∷ 49 ∷ []

-- eight bytes, the low one first
abbrev pub u8_bytes : ℕ → List ℕ
u8_bytes n = n % 256 ∷ n / 256 % 256 ∷ n / 65536 % 256 ∷ n / 16777216 % 256
    ∷ n / 4294967296 % 256 ∷ n / 1099511627776 % 256 ∷ n / 281474976710656 % 256 ∷ n / 72057594037927936 % 256 ∷ []

-- the number of eight bytes
abbrev pub u8_of : ℕ → ℕ → ℕ → ℕ → ℕ → ℕ → ℕ → ℕ → ℕ
u8_of a b c d e f g h = a + 256 * b + 65536 * c + 16777216 * d
    + 4294967296 * e + 1099511627776 * f + 281474976710656 * g + 72057594037927936 * h

abbrev pub record_bytes : List ℕ → List ℕ
record_bytes payload = 1 ∷ (u8_bytes (length payload) ++ payload)

-- what stands behind the gate of the last record
abbrev pub behind_gate : List ℕ → List ℕ
behind_gate payload = u8_bytes (length payload) ++ (payload ++ 0 ∷ [])

-- the length of the record at the front, where an open gate and eight bytes stand there
abbrev pub record_length : List ℕ → Option ℕ
record_length (suc zero ∷ a ∷ b ∷ c ∷ d ∷ e ∷ f ∷ g ∷ h ∷ rest) = Some (u8_of a b c d e f g h)
record_length _ = None

abbrev pub payload_by : Option ℕ → List ℕ → Option (List ℕ)
payload_by None rest = None
payload_by (Some n) rest = if nat_le n (length rest) then Some (take n rest) else None

-- the payload of the record at the front, where there is one that ends within the bytes
abbrev pub first_record : List ℕ → Option (List ℕ)
first_record bytes = payload_by (record_length bytes) (drop 9 bytes)

abbrev pub NoRecord : List ℕ → Type 0
NoRecord bytes = first_record bytes ≡ None

-- The bytes begin with these, and no whole record stands behind them.
pub record EndsWith (front bytes : List ℕ) : Type 0 where
  pub rest : List ℕ
  pub is : bytes ≡ front ++ rest
  pub none : NoRecord rest

-- with the record or without it
abbrev pub EndsWithEither : List ℕ → List ℕ → List ℕ → Type 0
EndsWithEither front payload bytes = EndsWith front bytes ⊎ EndsWith (front ++ record_bytes payload) bytes
