-- A log as the list of its payloads.
use Rattle.std.specs.Prelude.{◌≡◌, ◌<◌, ℕ, List, [], ◌∷◌, ◌++◌, length}
use Rattle.std.specs.List.{AllByRecursion, flat_map}
use Rattle.gated_log.specs.Format.{magic, record_bytes, EndsWith}

-- each length has room in eight bytes
abbrev pub AreShort : List (List ℕ) → Type 0
AreShort payloads = AllByRecursion (λ payload. length payload < 18446744073709551616) payloads

-- the bytes by which a log is known, and its records
abbrev pub front_bytes : List (List ℕ) → List ℕ
front_bytes payloads = magic ++ flat_map record_bytes payloads

-- The bytes are a log of these payloads: its records stand one behind another, and no whole record behind the last.
pub record IsLog (payloads : List (List ℕ)) (bytes : List ℕ) : Type 0 where
  pub short : AreShort payloads
  pub ends : EndsWith (front_bytes payloads) bytes

-- Bytes are a log of one list of payloads. A record that is added stands behind those that were there.
pub record LogLaws : Type 0 where
  pub one : (payloads others : List (List ℕ)) (bytes : List ℕ) → IsLog payloads bytes → IsLog others bytes → payloads ≡ others
  pub more : (payloads : List (List ℕ)) (payload : List ℕ)
      → front_bytes payloads ++ record_bytes payload ≡ front_bytes (payloads ++ payload ∷ [])
