-- Where the head of a message ends, and which bytes are one (RFC 9112, sections 2.1 and 2.2).
use Rattle.std.specs.Prelude.{◌≡◌, ℕ, ◌<◌, ◌≤◌, Bool, true, false, ◌||◌, nat_eq, List, [], ◌∷◌, length, take}
use Rattle.std.specs.List.{ends_with}
use Rattle.httparse.specs.Grammar.{RequestHead, ReadsRequest}

-- whether the bytes end with an empty line, where a line ends with LF or CR LF: with LF LF or LF CR LF
unfoldable pub ends_empty_line : List ℕ → Bool
ends_empty_line bytes = ends_with nat_eq bytes (10 ∷ 10 ∷ []) || ends_with nat_eq bytes (10 ∷ 13 ∷ 10 ∷ [])

-- no empty line ends among the first n bytes
abbrev pub HasNoEnd : List ℕ → ℕ → Type 0
HasNoEnd bytes n = (k : ℕ) → k ≤ n → ends_empty_line (take k bytes) ≡ false

-- the first empty line ends behind n bytes: these are the head
pub record IsHeadEnd (bytes : List ℕ) (n : ℕ) : Type 0 where
  pub within : n ≤ length bytes
  pub ends : ends_empty_line (take n bytes) ≡ true
  pub first : (k : ℕ) → k < n → ends_empty_line (take k bytes) ≡ false

-- the bytes are one head as a whole, in the grammar of the crate `httparse`
abbrev pub IsWholeHead : List ℕ → RequestHead → Type 0
IsWholeHead bytes head = ReadsRequest bytes head []

abbrev pub IsNoHead : List ℕ → Type 0
IsNoHead bytes = (head : RequestHead) → ¬ (IsWholeHead bytes head)
