-- What is read.
use Rattle.std.specs.Prelude.{◌≡◌, ◌<◌, ◌≤◌, ◌+◌, ℕ, List, ◌++◌, Vec, length, take, drop}
use Rattle.std.specs.declared.alloc.Global.{Global}

abbrev pub items_of : Vec ℕ Global → List ℕ
items_of v = v.items

-- Of bytes that are read from an offset on, n more stand in the room behind as many as were there: one at least where there is
-- room and a byte.
pub record ReadsOn (bytes : List ℕ) (at from n : ℕ) (old new : List ℕ) : Type 0 where
  pub front : take (from + n) new ≡ take from old ++ take n (drop (at + from) bytes)
  pub within : n ≤ length (drop (at + from) bytes)
  pub some : from < length old → 0 < length (drop (at + from) bytes) → 0 < n
