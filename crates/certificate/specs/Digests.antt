-- What the digest of an app's files is taken of.
use Rattle.std.specs.Prelude.{ℕ, ◌<◌, List, ◌++◌, length}
use Rattle.std.specs.List.{flat_map}
use Rattle.cert_rows.specs.Spelling.{u4_bytes}

-- its length has room in four bytes
abbrev pub IsShort : List ℕ → Type 0
IsShort part = length part < 4294967296

-- a part with its length in front
abbrev pub part_bytes : List ℕ → List ℕ
part_bytes part = u4_bytes (length part) ++ part

abbrev pub parts_bytes : List (List ℕ) → List ℕ
parts_bytes parts = flat_map part_bytes parts
