-- How many readers an index lists at the most.
use Rattle.std.specs.Prelude.{ℕ}

-- of one place: no code that a compiler writes reads a value at more places
abbrev pub most_of_one : ℕ
most_of_one = 16384

-- of all places of an app
abbrev pub most_of_all : ℕ
most_of_all = 16777216
