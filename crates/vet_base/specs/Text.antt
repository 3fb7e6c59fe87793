-- The text of a name: its bytes, and when it stands within its place.
use Rattle.std.specs.Prelude.{ℕ, ◌≤◌, List, take}
use Rattle.vet_base.specs.declared.name.Text.{Text}
use Rattle.vet_base.specs.declared.name.Text.TheVariants.{Short, Long}

-- a short text is the first bytes of its array, as many as it counts
abbrev pub bytes_of : Text → List ℕ
bytes_of (Short n array) = take n array
bytes_of (Long v) = v.items

-- a short text counts no more bytes than its array has
abbrev pub IsWithin : Text → Type 0
IsWithin (Short n array) = n ≤ 30
IsWithin (Long v) = Unit {0}
