-- The bytes that came from a link.
use Rattle.std.specs.Prelude.{◌≡◌, ℕ, List, [], ◌++◌, Option, Some, None, IfSome}
use Rattle.std.specs.Option.{option_map}
use Rattle.desk_links.specs.Links.{Told, without_first}

-- Bytes went from the link to the end of a buffer, and nothing else that is told changed.
unfoldable pub Takes : Option Told → List ℕ → Option Told → List ℕ → Type 0
Takes None before new after = new ≡ None
Takes (Some t) before new after = (rest : List ℕ) × (new ≡ Some (record t { coming = rest })) × (after ++ rest ≡ before ++ t.coming)

-- no more bytes come
abbrev pub IsAtEnd : Option Told → Type 0
IsAtEnd told = IfSome told (λ t. t.coming ≡ [])

-- some of the bytes to come were taken, from the first on, and nothing else that is told changed
abbrev pub TakesSome : Option Told → Option Told → Type 0
TakesSome old new = (n : ℕ) × (new ≡ option_map (without_first n) old)
