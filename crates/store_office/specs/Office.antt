-- Whose token it is.
use Rattle.std.specs.Prelude.{ℕ, Bool, List, nat_eq}
use Rattle.std.specs.Cmp.Lexicographic.{pointwise}
use Rattle.store_office.specs.declared.party.Party.{Party}

-- The party's token is this one, byte for byte.
abbrev pub has_token : List ℕ → Party → Bool
has_token token party = pointwise nat_eq party.token token
