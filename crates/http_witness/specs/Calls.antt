-- What a call of a link owes, of whatever it tells. Behind each fact stands what a slip would answer.
use Rattle.std.specs.Prelude.{ℕ, [], ◌∷◌, Result, Ok}
use Rattle.std.specs.Io.{ReadsAtMost}
use Rattle.desk_links.specs.Links.{IsFront}
use Rattle.desk_links.specs.declared.link.LinkFault.{LinkFault}

-- a read that gives two bytes
abbrev pub two : Result ℕ LinkFault
two = Ok 2

pub record CallsOwe : Type 0 where
  -- a write of some bytes takes one at least (else none of one)
  pub one_at_least : IsFront 0 (72 ∷ []) → ⊥
  -- a read gives no more bytes than there is room for (else one more)
  pub no_more : ReadsAtMost two (72 ∷ []) → ⊥
