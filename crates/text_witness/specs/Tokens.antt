-- Whose a token is, and which texts are references. Behind each fact stands what a slip would answer.
use Rattle.std.specs.Prelude.{◌≡◌, ℕ, true, false, List, [], ◌∷◌, Option, Some, None, codes, find, replicate}
use Rattle.store_office.specs.declared.party.Party.{Party}
use Rattle.store_office.specs.declared.party.Role.TheVariants.{Developer}
use Rattle.store_office.specs.Office.{has_token}
use Rattle.store_office.specs.Reference.{is_reference}

abbrev pub ada : Party
ada = record { name = codes "ada-of-berlin"; role = Developer; token = codes "4f2a9c71" }

-- a party whose token goes on where that of the other one ends
abbrev pub eve : Party
eve = record { name = codes "eve"; role = Developer; token = codes "4f2a9c71d" }

-- the party of an office of one with this token
abbrev pub party_of : List ℕ → Option Party
party_of token = find (has_token token) (ada ∷ [])

-- so many letters `a`
abbrev pub letters : ℕ → List ℕ
letters n = replicate n 97

pub record TokensTell : Type 0 where
  -- a party is found by its token (else nobody would be)
  pub own_token : party_of (codes "4f2a9c71") ≡ Some ada
  -- a name is no token (else it would be that party's)
  pub not_by_name : party_of (codes "ada-of-berlin") ≡ None
  -- a token is compared whole (else one of which it is the front would be that party's)
  pub not_by_front : party_of (codes "4f2a9c71d") ≡ None
  -- a token of which another one is the front is its own party's (else it would be the other one's)
  pub another_behind : find (has_token (codes "4f2a9c71d")) (ada ∷ eve ∷ []) ≡ Some eve
  -- 64 bytes are a reference
  pub longest : is_reference (letters 64) ≡ true
  -- 65 bytes are none (else a reference could have one byte more)
  pub no_longer : is_reference (letters 65) ≡ false
