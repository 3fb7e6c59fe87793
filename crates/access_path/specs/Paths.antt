-- What a path stands for, a key in front of it, and what is left behind a key.
use Rattle.std.specs.Prelude.{◌≡◌, ◌==◌, ◌||◌, if◌then◌else◌, MatchBool, Bool, false, List, ◌∷◌, Option, Some, None, length, nat_lt}
use Rattle.vet_base.specs.declared.key_id.KeyId.{KeyId}
use Rattle.access_path.specs.declared.keys.Keys.TheVariants.{Zero}
use Rattle.access_path.specs.declared.keys.TheConstants.{MOST_KEYS}
use Rattle.access_path.specs.declared.path.Path.{Path}
use Rattle.access_path.specs.Keys.{keys_in, first_keys, first_and_rest, Begins}

abbrev pub keys_of : Path → List KeyId
keys_of p = keys_in p.keys

-- the path has these keys
pub record IsPathOf (is_open : Bool) (ks : List KeyId) (p : Path) : Type 0 where
  pub open_so : p.is_open ≡ is_open
  pub same_keys : keys_of p ≡ ks

-- an open path covers every list that begins with its keys, a closed one its own keys alone
unfoldable pub Covers : Path → List KeyId → Type 0
Covers p ks = MatchBool p.is_open (Begins (keys_of p) ks) (keys_of p ≡ ks)

-- the key in front; where that makes too many keys the last is dropped and the path is open
unfoldable pub cut : KeyId → Path → Path
cut k p = let ks = k ∷ keys_of p in record { is_open = p.is_open || nat_lt MOST_KEYS (length ks); keys = first_keys ks }

-- the path without its first key, where that is this one; an open path without keys stays as it is
unfoldable pub rest : Path → KeyId → Option Path
rest p k = elim (first_and_rest (keys_of p)) [
  | None ↦ if p.is_open then Some p else None
  | Some f ↦ if f.0.0 == k.0 then Some (record { is_open = p.is_open; keys = f.1 }) else None
]

-- no keys, closed
abbrev pub empty_path : Path
empty_path = record { is_open = false; keys = Zero }
