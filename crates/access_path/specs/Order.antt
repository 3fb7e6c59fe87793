-- The order of paths: that of their bytes in a certificate.
use Rattle.std.specs.Prelude.{◌+◌, if◌then◌else◌, Bool, ℕ, List, ◌∷◌, length, map}
use Rattle.std.specs.Ordering.{nat_cmp}
use Rattle.std.specs.declared.cmp.Ordering.{Ordering}
use Rattle.std.proofs.lemmas.Map.Lookups.{CmpEqualImpliesEq}
use Rattle.vet_base.specs.declared.key_id.KeyId.{KeyId}
use Rattle.access_path.specs.declared.path.Path.{Path}
use Rattle.access_path.specs.Compared.{ComparesAs}
use Rattle.access_path.specs.Paths.{keys_of}
use Rattle.access_path.specs.contracts.path.PathOrd.TheImpl.{ghosts as path_order}

abbrev pub path_cmp : Path → Path → Ordering
path_cmp = path_order.cmp

-- how many keys, and 128 more where the path is open
abbrev pub first_number : Bool → ℕ → ℕ
first_number is_open n = if is_open then 128 + n else n

-- a path as numbers: the first one, and then the keys
abbrev pub numbers_of_path : Path → List ℕ
numbers_of_path p = first_number p.is_open (length (keys_of p)) ∷ map (λ (k : KeyId). k.0) (keys_of p)

-- The order tells all paths apart, and it is that of their numbers, whatever stands behind them.
pub record PathOrder : Type 0 where
  pub exact : CmpEqualImpliesEq path_cmp
  pub stated : ComparesAs nat_cmp path_cmp numbers_of_path
