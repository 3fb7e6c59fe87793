-- Places in a list: where an element stands first, and which element stands a second time.
use Rattle.std.specs.Prelude.{◌≡◌, ℕ, suc, Bool, if◌then◌else◌, List, [], ◌∷◌, Option, Some, None, option_map}
use Rattle.std.specs.declared.cmp.Ordering.{Ordering}
use Rattle.std.specs.BTreeMap.{BTreeMap, get}

-- the number of the first element that is the same as x
unfoldable pub place_of : {K : Type 0} → (K → K → Bool) → K → List K → Option ℕ
place_of same x [] = None
place_of same x (k ∷ ks) = if same x k then Some 0 else option_map suc (place_of same x ks)

-- the map has of each key its place in the list
pub record HasPlaces {K : Type 0} (cmp : K → K → Ordering) (same : K → K → Bool) (places : BTreeMap K ℕ) (keys : List K) : Type 0 where
  pub at : (q : K) → get cmp places q ≡ place_of same q keys
