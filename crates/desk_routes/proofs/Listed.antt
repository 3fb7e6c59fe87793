-- The items of an array.
use Rattle.std.proofs.Common.{◌≡◌, List, [], ◌∷◌, map, Some, None, refl, ap, ◌∙◌, option_map}
use Rattle.std.proofs.lemmas.Option.{same_Some}
use Rattle.serde_json.specs.Data.{Data, null, boolean, number, string, array, object}
use Rattle.serde_json.specs.Find.{as_array}
use Rattle.serde_json.specs.View.{view, items_view}
use Rattle.serde_json.specs.declared.value.Value.{Value}
use Rattle.desk_routes.specs.Bodies.{listed}

pub listed_view : (vs : List Value) → listed (items_view vs) ≡ map view vs
listed_view [] = refl
listed_view (v ∷ vs) = ap (λ ds. view v ∷ ds) (listed_view vs)

-- what an array's slice holds are its items
pub items_are : (d : Data) (vs : List Value) → as_array d ≡ Some (items_view vs) → option_map listed (as_array d) ≡ Some (map view vs)
items_are d vs e = rw e (ap Some (listed_view vs))

pub no_items_are : (d : Data) → as_array d ≡ None → option_map listed (as_array d) ≡ None
no_items_are d e = rw e refl
