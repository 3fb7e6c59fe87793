-- The items of an array.
use Rattle.std.proofs.Common.{◌≡◌, List, [], ◌∷◌, map, Some, None, refl, ap, ◌∙◌}
use Rattle.std.proofs.lemmas.Option.{same_Some}
use Rattle.toml.specs.Data.{Data, string, integer, float, boolean, datetime, array, table, as_array}
use Rattle.toml.specs.View.{view, items_view}
use Rattle.toml.specs.declared.value.Value.{Value}
use Rattle.form_fields.specs.Tree.{listed, items_in}

listed_view : (vs : List Value) → listed (items_view vs) ≡ map view vs
listed_view [] = refl
listed_view (v ∷ vs) = ap (λ ds. view v ∷ ds) (listed_view vs)

-- what an array's slice holds are its items
pub items_are : (d : Data) (vs : List Value) → as_array d ≡ Some (items_view vs) → items_in d ≡ Some (map view vs)
unfolding items_in
items_are (array ds) vs e = ap Some (ap listed (same_Some _ _ e) ∙ listed_view vs)
items_are (table s) t e = cc
items_are (string s) t e = cc
items_are (integer s) t e = cc
items_are (float s) t e = cc
items_are (boolean s) t e = cc
items_are (datetime s) t e = cc

pub no_items_are : (d : Data) → as_array d ≡ None → items_in d ≡ None
unfolding items_in
no_items_are (array ds) e = cc
no_items_are (table s) e = refl
no_items_are (string s) e = refl
no_items_are (integer s) e = refl
no_items_are (float s) e = refl
no_items_are (boolean s) e = refl
no_items_are (datetime s) e = refl
