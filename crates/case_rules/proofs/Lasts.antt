-- The last item of a list, by its place.
use Rattle.std.proofs.Common.{◌≡◌, suc, ◌-◌, List, [], ◌∷◌, length, refl, arith}
use Rattle.std.specs.List.{slice_get}
use Rattle.case_rules.specs.Cases.{last}

pub last_by_place : {X : Type 0} (xs : List X) → slice_get xs (length xs - 1) ≡ last xs
last_by_place [] = refl
last_by_place (x ∷ []) = refl
last_by_place (x ∷ y ∷ xs) =
    let place : length (x ∷ y ∷ xs) - 1 ≡ suc (length (y ∷ xs) - 1) = omega arith in
    rw place (last_by_place (y ∷ xs))
