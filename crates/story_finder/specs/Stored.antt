-- The place of a row among rows of which each stands once.
use Rattle.std.proofs.Common.{◌≡◌, ◌↔◌, ℕ, zero, suc, Bool, true, false, cond, List, [], ◌∷◌, Some, option_map, slice_get, refl, sym, ap, subst}
use Rattle.std.proofs.lemmas.Option.{none-some, same_Some}
use Rattle.vet_base.specs.Apart.{Apart}
use Rattle.vet_base.specs.Members.{In}
use Rattle.vet_base.proofs.Firsts.{index_found}
use Rattle.vet_base.proofs.Members.{in_slice_get}
use Rattle.fact_rows.specs.declared.row.Row.{Row}
use Rattle.fact_rows.specs.contracts.row.RowPartialEq.TheImpl.{ghosts as row_eq}
use Rattle.fact_rows.specs.contracts.row.RowEq.TheImpl.Laws.{laws-law}
use Rattle.flow_trail.specs.Placing.{place_in, row_same}

-- where the row stands is the first place at which it does
found_once : (rows : List Row) → Apart rows → (row : Row) (place : ℕ) → slice_get rows place ≡ Some row → place_in rows row ≡ Some place
found_once [] apart row place at = absurd (none-some row at)
found_once (x ∷ xs) apart row zero at = by_test (row_eq.eq row x) here
  where
    here : row_eq.eq row x ≡ true
    here = subst (λ z. row_eq.eq row z ≡ true) (sym (same_Some x row at)) (laws-law.refl row)

    by_test : (b : Bool) → b ≡ true → cond b (Some 0) (option_map suc (place_in xs row)) ≡ Some 0
    by_test true is = refl
    by_test false is = absurd cc
found_once (x ∷ xs) apart row (suc place) at = by_test (row_eq.eq row x) refl (found_once xs apart.1 row place at)
  where
    by_test : (b : Bool) → row_eq.eq row x ≡ b → place_in xs row ≡ Some place → cond b (Some 0) (option_map suc (place_in xs row)) ≡ Some (suc place)
    by_test true is later = absurd (apart.0 (subst (λ z. In z xs) (row_same row x is) (in_slice_get xs place row at)))
    by_test false is later = ap (option_map suc) later

-- it is the place at which the row stands
pub finds_apart : (rows : List Row) → Apart rows → (row : Row) (place : ℕ) → place_in rows row ≡ Some place ↔ slice_get rows place ≡ Some row
finds_apart rows apart row place = (
  λ e. let f = index_found (row_eq.eq row) rows place e in subst (λ z. slice_get rows place ≡ Some z) (sym (row_same row f.0 f.2)) f.1,
  λ at. found_once rows apart row place at,
)
