-- The loop that decodes texts one after the other.
use Rattle.std.proofs.Common.{◌≡◌, ℕ, suc, ◌+◌, ◌<◌, ◌≤◌, List, [], ◌∷◌, ◌++◌, length, map, drop, get_or, Option, Some, None, option_map, refl, ap, sym, ◌∙◌, arith, append_assoc, append-nil, add-one}
use Rattle.std.proofs.lemmas.List.{drop_all}
use Rattle.std.proofs.Math.Seq.{drop-cons}
use Rattle.serde_json.specs.View.{view}
use Rattle.serde_json.specs.declared.value.Value.{Value}
use Rattle.desk_routes.specs.Bodies.{decoded, all_decoded}

-- what was decoded, and what is decoded of the values from here on, make the whole
pub record Continues (front : List (List ℕ)) (values : List Value) (i : ℕ) (whole : Option (List (List ℕ))) : Type 0 where
  pub is : option_map (λ others. front ++ others) (all_decoded (map view (drop i values))) ≡ whole

none_before : (found : Option (List (List ℕ))) → option_map (λ others. [] ++ others) found ≡ found
none_before None = refl
none_before (Some others) = refl

pub begins : (values : List Value) → Continues [] values 0 (all_decoded (map view values))
begins values = record { is = none_before (all_decoded (map view values)) }

regroup : (front : List (List ℕ)) (bytes : List ℕ) (found : Option (List (List ℕ)))
    → option_map (λ others. front ++ others) (option_map (λ others. bytes ∷ others) found)
    ≡ option_map (λ others. (front ++ bytes ∷ []) ++ others) found
regroup front bytes None = refl
regroup front bytes (Some others) = ap Some (sym (append_assoc front (bytes ∷ []) others))

here : (values : List Value) (i : ℕ) (value : Value) → i < length values → value ≡ get_or values i value
    → map view (drop i values) ≡ view value ∷ map view (drop (i + 1) values)
here values i value within at =
    let cut : drop i values ≡ get_or values i value ∷ drop (suc i) values = drop-cons values i value within in
    rw (cut, add-one, ← at) refl

pub goes_on : (front : List (List ℕ)) (values : List Value) (i : ℕ) (value : Value) (bytes : List ℕ) (whole : Option (List (List ℕ)))
    → i < length values → value ≡ get_or values i value → decoded (view value) ≡ Some bytes
    → Continues front values i whole → Continues (front ++ bytes ∷ []) values (i + 1) whole
goes_on front values i value bytes whole within at one so_far =
    let step : option_map (λ others. front ++ others) (all_decoded (map view (drop i values)))
    ≡ option_map (λ others. (front ++ bytes ∷ []) ++ others) (all_decoded (map view (drop (i + 1) values))) =
    rw (here values i value within at, one) (regroup front bytes (all_decoded (map view (drop (i + 1) values)))) in
    record { is = sym step ∙ so_far.is }

pub stops : (front : List (List ℕ)) (values : List Value) (i : ℕ) (value : Value) (whole : Option (List (List ℕ)))
    → i < length values → value ≡ get_or values i value → decoded (view value) ≡ None
    → Continues front values i whole → whole ≡ None
stops front values i value whole within at one so_far =
    let step : option_map (λ others. front ++ others) (all_decoded (map view (drop i values))) ≡ None =
    rw (here values i value within at, one) refl in
    sym so_far.is ∙ step

pub is_done : (front : List (List ℕ)) (values : List Value) (i : ℕ) (whole : Option (List (List ℕ)))
    → length values ≤ i → Continues front values i whole → whole ≡ Some front
is_done front values i whole over so_far =
    let step : option_map (λ others. front ++ others) (all_decoded (map view (drop i values))) ≡ Some front =
    rw (drop_all i values over) (ap Some (append-nil front)) in
    sym so_far.is ∙ step
