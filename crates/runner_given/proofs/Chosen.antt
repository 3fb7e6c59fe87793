-- One of the places, in the one list or behind it.
use Rattle.std.proofs.Common.{◌≡◌, ◌+◌, ◌-◌, ◌<◌, ◌≤◌, ℕ, suc, List, ◌∷◌, ◌++◌, map, length, get_or, Some, None, slice_get, sym, ap, ◌∙◌, length-append, arith}
use Rattle.std.proofs.lemmas.List.{length-map}
use Rattle.std.proofs.lemmas.Option.{slice_get-get_or}
use Rattle.vet_base.proofs.Lists.{slice_get-append, slice_get-map_at}
use Rattle.app_machine.specs.Heap.{Value, blank}
use Rattle.played_machine.specs.Drawing.{draw, one_of}
use Rattle.runner_calls.proofs.Raising.{one_none, one_some}
use Rattle.runner_given.specs.Given.{object_there}
use Rattle.runner_below.proofs.Looked.{behind}

module _ (first others : List ℕ) where
  abbrev pub values_there : List Value
  values_there = blank ∷ map object_there (first ++ others)

  count : (n : ℕ) → n ≡ length first + length others + 1 → n ≡ length values_there
  count n is =
      let long : length (map object_there (first ++ others)) ≡ length (first ++ others) = length-map (first ++ others) object_there in
      let both : length (first ++ others) ≡ length first + length others = length-append first others in
      omega (arith, long, both, is)

  pub none_chosen : (n : ℕ) (bytes : List ℕ) → n ≡ length first + length others + 1 → None ≡ draw n bytes → None ≡ one_of values_there bytes
  none_chosen n bytes is drawn = one_none values_there n bytes (count n is) drawn

  pub some_chosen : (n : ℕ) (bytes : List ℕ) (i : ℕ) (rest : List ℕ) (v : Value) → n ≡ length first + length others + 1 → Some (i, rest) ≡ draw n bytes → Some v ≡ slice_get values_there i → Some (v, rest) ≡ one_of values_there bytes
  some_chosen n bytes i rest v is drawn there = one_some values_there n bytes (count n is) i rest v drawn (sym there)

  pub blank_first : (i : ℕ) (v : Value) → i ≡ 0 → v ≡ blank → Some v ≡ slice_get values_there i
  blank_first i v first is = ap (λ z. Some z) is ∙ sym (ap (slice_get values_there) first)

  pub place_next : (i p : ℕ) (v : Value) → 0 < i → Some p ≡ slice_get (first ++ others) (i - 1) → v ≡ object_there p → Some v ≡ slice_get values_there i
  place_next i p v above there is =
      let next : suc (i - 1) ≡ i = omega (arith, above) in
      ap (λ z. Some z) is ∙ (sym (slice_get-map_at object_there (first ++ others) (i - 1) p (sym there)) ∙ ap (slice_get values_there) next)

  pub of_first : (i : ℕ) → i < length first → Some (get_or first i 0) ≡ slice_get (first ++ others) i
  of_first i within = sym (slice_get-append first others i (get_or first i 0) (slice_get-get_or first i 0 within))

  pub of_others : (i : ℕ) → length first ≤ i → i < length first + length others → Some (get_or others (i - length first) 0) ≡ slice_get (first ++ others) i
  of_others i past within = sym (behind first others i past ∙ slice_get-get_or others (i - length first) 0 (omega (arith, past, within)))
