-- The values of positions, one after the other.
use Rattle.std.proofs.Common.{◌≡◌, ℕ, ◌+◌, ◌-◌, ◌<◌, List, [], ◌∷◌, ◌++◌, map, take, length, Some, None, slice_get, refl, sym, ap, ◌∙◌, arith}
use Rattle.std.proofs.lemmas.List.{map-append, take_all}
use Rattle.vet_base.proofs.Fronts.{front_at, none_beyond}
use Rattle.app_machine.specs.Heap.{Value}
use Rattle.runner_state.specs.declared.value.Held.{Held}
use Rattle.runner_state.specs.Shown.{value_of}

-- these are the values of the first registers
abbrev pub AreValues : (ℕ → Value) → List ℕ → List Held → Type 0
AreValues registers places values = map value_of values ≡ map registers (take (length values) places)

one_longer : {A : Type 0} (xs : List A) (x : A) → length (xs ++ x ∷ []) ≡ length xs + 1
one_longer [] x = refl
one_longer (y ∷ xs) x = let later : length (xs ++ x ∷ []) ≡ length xs + 1 = one_longer xs x in omega (arith, later)

module _ (registers : ℕ → Value) (places : List ℕ) where
  pub no_values : (values : List Held) → values ≡ [] → AreValues registers places values
  no_values values none = ap (map value_of) none ∙ sym (ap (λ (vs : List Held). map registers (take (length vs) places)) none)

  pub value_more : (values new : List Held) (held : Held) (register n : ℕ) → n ≡ length values → Some register ≡ slice_get places n → value_of held ≡ registers register → new ≡ values ++ held ∷ [] → AreValues registers places values → AreValues registers places new
  value_more values new held register n many there is more so_far =
      ap (map value_of) more
      ∙ (map-append value_of values (held ∷ [])
      ∙ (ap (λ vs. vs ++ value_of held ∷ []) so_far
      ∙ (ap (λ v. map registers (take (length values) places) ++ v ∷ []) is
      ∙ (sym (map-append registers (take (length values) places) (register ∷ []))
      ∙ (ap (map registers) (sym (front_at places (length values) register (sym (there ∙ ap (slice_get places) many))))
      ∙ ap (λ n. map registers (take n places)) (sym (ap length more ∙ one_longer values held)))))))

  pub all_values : (values : List Held) (n : ℕ) → n ≡ length values → None ≡ slice_get places n → AreValues registers places values → map value_of values ≡ map registers places
  all_values values n many none so_far = so_far ∙ ap (map registers) (take_all (length values) places (none_beyond places (length values) (sym (none ∙ ap (slice_get places) many))))

pub value_nearer : (args : List ℕ) (values new : List Held) (held : Held) (n : ℕ) → n ≡ length values → n < length args → new ≡ values ++ held ∷ [] → length args - length new < length args - length values
value_nearer args values new held n many within more = let longer : length new ≡ length values + 1 = ap length more ∙ one_longer values held in omega (arith, longer, many, within)
