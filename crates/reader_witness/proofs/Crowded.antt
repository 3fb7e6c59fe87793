-- An index of a method with a crowd of readers lists them all.
use Rattle.std.proofs.Common.{◌≡◌, ◌≢◌, ◌==◌, ℕ, zero, suc, ◌+◌, ◌<◌, ◌≤◌, Bool, true, false, not, cond, List, [], ◌∷◌, length, filter, find, inl, Some, None, refl, ap, sym, ◌∙◌, subst, eq-eqb, eqb-true, arith}
use Rattle.std.proofs.lemmas.List.Filters.{length-filter_both}
use Rattle.vet_base.specs.Members.{In}
use Rattle.vet_base.proofs.Every.{in_filter}
use Rattle.app_machine.specs.declared.method.Step.{Step}
use Rattle.app_machine.specs.declared.method.Act.TheVariants.{Move, New}
use Rattle.app_machine.specs.declared.app.App.{App}
use Rattle.app_machine.specs.Lookups.{step_at}
use Rattle.machine_witness.specs.Apps.{step}
use Rattle.machine_witness.specs.Acts.{ints}
use Rattle.machine_witness.specs.Flows.{activity_of}
use Rattle.machine_witness.proofs.Acting.{act_of, next_of}
use Rattle.cell_rules.specs.Reading.{ReadAt, read_here, read_next}
use Rattle.register_readers.specs.Asked.{IsAsked, behind}
use Rattle.register_readers.specs.Readings.{readers_from}
use Rattle.reader_witness.specs.Listed.{moves_from, crowded_app, CrowdsAreRefused}

-- A list that has n numbers, 1 to n, is as long.
other_than : ℕ → List ℕ → List ℕ
other_than n xs = filter (λ x. not (x == n)) xs

one_at_least : (xs : List ℕ) (n : ℕ) → In n xs → 1 ≤ length xs
one_at_least [] n none = absurd none
one_at_least (x ∷ xs) n at = omega arith

eqb_off : (a b : ℕ) → a ≢ b → (a == b) ≡ false
eqb_off a b apart = by (a == b) refl
  where
    by : (t : Bool) → (a == b) ≡ t → (a == b) ≡ false
    by true is = absurd (apart (eqb-true a b is))
    by false is = is

as_long : (n : ℕ) (xs : List ℕ) → ((k : ℕ) → 1 ≤ k → k ≤ n → In k xs) → n ≤ length xs
unfolding other_than
as_long zero xs all = omega arith
as_long (suc n) xs all =
    let more = as_long n (other_than (suc n) xs) (λ k low high. in_filter (λ x. not (x == suc n)) k xs (ap not (eqb_off k (suc n) (λ e. omega (arith, high, e)))) (all k low (omega (arith, high)))) in
    let here = one_at_least (filter (λ x. x == suc n) xs) (suc n) (in_filter (λ x. x == suc n) (suc n) xs (eq-eqb (suc n) (suc n) refl) (all (suc n) (omega arith) (omega arith))) in
    let both = length-filter_both (λ x. x == suc n) (λ x. not (x == suc n)) (λ x. refl) xs in
    omega (arith, more, here, both)

-- the step at each place of the crowd
found : (from count k : ℕ) → k < count → find (λ (s : Step). s.pc == from + k) (moves_from from count) ≡ Some (step (from + k) (Move (1 ∷ []) 0) (suc (from + k) ∷ []))
found from zero k within = absurd (omega (arith, within))
found from (suc count) zero within =
    let same : from + 0 ≡ from = omega arith in
    ap (λ b. cond b (Some (step from (Move (1 ∷ []) 0) (suc from ∷ []))) (find (λ (s : Step). s.pc == from + 0) (moves_from (suc from) count))) (eq-eqb from (from + 0) (sym same))
    ∙ ap (λ v. Some (step v (Move (1 ∷ []) 0) (suc v ∷ []))) (sym same)
found from (suc count) (suc k) within =
    let same : from + suc k ≡ suc from + k = omega arith in
    ap (λ b. cond b (Some (step from (Move (1 ∷ []) 0) (suc from ∷ []))) (find (λ (s : Step). s.pc == from + suc k) (moves_from (suc from) count))) (eqb_off from (from + suc k) (λ e. omega (arith, e)))
    ∙ subst (λ v. find (λ (s : Step). s.pc == v) (moves_from (suc from) count) ≡ Some (step v (Move (1 ∷ []) 0) (suc v ∷ []))) (sym same) (found (suc from) count k (omega (arith, within)))

module _ (count : ℕ) where
  abbrev crowd : App
  crowd = crowded_app count

  step_there : (k : ℕ) → k < count → step_at crowd 0 (1 + k) ≡ Some (step (1 + k) (Move (1 ∷ []) 0) (suc (1 + k) ∷ []))
  unfolding activity_of step_at
  step_there k within =
      ap (λ b. cond b (Some (step 0 (New 0 ints None) (1 ∷ []))) (find (λ (s : Step). s.pc == 1 + k) (moves_from 1 count))) (eqb_off 0 (1 + k) (λ e. omega (arith, e)))
      ∙ found 1 count k within

  read_on : (d k : ℕ) → k + d < count → ReadAt crowd 0 0 (1 + k) (1 + (k + d))
  read_on zero k within =
      let same : k ≡ k + 0 = omega arith in
      let here : k < count = omega (arith, within) in
      subst (λ j. ReadAt crowd 0 0 (1 + k) (1 + j)) same (read_here (act_of (step (1 + k) (Move (1 ∷ []) 0) (suc (1 + k) ∷ [])) (step_there k here)) (inl refl))
  read_on (suc d) k within =
      let same : suc k + d ≡ k + suc d = omega arith in
      let here : k < count = omega (arith, within) in
      let next : suc (1 + k) ≡ 1 + suc k = omega arith in
      let more : suc k + d < count = omega (arith, within) in
      read_next (act_of (step (1 + k) (Move (1 ∷ []) 0) (suc (1 + k) ∷ [])) (step_there k here)) refl
      (next_of (step (1 + k) (Move (1 ∷ []) 0) (suc (1 + k) ∷ [])) (step_there k here) (inl (sym next)))
      (subst (λ j. ReadAt crowd 0 0 (1 + suc k) (1 + j)) same (read_on d (suc k) more))

  read_each : (u : ℕ) → 1 ≤ u → u ≤ count → ReadAt crowd 0 0 1 u
  read_each zero low high = absurd (omega (arith, low))
  read_each (suc u) low high =
      let same : 1 + (0 + u) ≡ suc u = omega arith in
      let within : 0 + u < count = omega (arith, high) in
      subst (λ j. ReadAt crowd 0 0 1 j) same (read_on u 0 within)

  asked : IsAsked crowd 0 0 1
  unfolding activity_of step_at
  asked = behind {pc = 0} (act_of (step 0 (New 0 ints None) (1 ∷ [])) refl) (inl refl) (next_of (step 0 (New 0 ints None) (1 ∷ [])) refl (inl refl))

pub crowds_are_refused : CrowdsAreRefused
crowds_are_refused count many readings is are few =
    let long = as_long count (readers_from readings 0 0 1) (λ u low high. are.complete 0 0 1 u (subst (λ app. IsAsked app 0 0 1) (sym is) (asked count)) (subst (λ app. ReadAt app 0 0 1 u) (sym is) (read_each count u low high))) in
    let short = few.of_one 0 0 1 in
    omega (arith, long, short, many)
