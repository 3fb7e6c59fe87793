-- Which events of a life come, and what is met at an index.
use Rattle.std.proofs.Common.{◌≡◌, ◌==◌, ℕ, zero, suc, ◌+◌, ◌-◌, ◌<◌, ◌≤◌, Bool, true, false, cond, List, [], ◌∷◌, ◌++◌, map, take, drop, length, get_or, filter_map, Option, Some, None, slice_get, refl, sym, ap, ◌∙◌, arith, eq-eqb}
use Rattle.std.specs.Prelude.{option_to_list}
use Rattle.std.proofs.lemmas.Bool.{ne_eqb}
use Rattle.std.proofs.lemmas.List.{length-append, length-map, take-append-drop, take_all}
use Rattle.std.proofs.lemmas.List.Elements.{filter_map-append}
use Rattle.vet_base.proofs.Lists.{slice_get-append}
use Rattle.app_machine.specs.Names.{Name}
use Rattle.app_machine.specs.State.{World, ComponentState}
use Rattle.played_machine.specs.Coming.{Event, Initialiser}
use Rattle.runner_choices.specs.declared.choice.Met.{Met}
use Rattle.runner_choices.specs.declared.choice.Met.TheVariants.{Here, Past}
use Rattle.runner_choices.specs.declared.lives.LifeRow.{LifeRow}
use Rattle.runner_choices.specs.Choices.{born_by, by_state, called_back, life_with, lived_by}
use Rattle.runner_choices.specs.Meeting.{MeetsAt}
use Rattle.runner_choices.proofs.Lists.{filter_map_next}

module _ (w : World) (c : ℕ) (class : Name) (begins : Bool) (row : LifeRow) (state : ℕ) (is : state ≡ (w.components c).state) where
  abbrev by_tests : Bool → Bool → Bool → Option Event
  by_tests here absent may = cond here (cond absent (cond may (Some (born_by w c class row.to row.body)) None) (Some (lived_by w c row.to row.body))) None

  comes_here : row.from ≡ state → life_with w c class begins row ≡ by_tests true (row.from == 0) begins
  comes_here same = ap (λ b. by_tests b (row.from == 0) begins) (eq-eqb row.from (w.components c).state (same ∙ is))

  pub other_state : (row.from ≡ state → ⊥) → None ≡ life_with w c class begins row
  other_state other = sym (ap (λ b. by_tests b (row.from == 0) begins) (ne_eqb row.from (w.components c).state (λ same. other (same ∙ sym is))))

  pub goes_on : row.from ≡ state → (row.from ≡ 0 → ⊥) → Some (lived_by w c row.to row.body) ≡ life_with w c class begins row
  goes_on same there = sym (comes_here same ∙ ap (λ b. by_tests true b begins) (ne_eqb row.from 0 there))

  pub comes_to_life : row.from ≡ state → row.from ≡ 0 → begins ≡ true → Some (born_by w c class row.to row.body) ≡ life_with w c class begins row
  comes_to_life same absent may = sym (comes_here same ∙ (ap (λ b. by_tests true b begins) (eq-eqb row.from 0 absent) ∙ ap (by_tests true true) may))

  pub may_not_begin : row.from ≡ state → row.from ≡ 0 → begins ≡ false → None ≡ life_with w c class begins row
  may_not_begin same absent may = sym (comes_here same ∙ (ap (λ b. by_tests true b begins) (eq-eqb row.from 0 absent) ∙ ap (by_tests true true) may))

-- how many of the first so many give something
pub none_counted : {A : Type 0} (f : A → Option Event) (xs : List A) → (0 ≡ length (filter_map f (take 0 xs))) × (0 ≤ 0)
none_counted f xs = (refl, omega arith)

pub one_counted : {A : Type 0} (f : A → Option Event) (xs : List A) (i : ℕ) (d : A) (count more : ℕ) → i < length xs → more ≡ length (option_to_list (f (get_or xs i d))) → more ≤ 1 →
    (count ≡ length (filter_map f (take i xs))) × (count ≤ i) → (count + more ≡ length (filter_map f (take (i + 1) xs))) × (count + more ≤ i + 1)
one_counted f xs i d count more within is few so_far =
    let next = ap length (filter_map_next f xs i d within) ∙ length-append (filter_map f (take i xs)) (option_to_list (f (get_or xs i d))) in
    let counted = so_far.0 in
    let below = so_far.1 in
    (omega (arith, next, counted, is), omega (arith, below, few))

-- what is met behind some events is met among all
module _ (w : World) where
  pub past_some : (xs ys : List Event) (i left : ℕ) → i ≡ length xs + left → slice_get (xs ++ ys) i ≡ slice_get ys left
  past_some [] ys i left is = let same : i ≡ left = omega (arith, is) in ap (slice_get ys) same
  past_some (x ∷ xs) ys zero left is = absurd (omega (arith, is))
  past_some (x ∷ xs) ys (suc i) left is = past_some xs ys i left (omega (arith, is))

  pub met_behind : (xs ys : List Event) (i left : ℕ) (met : Met) → i ≡ length xs + left → MeetsAt w ys left met → MeetsAt w (xs ++ ys) i met
  met_behind xs ys i left (Here choice) is here = past_some xs ys i left is ∙ here
  met_behind xs ys i left (Past further) is past = let long = length-append xs ys in omega (arith, is, past, long)

  pub met_before : (xs ys : List Event) (i : ℕ) (event : Event) → slice_get xs i ≡ Some event → slice_get (xs ++ ys) i ≡ Some event
  met_before xs ys i event is = slice_get-append xs ys i event is

  -- one event that may come or not
  pub no_event : (o : Option Event) (i : ℕ) → o ≡ None → i ≡ length (option_to_list o) + i
  no_event o i none = let long = ap (λ p. length (option_to_list p)) none in omega (arith, long)

  pub one_event : (o : Option Event) (event : Event) (i : ℕ) → i ≡ 0 → o ≡ Some event → slice_get (option_to_list o) i ≡ Some event
  one_event o event i first is = ap (slice_get (option_to_list o)) first ∙ ap (λ p. slice_get (option_to_list p) 0) is

  pub past_one : (o : Option Event) (event : Event) (i left : ℕ) → (i ≡ 0 → ⊥) → o ≡ Some event → left ≡ i - 1 → i ≡ length (option_to_list o) + left
  past_one o event i left more is rest = let long = ap (λ p. length (option_to_list p)) is in omega (arith, long, more, rest)

  -- one of a list
  pub at_index : {A : Type 0} (f : A → Event) (xs : List A) (i : ℕ) (d : A) → i < length xs → slice_get (map f xs) i ≡ Some (f (get_or xs i d))
  at_index f [] i d within = absurd (omega (arith, within))
  at_index f (x ∷ xs) zero d within = refl
  at_index f (x ∷ xs) (suc i) d within = at_index f xs i d (omega (arith, within))

  pub past_index : {A : Type 0} (f : A → Event) (xs : List A) (i left : ℕ) → length xs ≤ i → left ≡ i - length xs → i ≡ length (map f xs) + left
  past_index f xs i left past is = let long = length-map xs f in omega (arith, long, past, is)

  -- of a loop over rows
  pub met_in : {A : Type 0} (f : A → Option Event) (xs : List A) (i : ℕ) (d : A) (index left : ℕ) (event : Event) → i < length xs → index ≡ length (filter_map f (take i xs)) + left →
      slice_get (option_to_list (f (get_or xs i d))) left ≡ Some event → slice_get (filter_map f xs) index ≡ Some event
  met_in f xs i d index left event within so_far here =
      ap (λ ys. slice_get (filter_map f ys) index) (sym (take-append-drop (i + 1) xs))
      ∙ (ap (λ ys. slice_get ys index) (filter_map-append f (take (i + 1) xs) (drop (i + 1) xs))
      ∙ met_before (filter_map f (take (i + 1) xs)) (filter_map f (drop (i + 1) xs)) index event
      (ap (λ ys. slice_get ys index) (filter_map_next f xs i d within) ∙ (past_some (filter_map f (take i xs)) (option_to_list (f (get_or xs i d))) index left so_far ∙ here)))

  pub past_more : {A : Type 0} (f : A → Option Event) (xs : List A) (i : ℕ) (d : A) (index left rest : ℕ) → i < length xs → index ≡ length (filter_map f (take i xs)) + left →
      left ≡ length (option_to_list (f (get_or xs i d))) + rest → index ≡ length (filter_map f (take (i + 1) xs)) + rest
  past_more f xs i d index left rest within so_far past =
      let next = ap length (filter_map_next f xs i d within) ∙ length-append (filter_map f (take i xs)) (option_to_list (f (get_or xs i d))) in
      omega (arith, next, so_far, past)

  pub past_all : {A : Type 0} (f : A → Option Event) (xs : List A) (i index left : ℕ) → length xs ≤ i → index ≡ length (filter_map f (take i xs)) + left → index ≡ length (filter_map f xs) + left
  past_all f xs i index left past so_far = so_far ∙ ap (λ ys. length (filter_map f ys) + left) (take_all i xs past)

  -- the state of a component decides
  pub absent_count : (s : ComponentState) (begins : Bool) (called : List (List (ℕ × ℕ) × ℕ)) (bodies : List ℕ) → s.state ≡ 0 → by_state w s begins called bodies ≡ cond begins (map (λ body. Initialiser body) bodies) []
  absent_count s begins called bodies absent = ap (λ b. cond b (cond begins (map (λ body. Initialiser body) bodies) []) (map (called_back w s.place) called)) (eq-eqb s.state 0 absent)

  pub there_count : (s : ComponentState) (begins : Bool) (called : List (List (ℕ × ℕ) × ℕ)) (bodies : List ℕ) → (s.state ≡ 0 → ⊥) → by_state w s begins called bodies ≡ map (called_back w s.place) called
  there_count s begins called bodies there = ap (λ b. cond b (cond begins (map (λ body. Initialiser body) bodies) []) (map (called_back w s.place) called)) (ne_eqb s.state 0 there)
