-- How many are kept, and one by its index.
use Rattle.std.proofs.Common.{◌≡◌, ℕ, zero, suc, ◌+◌, ◌-◌, ◌<◌, ◌≤◌, List, [], ◌∷◌, ◌++◌, map, length, get_or, flat_map, Some, None, slice_get, refl, sym, ap, ◌∙◌, arith, append-nil}
use Rattle.std.specs.declared.vec.Vec.{Vec}
use Rattle.std.proofs.lemmas.Grind.{flat_map-append}
use Rattle.std.proofs.lemmas.List.{length-append, length-map}
use Rattle.std.proofs.lemmas.Option.{slice_get_past, slice_get_read}
use Rattle.app_machine.specs.declared.lists.Lists.{Lists}
use Rattle.app_machine.specs.State.{World}
use Rattle.app_machine.specs.Summaries.{numbers_from}
use Rattle.played_machine.specs.Coming.{Event}
use Rattle.runner_choices.proofs.Lists.{numbers_next}
use Rattle.runner_choices.proofs.Lived.{at_index, met_before, past_some}
use Rattle.runner_handed.specs.declared.adding.Reached.{Reached}
use Rattle.runner_handed.specs.Reached.{items_of, kept_of, reached_event}

pub numbers_split : (s a b : ℕ) → numbers_from s (a + b) ≡ numbers_from s a ++ numbers_from (s + a) b
numbers_split s zero b = let one : zero + b ≡ b = omega arith in let other : s ≡ s + zero = omega arith in ap (numbers_from s) one ∙ ap (λ k. numbers_from k b) other
numbers_split s (suc a) b =
    let one : suc a + b ≡ suc (a + b) = omega arith in
    let other : s + 1 + a ≡ s + suc a = omega arith in
    ap (numbers_from s) one ∙ ap (λ ks. s ∷ ks) (numbers_split (s + 1) a b ∙ ap (λ k. numbers_from (s + 1) a ++ numbers_from k b) other)

module _ {B : Type 0} (f : ℕ → List B) where
  pub flat_next : (n : ℕ) → flat_map f (numbers_from 0 (n + 1)) ≡ flat_map f (numbers_from 0 n) ++ f n
  flat_next n =
      ap (flat_map f) (numbers_next n)
      ∙ (flat_map-append f (numbers_from 0 n) (n ∷ []) ∙ ap (λ xs. flat_map f (numbers_from 0 n) ++ xs) (append-nil (f n)))

  pub flat_split : (k n : ℕ) → k ≤ n → (more : List B) × (flat_map f (numbers_from 0 n) ≡ flat_map f (numbers_from 0 k) ++ more)
  flat_split k n le =
      let same : n ≡ k + (n - k) = omega (arith, le) in (
        flat_map f (numbers_from (0 + k) (n - k)),
        ap (λ m. flat_map f (numbers_from 0 m)) same
            ∙ (ap (flat_map f) (numbers_split 0 k (n - k)) ∙ flat_map-append f (numbers_from 0 k) (numbers_from (0 + k) (n - k))),
      )

module _ {A : Type 0} (rows : List (Vec Reached A)) where
  abbrev pub row_events : World → Lists → ℕ → List Event
  row_events w lists q = map (reached_event w lists q) (kept_of rows q)

  kept_read : (q : ℕ) (row : Vec Reached A) → q < length rows → row ≡ get_or rows q row → kept_of rows q ≡ row.items
  kept_read q row within is = ap items_of (slice_get_read rows (length rows) q row refl within is)

  row_long : (w : World) (lists : Lists) (q : ℕ) (row : Vec Reached A) → q < length rows → row ≡ get_or rows q row → length (row_events w lists q) ≡ length row.items
  row_long w lists q row within is = length-map (kept_of rows q) (reached_event w lists q) ∙ ap length (kept_read q row within is)

  -- so many are in the first rows
  pub row_counted : (q count all : ℕ) (row : Vec Reached A) → q < length rows → row ≡ get_or rows q row → all ≡ count + length row.items →
      ((w : World) (lists : Lists) → count ≡ length (flat_map (row_events w lists) (numbers_from 0 q))) → (w : World) (lists : Lists) → all ≡ length (flat_map (row_events w lists) (numbers_from 0 (q + 1)))
  row_counted q count all row within is sum so_far w lists =
      let next = ap length (flat_next (row_events w lists) q) ∙ length-append (flat_map (row_events w lists) (numbers_from 0 q)) (row_events w lists q) in
      let before = so_far w lists in
      let long = row_long w lists q row within is in
      omega (arith, next, before, long, sum)

  pub rows_counted : (q count : ℕ) → q ≤ length rows → length rows ≤ q → ((w : World) (lists : Lists) → count ≡ length (flat_map (row_events w lists) (numbers_from 0 q))) → (w : World) (lists : Lists) → count ≡ length (flat_map (row_events w lists) (numbers_from 0 (length rows)))
  rows_counted q count le ge so_far w lists = let same : q ≡ length rows = omega (arith, le, ge) in so_far w lists ∙ ap (λ n. length (flat_map (row_events w lists) (numbers_from 0 n))) same

  module _ (w : World) (lists : Lists) where
    pub met_here : (q index left : ℕ) (row : Vec Reached A) (d : Reached) → q < length rows → row ≡ get_or rows q row → index ≡ length (flat_map (row_events w lists) (numbers_from 0 q)) + left → left < length row.items →
        slice_get (flat_map (row_events w lists) (numbers_from 0 (length rows))) index ≡ Some (reached_event w lists q (get_or row.items left d))
    met_here q index left row d within is so_far below =
        let split = flat_split (row_events w lists) (q + 1) (length rows) (omega (arith, within)) in
        ap (λ xs. slice_get xs index) split.1
        ∙ met_before w (flat_map (row_events w lists) (numbers_from 0 (q + 1))) split.0 index (reached_event w lists q (get_or row.items left d))
        (ap (λ xs. slice_get xs index) (flat_next (row_events w lists) q)
        ∙ (past_some w (flat_map (row_events w lists) (numbers_from 0 q)) (row_events w lists q) index left so_far
        ∙ (ap (λ xs. slice_get (map (reached_event w lists q) xs) left) (kept_read q row within is)
        ∙ at_index w (reached_event w lists q) row.items left d below)))

    pub met_further : (q index left rest : ℕ) (row : Vec Reached A) → q < length rows → row ≡ get_or rows q row → length row.items ≤ left → rest ≡ left - length row.items →
        index ≡ length (flat_map (row_events w lists) (numbers_from 0 q)) + left → index ≡ length (flat_map (row_events w lists) (numbers_from 0 (q + 1))) + rest
    met_further q index left rest row within is past sub so_far =
        let next = ap length (flat_next (row_events w lists) q) ∙ length-append (flat_map (row_events w lists) (numbers_from 0 q)) (row_events w lists q) in
        let long = row_long w lists q row within is in
        omega (arith, next, long, past, sub, so_far)

    pub met_none : (q index left : ℕ) → q ≤ length rows → length rows ≤ q → index ≡ length (flat_map (row_events w lists) (numbers_from 0 q)) + left → None ≡ slice_get (flat_map (row_events w lists) (numbers_from 0 (length rows))) index
    met_none q index left le ge so_far =
        let same : q ≡ length rows = omega (arith, le, ge) in
        let all = ap (λ n. length (flat_map (row_events w lists) (numbers_from 0 n))) same in
        sym (slice_get_past (flat_map (row_events w lists) (numbers_from 0 (length rows))) index (omega (arith, so_far, all)))
