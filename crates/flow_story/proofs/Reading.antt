-- What a line names and gives, as the checker reads it, is what the definition of a right line says.
use Rattle.std.proofs.Common.{◌≡◌, ◌≢◌, ◌⊎◌, ◌↔◌, ℕ, zero, suc, ◌-◌, Bool, true, false, IsTrue, List, [], ◌∷◌, map, Option, Some, None, option_map, slice_get, refl, sym, ap, subst, ◌∙◌, inl, inr, arith}
use Rattle.std.proofs.lemmas.Option.{none-some, same_Some}
use Rattle.fact_rows.specs.declared.row.Row.{Row}
use Rattle.flow_story.specs.declared.line.Numbers.{Numbers}
use Rattle.flow_story.specs.declared.line.Numbers.TheVariants as numbers
use Rattle.flow_story.specs.declared.line.StoryLine.{StoryLine}
use Rattle.flow_story.specs.Looking.{and_row, rows_named, Gives, IsToldStart}
use Rattle.flow_story.specs.Stories.{listed, row_of, AreRows, IsRight, a_start, by_rule}

-- a line of a number that is not 0
pub row_named : (lines : List StoryLine) (n : ℕ) → n ≢ 0 → row_of lines n ≡ option_map (λ (line : StoryLine). line.row) (slice_get lines (n - 1))
row_named lines zero some = absurd (some refl)
row_named lines (suc place) some =
    let same : place ≡ suc place - 1 = omega arith in
    ap (λ k. option_map (λ (line : StoryLine). line.row) (slice_get lines k)) same

option_row : (o : Option StoryLine) (row : Row) → option_map (λ (line : StoryLine). line.row) o ≡ Some row → (line : StoryLine) × (o ≡ Some line) × (line.row ≡ row)
option_row None row e = absurd (none-some row e)
option_row (Some line) row e = (line, refl, same_Some line.row row e)

pub named_line : (lines : List StoryLine) (n : ℕ) (row : Row) → row_of lines n ≡ Some row → (place : ℕ) × (n ≡ suc place) × (line : StoryLine) × (slice_get lines place ≡ Some line) × (line.row ≡ row)
named_line lines zero row e = absurd (none-some row e)
named_line lines (suc place) row e = let r = option_row (slice_get lines place) row e in (place, refl, r.0, r.1, r.2)

and_row_parts : (a : Option Row) (b : Option (List Row)) (rows : List Row) → and_row a b ≡ Some rows → (x : Row) × (xs : List Row) × (a ≡ Some x) × (b ≡ Some xs) × (rows ≡ x ∷ xs)
and_row_parts None b rows e = absurd (none-some rows e)
and_row_parts (Some x) None rows e = absurd (none-some rows e)
and_row_parts (Some x) (Some xs) rows e = (x, xs, refl, refl, sym (same_Some (x ∷ xs) rows e))

module _ (lines : List StoryLine) where
  abbrev all_rows : List ℕ → Option (List Row)
  all_rows [] = Some []
  all_rows (n ∷ ns) = and_row (row_of lines n) (all_rows ns)

  all_are : (ns : List ℕ) (rows : List Row) → AreRows lines ns rows → all_rows ns ≡ Some rows
  all_are [] [] e = refl
  all_are [] (x ∷ rows) e = absurd cc
  all_are (n ∷ ns) [] e = absurd cc
  all_are (n ∷ ns) (x ∷ rows) e =
      let h : row_of lines n ≡ Some x = cc in
      let t : all_rows ns ≡ Some rows = all_are ns rows cc in
      λ i. and_row (h i) (t i)

  all_from : (ns : List ℕ) (rows : List Row) → all_rows ns ≡ Some rows → AreRows lines ns rows
  all_from [] rows e = ap (λ (z : List Row). map (λ x. Some x) z) (same_Some [] rows e)
  all_from (n ∷ ns) rows e =
      let p = and_row_parts (row_of lines n) (all_rows ns) rows e in
      let h : row_of lines n ≡ Some p.0 = p.2 in
      let t : AreRows lines ns p.1 = all_from ns p.1 p.3 in
      subst (λ z. AreRows lines (n ∷ ns) z) (sym p.4) (λ i. h i ∷ t i)

  some_there : (n : ℕ) (ns : List ℕ) (rows : List Row) → all_rows (n ∷ ns) ≡ Some rows → rows ≢ []
  some_there n ns rows e empty =
      let p = and_row_parts (row_of lines n) (all_rows ns) rows e in
      let q : p.0 ∷ p.1 ≡ [] = sym p.4 ∙ empty in
      absurd cc

  named_are : (ns : Numbers) (rows : List Row) → AreRows lines (listed ns) rows → rows ≢ [] → rows_named lines ns ≡ Some rows
  named_are numbers.None [] e some = absurd (some refl)
  named_are numbers.None (x ∷ rows) e some = absurd cc
  named_are (numbers.One a) rows e some = all_are (a ∷ []) rows e
  named_are (numbers.Two a b) rows e some = all_are (a ∷ b ∷ []) rows e
  named_are (numbers.Three a b c) rows e some = all_are (a ∷ b ∷ c ∷ []) rows e
  named_are (numbers.Four a b c d) rows e some = all_are (a ∷ b ∷ c ∷ d ∷ []) rows e

  named_from : (ns : Numbers) (rows : List Row) → rows_named lines ns ≡ Some rows → AreRows lines (listed ns) rows × (rows ≢ [])
  named_from numbers.None rows e = absurd (none-some rows e)
  named_from (numbers.One a) rows e = (all_from (a ∷ []) rows e, some_there a [] rows e)
  named_from (numbers.Two a b) rows e = (all_from (a ∷ b ∷ []) rows e, some_there a (b ∷ []) rows e)
  named_from (numbers.Three a b c) rows e = (all_from (a ∷ b ∷ c ∷ []) rows e, some_there a (b ∷ c ∷ []) rows e)
  named_from (numbers.Four a b c d) rows e = (all_from (a ∷ b ∷ c ∷ d ∷ []) rows e, some_there a (b ∷ c ∷ d ∷ []) rows e)

gives_parts : (Rule : ℕ → List Row → Row → Type 0) (line : StoryLine) (got : Option (List Row)) → Gives Rule line got → (rows : List Row) × (got ≡ Some rows) × Rule line.rule rows line.row
gives_parts Rule line None g = absurd g
gives_parts Rule line (Some rows) g = (rows, refl, g)

module _ (Rule : ℕ → List Row → Row → Type 0) (Start : Row → Type 0) (before : List StoryLine) where
  by_start : (line : StoryLine) → IsToldStart Start line → IsRight Rule Start before line
  by_start line t =
      let rule : line.rule ≡ 0 = t.0 in
      let premises : line.premises ≡ numbers.None = t.1.0 in
      let same : record { rule = 0; premises = numbers.None; row = line.row } ≡ line = λ i. record { rule = sym rule i; premises = sym premises i; row = line.row } in
      subst (IsRight Rule Start before) same (a_start t.1.1)

  by_given : (line : StoryLine) → Gives Rule line (rows_named before line.premises) → IsRight Rule Start before line
  by_given line g =
      let s = gives_parts Rule line (rows_named before line.premises) g in
      let n = named_from before line.premises s.0 s.1 in
      by_rule s.0 n.0 n.1 s.2

  pub told_or_given : (line : StoryLine) → IsRight Rule Start before line → IsToldStart Start line ⊎ Gives Rule line (rows_named before line.premises)
  told_or_given line (a_start s) = inl (refl, (refl, s))
  told_or_given line (by_rule rows are some by) = inr (subst (Gives Rule line) (sym (named_are before line.premises rows are some)) by)

  -- the two tests of the checker
  pub right_if_told : (line : StoryLine) (told : Bool) → told ≡ true → (IsTrue told ↔ IsToldStart Start line) → IsTrue true ↔ IsRight Rule Start before line
  right_if_told line told is tells = (λ t. by_start line (tells.0 is), λ r. refl)

  pub right_if_given : (line : StoryLine) (told given : Bool) → told ≡ false → (IsTrue told ↔ IsToldStart Start line) →
      (IsTrue given ↔ Gives Rule line (rows_named before line.premises)) → IsTrue given ↔ IsRight Rule Start before line
  right_if_given line told given is tells gives = (
    λ t. by_given line (gives.0 t),
    λ r. elim (told_or_given line r) [
      | inl start ↦ let t : told ≡ true = tells.1 start in absurd cc
      | inr g ↦ gives.1 g
    ],
  )
