-- Right lines: premises stand before what follows from them.
use Rattle.std.proofs.Common.{◌≡◌, ℕ, zero, suc, ◌-◌, ◌<◌, ◌≤◌, List, [], ◌∷◌, map, length, take, Option, Some, None, option_map, slice_get, refl, ap, ◌∙◌, inl, inr, arith}
use Rattle.std.proofs.lemmas.Option.{none-some, same_Some, slice_get_within}
use Rattle.vet_base.specs.Members.{In}
use Rattle.fact_rows.specs.declared.row.Row.{Row}
use Rattle.flow_story.specs.declared.line.StoryLine.{StoryLine}
use Rattle.flow_story.specs.Stories.{AreRight, IsRight, a_start, by_rule, listed, row_of}
use Rattle.story_finder.specs.Cutting.{AreBefore, line_named, premises_by}

-- a line by its number
pub line_is : (lines : List StoryLine) (n : ℕ) → line_named lines (suc n) ≡ slice_get lines n
line_is lines n = refl

pub named_is : (lines : List StoryLine) (n : ℕ) (line : StoryLine) → line_named lines n ≡ Some line → (place : ℕ) × ((n ≡ suc place) × (slice_get lines place ≡ Some line))
named_is lines zero line is = absurd (none-some line is)
named_is lines (suc n) line is = (n, (refl, is))

pub row_is : (lines : List StoryLine) (n : ℕ) → row_of lines (suc n) ≡ option_map (λ (line : StoryLine). line.row) (slice_get lines n)
row_is lines n = refl

row_read : (o : Option StoryLine) (row : Row) → option_map (λ (line : StoryLine). line.row) o ≡ Some row → (line : StoryLine) × ((o ≡ Some line) × (line.row ≡ row))
row_read None row is = absurd (none-some row is)
row_read (Some line) row is = (line, (refl, same_Some line.row row is))

-- where the number is not 0
pub named_below : (lines : List StoryLine) (n : ℕ) → (n ≡ 0 → ⊥) → line_named lines n ≡ slice_get lines (n - 1)
named_below lines zero some = absurd (some refl)
named_below lines (suc n) some = let e : n ≡ suc n - 1 = omega arith in ap (slice_get lines) e

-- a row of a numbered line
pub row_named : (lines : List StoryLine) (n : ℕ) (row : Row) → row_of lines n ≡ Some row → (place : ℕ) × ((n ≡ suc place) × ((line : StoryLine) × ((slice_get lines place ≡ Some line) × (line.row ≡ row))))
row_named lines zero row is = absurd (none-some row is)
row_named lines (suc n) row is = (n, (refl, row_read (slice_get lines n) row is))

-- each number that is named has its row
pub each_named : (f : ℕ → Option Row) (ns : List ℕ) (rows : List Row) → map f ns ≡ map (λ (row : Row). Some row) rows → (n : ℕ) → In n ns → (row : Row) × (f n ≡ Some row)
each_named f [] rows is n none = absurd none
each_named f (m ∷ ns) [] is n i = absurd cc
each_named f (m ∷ ns) (row ∷ rows) is n (inl same) = let e : f m ≡ Some row = cc in (row, ap f same ∙ e)
each_named f (m ∷ ns) (row ∷ rows) is n (inr later) = let rest : map f ns ≡ map (λ (r : Row). Some r) rows = cc in each_named f ns rows rest n later

module _ (Rule : ℕ → List Row → Row → Type 0) (Start : Row → Type 0) where
  premises_before : (lines : List StoryLine) (place : ℕ) (line : StoryLine) → IsRight Rule Start (take place lines) line → (premise : ℕ) → In premise (listed line.premises) → (0 < premise) × (premise ≤ place)
  premises_before lines place line (a_start start) premise none = absurd none
  premises_before lines place line (by_rule rows stand some follows) premise i =
      let r = each_named (row_of (take place lines)) (listed line.premises) rows stand premise i in
      let l = row_named (take place lines) premise r.0 r.1 in
      let within : l.0 < length (take place lines) = slice_get_within (take place lines) l.0 l.1.1.0 l.1.1.1.0 in
      let is : premise ≡ suc l.0 = l.1.0 in
      let count : length (take place lines) ≤ place = front_count place lines in
      (omega (arith, is), omega (arith, is, within, count))
    where
      front_count : (n : ℕ) (xs : List StoryLine) → length (take n xs) ≤ n
      front_count zero xs = omega arith
      front_count (suc n) [] = omega arith
      front_count (suc n) (x ∷ xs) = let rest : length (take n xs) ≤ n = front_count n xs in omega (arith, rest)

  pub right_before : (lines : List StoryLine) → AreRight Rule Start (length lines) lines → AreBefore lines
  right_before lines right = record { each = λ n premise i. by_line n premise (line_named lines n) refl i }
    where
      by_line : (n premise : ℕ) (o : Option StoryLine) → line_named lines n ≡ o → In premise (premises_by o) → (0 < premise) × (premise < n)
      by_line n premise None is none = absurd none
      by_line n premise (Some line) is i =
          let p = named_is lines n line is in
          let e : n ≡ suc p.0 = p.1.0 in
          let within : p.0 < length lines = slice_get_within lines p.0 line p.1.1 in
          let b = premises_before lines p.0 line (right p.0 within line (record { there = p.1.1 })) premise i in
          let some : 0 < premise = b.0 in
          let upto : premise ≤ p.0 = b.1 in
          (some, omega (arith, e, upto))
