-- What a story tells is derivable, and what is derivable has a story.
use Rattle.std.proofs.Common.{◌≡◌, ◌≢◌, ℕ, zero, suc, ◌+◌, ◌<◌, List, [], ◌∷◌, ◌++◌, length, take, Option, Some, None, option_map, slice_get, refl, sym, ap, subst, ◌∙◌, inl, inr, arith}
use Rattle.std.proofs.lemmas.Bool.Decides.{leb_tells}
use Rattle.std.proofs.lemmas.List.{length-append, take-append-le}
use Rattle.std.proofs.lemmas.Option.{same_Some, slice_get_within, slice_get_read}
use Rattle.std.proofs.Math.Seq.{take-append_seam}
use Rattle.vet_base.specs.Members.{In}
use Rattle.vet_base.proofs.Lists.{element_at, slice_get-append, slice_get_push}
use Rattle.fact_rows.specs.declared.row.Row.{Row}
use Rattle.flow_rules.specs.Rules.{Each}
use Rattle.rule_ground.specs.declared.conclusion.Conclusion.{Conclusion}
use Rattle.rule_ground.specs.declared.conclusion.Premises.{Premises}
use Rattle.rule_ground.specs.declared.conclusion.FromSecond.{FromSecond}
use Rattle.rule_ground.specs.declared.conclusion.FromThird.{FromThird}
use Rattle.rule_ground.specs.Given.{rows_in, from_second, from_third, fourth_in}
use Rattle.rule_ground.specs.Hits.{Among}
use Rattle.rule_ground.specs.Exact.{IsJust}
use Rattle.flow_rules.specs.Deriving.{DerivationBy, DerivableBy, from_nothing, from_start, from_rule}
use Rattle.rule_sets.proofs.Deriving.{derivable_start, derivable_rule, each_known}
use Rattle.flow_story.specs.declared.line.Numbers.{Numbers}
use Rattle.flow_story.specs.declared.line.Numbers.TheVariants as numbers
use Rattle.flow_story.specs.declared.line.StoryLine.{StoryLine}
use Rattle.flow_story.specs.Stories.{listed, row_of, AreRows, IsRight, a_start, by_rule, AreRight, HasStory, IsTold, IsTellable}
use Rattle.flow_story.proofs.Looking.{each_among}
use Rattle.flow_story.proofs.Reading.{named_line}

-- The rows of lines that are named among the first ones are rows of lines before that place.
taken : (lines : List StoryLine) (n place : ℕ) (line : StoryLine) → slice_get (take n lines) place ≡ Some line → (place < n) × (slice_get lines place ≡ Some line)
taken lines zero place line is = absurd cc
taken [] (suc n) place line is = absurd cc
taken (x ∷ lines) (suc n) zero line is = (omega arith, is)
taken (x ∷ lines) (suc n) (suc place) line is = let r = taken lines n place line is in (omega (arith, r.0), r.1)

module _ (Rule : ℕ → List Row → Row → Type 0) (Start : Row → Type 0) where
  module _ (lines : List StoryLine) (right : AreRight Rule Start (length lines) lines) where
    -- what holds of the rows before the place holds of those that are named there
    each_named : (P : Row → Type 0) (n : ℕ) → ((place : ℕ) (line : StoryLine) → place < n → slice_get lines place ≡ Some line → P line.row) →
        (ns : List ℕ) (rows : List Row) → AreRows (take n lines) ns rows → Each P rows
    each_named P n before [] [] e = tt
    each_named P n before [] (x ∷ rows) e = absurd cc
    each_named P n before (m ∷ ns) [] e = absurd cc
    each_named P n before (m ∷ ns) (x ∷ rows) e =
        let h : row_of (take n lines) m ≡ Some x = cc in
        let l = named_line (take n lines) m x h in
        let t = taken lines n l.0 l.2 l.3 in
        (subst P l.4 (before l.0 l.2 t.0 t.1), each_named P n before ns rows cc)

    one_told : (place : ℕ) (line : StoryLine) → IsRight Rule Start (take place lines) line →
        ((other : ℕ) (l : StoryLine) → other < place → slice_get lines other ≡ Some l → DerivableBy Rule Start l.row) → DerivableBy Rule Start line.row
    one_told place line (a_start {row = row} s) before = derivable_start Rule Start row s
    one_told place line (by_rule rows are some by) before =
        derivable_rule Rule Start line.rule rows line.row by (each_named (DerivableBy Rule Start) place before (listed line.premises) rows are)

    all_told : (n place : ℕ) (line : StoryLine) → place < n → slice_get lines place ≡ Some line → DerivableBy Rule Start line.row
    all_told zero place line below is = absurd (omega arith)
    all_told (suc n) place line below is =
        one_told place line (right place (slice_get_within lines place line is) line (record { there = is }))
        (λ other l less at. all_told n other l (omega arith) at)

  pub told : IsTold Rule Start
  told lines row story ends =
      let place = length ends.front in
      let at : slice_get lines place ≡ Some ends.last = subst (λ z. slice_get z place ≡ Some ends.last) (sym ends.is) (slice_get_push ends.front ends.last) in
      subst (DerivableBy Rule Start) ends.tells (all_told lines story.right (suc place) place ends.last (omega arith) at)

  -- one line more
  pub right_pushed : (lines : List StoryLine) (line : StoryLine) → AreRight Rule Start (length lines) lines → IsRight Rule Start lines line →
      AreRight Rule Start (length (lines ++ line ∷ [])) (lines ++ line ∷ [])
  right_pushed lines line right new place below other at = elim (leb_tells (place + 1) (length lines)) [
    | inl less ↦
        let under : place < length lines = omega (arith, less.1) in
        let x = element_at lines place under in
        let old : slice_get lines place ≡ Some x.0 = slice_get_read lines (length lines) place x.0 refl under x.1 in
        let same : x.0 ≡ other = same_Some x.0 other (sym (slice_get-append lines (line ∷ []) place x.0 old) ∙ at.there) in
        let front : take place (lines ++ line ∷ []) ≡ take place lines = take-append-le place lines (line ∷ []) (omega (arith, under)) in
        subst (λ z. IsRight Rule Start z other) (sym front) (right place under other (record { there = old ∙ ap (λ z. Some z) same }))
    | inr last ↦
        let len : length (lines ++ line ∷ []) ≡ length lines + 1 = length-append lines (line ∷ []) in
        let here : length lines ≡ place = omega (arith, last.1, below, len) in
        let same : line ≡ other = same_Some line other (sym (slice_get_push lines line) ∙ ap (slice_get (lines ++ line ∷ [])) here ∙ at.there) in
        let front : take place (lines ++ line ∷ []) ≡ lines = sym (ap (λ k. take k (lines ++ line ∷ [])) here) ∙ take-append_seam lines (line ∷ []) in
        subst (λ z. IsRight Rule Start z other) (sym front) (subst (IsRight Rule Start lines) same new)
  ]

  -- right lines in which each of the rows stands
  record Told (rows : List Row) : Type 0 where
    lines : List StoryLine
    right : AreRight Rule Start (length lines) lines
    there : (row : Row) → In row rows → (n : ℕ) × (row_of lines n ≡ Some row)

  more : (lines : List StoryLine) (line : StoryLine) (n : ℕ) (row : Row) → row_of lines n ≡ Some row → row_of (lines ++ line ∷ []) n ≡ Some row
  more lines line n row is =
      let l = named_line lines n row is in
      let at : slice_get (lines ++ line ∷ []) l.0 ≡ Some l.2 = slice_get-append lines (line ∷ []) l.0 l.2 l.3 in
      let got : row_of (lines ++ line ∷ []) (suc l.0) ≡ Some row = ap (option_map (λ (z : StoryLine). z.row)) at ∙ ap (λ z. Some z) l.4 in
      subst (λ m. row_of (lines ++ line ∷ []) m ≡ Some row) (sym l.1) got

  add : (rows : List Row) (told : Told rows) (line : StoryLine) → IsRight Rule Start told.lines line → Told (line.row ∷ rows)
  add rows told line new = record {
    lines = told.lines ++ line ∷ [];
    right = right_pushed told.lines line told.right new;
    there = there;
  }
    where
      there : (row : Row) → In row (line.row ∷ rows) → (n : ℕ) × (row_of (told.lines ++ line ∷ []) n ≡ Some row)
      there row (inl same) =
          (suc (length told.lines), ap (option_map (λ (z : StoryLine). z.row)) (slice_get_push told.lines line) ∙ ap (λ z. Some z) (sym same))
      there row (inr old) = let n = told.there row old in (n.0, more told.lines line n.0 row n.1)

  not_empty : (xs : List StoryLine) (x : StoryLine) → xs ++ x ∷ [] ≢ []
  not_empty [] x e = absurd cc
  not_empty (y ∷ xs) x e = absurd cc

  ended : (rows : List Row) (told : Told rows) (line : StoryLine) → IsRight Rule Start told.lines line → HasStory Rule Start line.row
  ended rows told line new = record {
    lines = told.lines ++ line ∷ [];
    story = record { some = not_empty told.lines line; right = right_pushed told.lines line told.right new };
    ends = record { front = told.lines; last = line; is = refl; tells = refl };
  }

  -- one to four numbers of the lines with these rows
  module _ (lines : List StoryLine) where
    abbrev IsTheRowOf : Row → Type 0
    IsTheRowOf row = (n : ℕ) × (row_of lines n ≡ Some row)

    abbrev AreNumbered : List Row → Type 0
    AreNumbered rows = (ns : Numbers) × AreRows lines (listed ns) rows

    with_fourth : (a b c : Row) (fourth : Option Row) → Each IsTheRowOf (a ∷ b ∷ c ∷ fourth_in fourth) → AreNumbered (a ∷ b ∷ c ∷ fourth_in fourth)
    with_fourth a b c None e =
        let x : row_of lines e.0.0 ≡ Some a = e.0.1 in
        let y : row_of lines e.1.0.0 ≡ Some b = e.1.0.1 in
        let z : row_of lines e.1.1.0.0 ≡ Some c = e.1.1.0.1 in
        (numbers.Three e.0.0 e.1.0.0 e.1.1.0.0, λ i. x i ∷ y i ∷ z i ∷ [])
    with_fourth a b c (Some d) e =
        let x : row_of lines e.0.0 ≡ Some a = e.0.1 in
        let y : row_of lines e.1.0.0 ≡ Some b = e.1.0.1 in
        let z : row_of lines e.1.1.0.0 ≡ Some c = e.1.1.0.1 in
        let u : row_of lines e.1.1.1.0.0 ≡ Some d = e.1.1.1.0.1 in
        (numbers.Four e.0.0 e.1.0.0 e.1.1.0.0 e.1.1.1.0.0, λ i. x i ∷ y i ∷ z i ∷ u i ∷ [])

    with_third : (a b : Row) (third : Option FromThird) → Each IsTheRowOf (a ∷ b ∷ from_third third) → AreNumbered (a ∷ b ∷ from_third third)
    with_third a b None e =
        let x : row_of lines e.0.0 ≡ Some a = e.0.1 in
        let y : row_of lines e.1.0.0 ≡ Some b = e.1.0.1 in
        (numbers.Two e.0.0 e.1.0.0, λ i. x i ∷ y i ∷ [])
    with_third a b (Some third) e = with_fourth a b third.third third.fourth e

    with_second : (a : Row) (second : Option FromSecond) → Each IsTheRowOf (a ∷ from_second second) → AreNumbered (a ∷ from_second second)
    with_second a None e = let x : row_of lines e.0.0 ≡ Some a = e.0.1 in (numbers.One e.0.0, λ i. x i ∷ [])
    with_second a (Some second) e = with_third a second.second second.more e

    numbered : (premises : Premises) → Each IsTheRowOf (rows_in premises) → AreNumbered (rows_in premises)
    numbered premises e = with_second premises.first premises.more e

  -- each rule gives rows from one to four premises
  abbrev pub IsShort : Type 0
  IsShort = (rule : ℕ) (rows : List Row) (row : Row) → Rule rule rows row → (premises : Premises) × (rows_in premises ≡ rows)

  module _ (short : IsShort) where
    by_numbers : (rows : List Row) (told : Told rows) (rule : ℕ) (premises : List Row) (row : Row) → Rule rule premises row → Each (λ premise. In premise rows) premises →
        (ns : Numbers) × IsRight Rule Start told.lines (record { rule = rule; premises = ns; row = row })
    by_numbers rows told rule premises row by known =
        let s = short rule premises row by in
        let has : Each (IsTheRowOf told.lines) premises = each_known (λ premise. In premise rows) (IsTheRowOf told.lines) told.there premises known in
        let ns = numbered told.lines s.0 (subst (Each (IsTheRowOf told.lines)) (sym s.1) has) in
        (ns.0, by_rule (rows_in s.0) ns.1 (some s.0) (subst (λ z. Rule rule z row) (sym s.1) by))
      where
        some : (premises : Premises) → rows_in premises ≢ []
        some premises e = absurd cc

    tell : (rows : List Row) → DerivationBy Rule Start rows → Told rows
    tell rows from_nothing = record { lines = []; right = λ place below. absurd (omega arith); there = λ row i. absurd i }
    tell rows (from_start {row = row} {rows = before} d s) = add before (tell before d) (record { rule = 0; premises = numbers.None; row = row }) (a_start s)
    tell rows (from_rule {rule = rule} {premises = premises} {row = row} {rows = before} d by known) =
        let t = tell before d in
        let ns = by_numbers before t rule premises row by known in
        add before t (record { rule = rule; premises = ns.0; row = row }) ns.1

    abbrev LastHasStory : List Row → Type 0
    LastHasStory [] = Unit {0}
    LastHasStory (row ∷ rows) = HasStory Rule Start row

    last : (rows : List Row) → DerivationBy Rule Start rows → LastHasStory rows
    last rows from_nothing = tt
    last rows (from_start {row = row} {rows = before} d s) = ended before (tell before d) (record { rule = 0; premises = numbers.None; row = row }) (a_start s)
    last rows (from_rule {rule = rule} {premises = premises} {row = row} {rows = before} d by known) =
        let t = tell before d in
        let ns = by_numbers before t rule premises row by known in
        ended before t (record { rule = rule; premises = ns.0; row = row }) ns.1

    pub tellable : IsTellable Rule Start
    tellable row d = last (row ∷ d.before) d.derivation

  -- it is so where what is concluded is just what the rules give
  pub short : ((rule : ℕ) (row : Row) → Rule rule [] row → ⊥) → ((first : Row) (others : List Row) → (given : List Conclusion) × IsJust Rule (Among (first ∷ others)) first given) → IsShort
  short none just rule [] row by = absurd (none rule row by)
  short none just rule (first ∷ others) row by =
      let g = just first others in
      let l = g.1.complete rule (first ∷ others) row (record { by = by; known = each_among (first ∷ others) (first ∷ others) (λ x i. i); uses = inl refl }) in
      (l.0.premises, l.2.premises_are)
