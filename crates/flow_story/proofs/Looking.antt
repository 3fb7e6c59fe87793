-- What is looked for among conclusions is found exactly where it is there.
use Rattle.std.proofs.Common.{◌≡◌, ◌↔◌, ◌⊎◌, ◌==◌, ◌&&◌, ◌||◌, ℕ, Bool, true, false, List, [], ◌∷◌, refl, sym, ◌∙◌, ap, subst, inl, inr, fold, IsTrue, Option, Some}
use Rattle.std.specs.List.{slice_get}
use Rattle.std.proofs.Common.{◌<◌, length, slice_index_or, arith}
use Rattle.std.proofs.lemmas.Bool.{and_parts, and_from, eqb-true, eq-eqb}
use Rattle.vet_base.specs.Members.{In}
use Rattle.fact_rows.specs.declared.row.Row.{Row}
use Rattle.fact_rows.specs.contracts.row.RowPartialEq.TheImpl.{ghosts as row_eq}
use Rattle.fact_rows.specs.contracts.row.RowOrd.TheImpl.Laws.{matches_eq-law}
use Rattle.fact_rows.specs.contracts.row.RowEq.TheImpl.Laws.{laws-law}
use Rattle.fact_rows.specs.OrderLaws.{exact_row}
use Rattle.flow_rules.specs.Rules.{Each}
use Rattle.rule_ground.specs.declared.conclusion.Conclusion.{Conclusion}
use Rattle.rule_ground.specs.Hits.{Among}
use Rattle.rule_ground.specs.Exact.{Says, IsJust}
use Rattle.rule_ground.specs.Given.{rows_in}
use Rattle.rule_ground.specs.Same.{same_if_tied}
use Rattle.flow_story.specs.declared.following.Looker.{Looker}
use Rattle.flow_story.specs.Looking.{are_rows, is_said}

row_same : (a b : Row) → row_eq.eq a b ≡ true → a ≡ b
row_same = same_if_tied matches_eq-law exact_row

itself : (a : Row) → row_eq.eq a a ≡ true
itself = laws-law.refl

rows_are : (rows others : List Row) → are_rows rows others ≡ true → rows ≡ others
rows_are [] [] h = refl
rows_are [] (x ∷ others) h = absurd cc
rows_are (a ∷ rest) [] h = absurd cc
rows_are (a ∷ rest) (x ∷ others) h =
    let q = and_parts (row_eq.eq a x) (are_rows rest others) h in
    let e = row_same a x q.0 in
    let f = rows_are rest others q.1 in
    λ i. e i ∷ f i

are_themselves : (rows : List Row) → are_rows rows rows ≡ true
are_themselves [] = refl
are_themselves (a ∷ rest) = and_from (row_eq.eq a a) (are_rows rest rest) (itself a) (are_themselves rest)

module _ (rule : ℕ) (premises : List Row) (row : Row) where
  said_is : (c : Conclusion) → is_said rule premises row c ≡ true → Says c rule premises row
  said_is c h =
      let q = and_parts (c.rule == rule) (are_rows (rows_in c.premises) premises && row_eq.eq c.row row) h in
      let r = and_parts (are_rows (rows_in c.premises) premises) (row_eq.eq c.row row) q.1 in
      record { rule_is = eqb-true c.rule rule q.0; premises_are = rows_are (rows_in c.premises) premises r.0; row_is = row_same c.row row r.1 }

  is_said_so : (c : Conclusion) → Says c rule premises row → is_said rule premises row c ≡ true
  is_said_so c s =
      and_from (c.rule == rule) (are_rows (rows_in c.premises) premises && row_eq.eq c.row row) (eq-eqb c.rule rule s.rule_is)
      (and_from (are_rows (rows_in c.premises) premises) (row_eq.eq c.row row)
      (subst (λ z. are_rows (rows_in c.premises) z ≡ true) s.premises_are (are_themselves (rows_in c.premises)))
      (subst (λ z. row_eq.eq c.row z ≡ true) s.row_is (itself c.row)))

  -- whether one of the list says it, or one before did
  abbrev pub heard : Bool → List Conclusion → Bool
  heard found [] = found
  heard found (c ∷ cs) = heard (found || is_said rule premises row c) cs

  stays : (cs : List Conclusion) → heard true cs ≡ true
  stays [] = refl
  stays (c ∷ cs) = stays cs

  by_test : (b : Bool) (c : Conclusion) (cs : List Conclusion) → is_said rule premises row c ≡ b → heard false (c ∷ cs) ≡ true →
      (b ≡ true) × Says c rule premises row ⊎ (heard false cs ≡ true)
  by_test true c cs e h = inl (refl, said_is c e)
  by_test false c cs e h = inr (subst (λ z. heard (false || z) cs ≡ true) e h)

  pub found_there : (cs : List Conclusion) → heard false cs ≡ true → (c : Conclusion) × (In c cs × Says c rule premises row)
  found_there [] h = absurd cc
  found_there (c ∷ cs) h = elim (by_test (is_said rule premises row c) c cs refl h) [
    | inl s ↦ (c, (inl refl, s.1))
    | inr more ↦ let r = found_there cs more in (r.0, (inr r.1.0, r.1.1))
  ]

  pub there_found : (found : Bool) (cs : List Conclusion) (c : Conclusion) → In c cs → Says c rule premises row → heard found cs ≡ true
  there_found found [] c i s = absurd i
  there_found true (d ∷ cs) c i s = stays cs
  there_found false (d ∷ cs) c (inl e) s =
      subst (λ z. heard (false || z) cs ≡ true) (sym (is_said_so d (subst (λ z. Says z rule premises row) e s))) (stays cs)
  there_found false (d ∷ cs) c (inr i) s = there_found (false || is_said rule premises row d) cs c i s

pub each_among : (rows more : List Row) → ((row : Row) → In row rows → In row more) → Each (Among more) rows
each_among [] more f = tt
each_among (row ∷ rows) more f = (f row (inl refl), each_among rows more (λ x i. f x (inr i)))

-- the answer of the search is whether the rule gives the row
pub decides : (Rule : ℕ → List Row → Row → Type 0) (rule : ℕ) (first : Row) (others : List Row) (row : Row) (given : List Conclusion) →
    IsJust Rule (Among (first ∷ others)) first given →
    (heard rule (first ∷ others) row false given ≡ true) ↔ Rule rule (first ∷ others) row
decides Rule rule first others row given just = (
  λ h.
      let f = found_there rule (first ∷ others) row given h in
      let s = just.sound f.0 f.1.0 in
      let says = f.1.1 in
      subst (λ z. Rule rule (first ∷ others) z) says.row_is
      (subst (λ z. Rule rule z f.0.row) says.premises_are (subst (λ z. Rule z (rows_in f.0.premises) f.0.row) says.rule_is s.by)),
  λ by.
      let l = just.complete rule (first ∷ others) row (record { by = by; known = each_among (first ∷ others) (first ∷ others) (λ x i. i); uses = inl refl }) in
      there_found rule (first ∷ others) row false given l.0 l.1 l.2,
)

-- it keeps whether one of them says it
pub looker_keeps : (given : List Conclusion) (s : Looker) → (fold (λ (l : Looker) (found : Conclusion). record l { found = l.found || is_said l.rule l.premises.now l.row found }) s given).found ≡ heard s.rule s.premises.now s.row s.found given
looker_keeps [] s = refl
looker_keeps (c ∷ cs) s = looker_keeps cs (record s { found = s.found || is_said s.rule s.premises.now s.row c })

some_row : {a b : Row} → Some a ≡ Some b → a ≡ b
some_row e = cc

-- a test of the row that was got
pub tested : (got : Option Row) (found row : Row) (b : Bool) → got ≡ Some found → b ≡ row_eq.eq found row → IsTrue b ↔ (got ≡ Some row)
tested got found row b at is = (
  λ t. at ∙ ap (λ z. Some z) (row_same found row (sym is ∙ t)),
  λ e. is ∙ subst (λ z. row_eq.eq found z ≡ true) (some_row (sym at ∙ e)) (itself found),
)

-- the same where the first premise is read off the list, of what looked for it
pub answered : (Rule : ℕ → List Row → Row → Type 0) (s out : Looker) (few : List Row) (first : Row) (given : List Conclusion) →
    out ≡ fold (λ (l : Looker) (found : Conclusion). record l { found = l.found || is_said l.rule l.premises.now l.row found }) s given →
    s.found ≡ false → few ≡ s.premises.now → slice_get s.premises.now 0 ≡ Some first → IsJust Rule (Among few) first given →
    IsTrue out.found ↔ Rule s.rule s.premises.now s.row
answered Rule s out few first given e none same at just =
    by_list s.premises.now at (subst (λ z. IsJust Rule (Among z) first given) same just)
    (ap (λ (l : Looker). l.found) e ∙ looker_keeps given s ∙ ap (λ b. heard s.rule s.premises.now s.row b given) none)
  where
    by_list : (premises : List Row) → slice_get premises 0 ≡ Some first → IsJust Rule (Among premises) first given → out.found ≡ heard s.rule premises s.row false given →
        IsTrue out.found ↔ Rule s.rule premises s.row
    by_list [] at just is = absurd cc
    by_list (p ∷ ps) at just is =
        let d = decides Rule s.rule p ps s.row given (subst (λ z. IsJust Rule (Among (p ∷ ps)) z given) (sym (some_row at)) just) in
        (λ h. d.0 (sym is ∙ h), λ by. is ∙ d.1 by)

pub first_in : (rows : List Row) (first : Row) → slice_get rows 0 ≡ Some first → In first rows
first_in [] first at = absurd cc
first_in (p ∷ ps) first at = inl (sym (some_row at))

pub stands_first : (rows : List Row) (row : Row) → 0 < length rows → row ≡ slice_index_or rows 0 row → slice_get rows 0 ≡ Some row
stands_first [] row some is = absurd (omega (arith, some))
stands_first (p ∷ ps) row some is = ap (λ z. Some z) (sym is)
