-- What follows is derivable, so it is in a whole table; and where nothing follows there is the start alone.
use Rattle.std.proofs.Common.{◌≡◌, List, [], ◌∷◌, length, refl, sym, ◌∙◌, inl, inr, lit<, lit≤, arith}
use Rattle.vet_base.specs.Apart.{Apart}
use Rattle.vet_base.specs.Members.{In}
use Rattle.fact_rows.specs.declared.row.Row.{Row}
use Rattle.flow_rules.specs.Deriving.{DerivationBy, DerivableBy, from_nothing, from_start, from_rule}
use Rattle.taint_solver.specs.Solving.{MoreThan}
use Rattle.search_witness.specs.Searches.{Begins, Follows, comes_next, Nothing, SearchesEnd, next, start}

start_derives : DerivationBy Follows Begins (start ∷ [])
start_derives = from_start from_nothing refl

next_is_derivable : DerivableBy Follows Begins next
next_is_derivable = record { before = start ∷ []; derivation = from_rule start_derives comes_next (inl refl, tt) }

not_whole : In next (start ∷ []) → ⊥
not_whole (inl same) = let none : ⊥ = cc in none
not_whole (inr none) = none

-- where nothing follows each derivable row is the start
is_start : (row : Row) (rows : List Row) → DerivationBy Nothing Begins (row ∷ rows) → row ≡ start
is_start row rows d = elim d [
  | from_start before begins ↦ begins
  | from_rule before rule each ↦ absurd rule
]

two_are_none : MoreThan Nothing Begins 1 → ⊥
two_are_none more = of_rows more.rows more.count more.derived.apart (λ row there. let d = more.derived.derivable row there in is_start row d.before d.derivation)
  where
    of_rows : (rows : List Row) → length rows ≡ 2 → Apart rows → ((row : Row) → In row rows → row ≡ start) → ⊥
    of_rows [] count apart all = let none : ⊥ = cc in none
    of_rows (a ∷ []) count apart all = let none : ⊥ = cc in none
    of_rows (a ∷ b ∷ rows) count apart all = apart.0 (inl (all a (inl refl) ∙ sym (all b (inr (inl refl)))))

pub searches_end : SearchesEnd
searches_end = record {
  whole = λ limit solution. not_whole (solution.every next next_is_derivable);
  at_limit = λ tells. two_are_none (tells.0 refl);
  worked_off = λ w. elim w [
    | inl closed ↦ elim (closed 0 (lit≤ tt, lit< tt) start refl next (1, (start ∷ [], record { by = comes_next; known = (inl refl, tt); uses = inl refl }))) [
      | inl there ↦ not_whole there
      | inr none ↦ absurd none
    ]
    | inr more ↦ let none : ⊥ = omega (arith, more) in none
  ];
  posted = λ rows. rows.fresh start (inl refl) (inl refl);
  crew = λ same. let none : ⊥ = cc in none;
}
