-- The beginnings of marked bodies, one after the other.
use Rattle.std.proofs.Common.{◌≡◌, ℕ, ◌+◌, Bool, true, false, cond, List, [], ◌∷◌, ◌++◌, map, filter, refl, sym, ap, ◌∙◌}
use Rattle.std.proofs.lemmas.List.{map-append}
use Rattle.std.proofs.lemmas.List.Elements.{filter-append}
use Rattle.app_machine.specs.Summaries.{numbers_from}
use Rattle.runner_choices.proofs.Lists.{numbers_next}
use Rattle.runner_stands.specs.declared.standing.Stand.{Stand}
use Rattle.runner_stands.specs.Stands.{at_body, has_mark, marked_below, stand_of}

module _ (marks : List Bool) (n : ℕ) where
  marked_next : marked_below marks (n + 1) ≡ marked_below marks n ++ cond (has_mark marks n) (n ∷ []) []
  marked_next = ap (filter (has_mark marks)) (numbers_next n) ∙ filter-append (has_mark marks) (numbers_from 0 n) (n ∷ [])

  as_bodies : (b : Bool) → map at_body (cond b (n ∷ []) []) ≡ cond b (at_body n ∷ []) []
  as_bodies true = refl
  as_bodies false = refl

  pub listed_next : (stands new : List Stand) → map stand_of new ≡ map stand_of stands ++ cond (has_mark marks n) (at_body n ∷ []) [] → map stand_of stands ≡ map at_body (marked_below marks n) → map stand_of new ≡ map at_body (marked_below marks (n + 1))
  listed_next stands new more so_far =
      more
      ∙ (ap (λ xs. xs ++ cond (has_mark marks n) (at_body n ∷ []) []) so_far
      ∙ (ap (λ xs. map at_body (marked_below marks n) ++ xs) (sym (as_bodies (has_mark marks n)))
      ∙ sym (ap (map at_body) marked_next ∙ map-append at_body (marked_below marks n) (cond (has_mark marks n) (n ∷ []) []))))
