-- What was found by numbers, in its order, is what is found by names.
use Rattle.std.proofs.Common.{◌≡◌, ◌<◌, ℕ, Bool, true, false, ◌&&◌, List, [], ◌∷◌, map, filter, Some, None, Option, refl, ◌∙◌, ap, inl, inr}
use Rattle.std.specs.Prelude.{length, filter_map, option_map}
use Rattle.std.specs.List.{AllByRecursion, cons_option}
use Rattle.std.specs.Ordering.{ordering_then}
use Rattle.app_machine.specs.declared.app.App.{App}
use Rattle.app_machine.specs.declared.lists.Lists.{Lists}
use Rattle.app_machine.specs.declared.papers.Declaration.{Declaration}
use Rattle.app_machine.specs.Names.{Name}
use Rattle.app_machine.specs.Sound.{SoundApp, name_order}
use Rattle.fact_rows.specs.declared.row.Row.{Row}
use Rattle.fact_rows.specs.declared.row.Row.TheVariants.{Arrive}
use Rattle.outcomes.specs.Ascending.{ascending}
use Rattle.outcomes.specs.Findings.{category, are_listed, declares, arrival_of, arrivals_in, is_undeclared, finding_of, finding_order, findings_of}
use Rattle.outcomes.specs.Spots.{Found, found_order, finding_at, pair_if, spot_order, undeclared_at, undeclared_in, undeclared_pair}
use Rattle.outcomes.specs.Within.{AreWithin}
use Rattle.outcomes.proofs.Pairs.{pair_order, pair_of_set}
use Rattle.outcomes.proofs.Sorting.{map_ascending}
use Rattle.outcomes.proofs.Spots.{spots_in_order}
use Rattle.vet_base.proofs.Orders.{then_assoc}

module _ (lists : Lists) (pairs : List (Name × Name)) where
  -- a set of the declared pairs serves as the pairs do
  by_set : (label sink : ℕ) → undeclared_pair lists (record { pairs = ascending pair_order pairs }) label sink ≡ undeclared_pair lists (record { pairs = pairs }) label sink
  unfolding declares
  by_set label sink =
      ap (λ (b : Bool). pair_if (are_listed lists label sink && b) (category lists label, category lists sink)) (pair_of_set pairs (category lists label) (category lists sink))

  row_by_set : (row : Row) → undeclared_at lists (record { pairs = ascending pair_order pairs }) row ≡ undeclared_at lists (record { pairs = pairs }) row
  row_by_set (Arrive label sink n) = ap (λ o. option_map (λ (pair : Name × Name). (pair, (n.by.method, n.pc))) o) (by_set label sink)
  row_by_set _ = refl

  rows_by_set : (rows : List Row) → undeclared_in lists (record { pairs = ascending pair_order pairs }) rows ≡ undeclared_in lists (record { pairs = pairs }) rows
  unfolding undeclared_in
  rows_by_set [] = refl
  rows_by_set (row ∷ rows) = rw (row_by_set row, rows_by_set rows) refl

pub undeclared_as : (lists : Lists) (declaration : Declaration) (rows : List Row) (keys pairs : List (Name × Name)) → keys ≡ ascending pair_order pairs → pairs ≡ declaration.pairs
    → undeclared_in lists (record { pairs = keys }) rows ≡ undeclared_in lists declaration rows
undeclared_as lists declaration rows keys pairs keys_are pairs_are =
    ap (λ (ks : List (Name × Name)). undeclared_in lists (record { pairs = ks }) rows) (keys_are ∙ ap (λ (ps : List (Name × Name)). ascending pair_order ps) pairs_are)
    ∙ rows_by_set lists declaration.pairs rows

module _ (app : App) (lists : Lists) (declaration : Declaration) where
  abbrev Same : List Row → Type 0
  Same rows = map (finding_at app) (filter_map (undeclared_at lists declaration) rows) ≡ map (finding_of app lists) (filter (is_undeclared lists declaration) (filter_map arrival_of rows))

  -- each finding for what was found
  pub found_named : (rows : List Row) → map (finding_at app) (undeclared_in lists declaration rows) ≡ map (finding_of app lists) (filter (is_undeclared lists declaration) (arrivals_in rows))
  unfolding undeclared_in arrivals_in
  found_named [] = refl
  found_named (Arrive label sink n ∷ rows) = by_test (declares lists declaration label sink) refl (found_named rows)
    where
      by_test : (b : Bool) → declares lists declaration label sink ≡ b → Same rows → Same (Arrive label sink n ∷ rows)
      by_test true is later = rw is later
      by_test false is later = rw (is, later) refl
  found_named (_ ∷ rows) = found_named rows

  abbrev In_app : Found → Type 0
  In_app found = found.1.0 < length app.methods

  in_methods : (rows : List Row) → AreWithin app rows → AllByRecursion In_app (undeclared_in lists declaration rows)
  unfolding undeclared_in
  in_methods [] within = tt
  in_methods (Arrive label sink n ∷ rows) within = by_pair (undeclared_pair lists declaration label sink) (in_methods rows (λ row i. within row (inr i)))
    where
      by_pair : (o : Option (Name × Name)) → AllByRecursion In_app (filter_map (undeclared_at lists declaration) rows) →
          AllByRecursion In_app (cons_option (option_map (λ (pair : Name × Name). (pair, (n.by.method, n.pc))) o) (filter_map (undeclared_at lists declaration) rows))
      by_pair (Some pair) later = (within (Arrive label sink n) (inl refl), later)
      by_pair None later = later
  in_methods (_ ∷ rows) within = in_methods rows (λ row i. within row (inr i))

  -- findings stand as what was found does
  same_found : SoundApp app → (a b : Found) → In_app a → In_app b → finding_order (finding_at app a) (finding_at app b) ≡ found_order a b
  unfolding finding_order
  same_found sound a b of_a of_b =
      ap (λ o. ordering_then (name_order a.0.0 b.0.0) (ordering_then (name_order a.0.1 b.0.1) o)) (spots_in_order app sound a.1 b.1 of_a of_b)
      ∙ then_assoc (name_order a.0.0 b.0.0) (name_order a.0.1 b.0.1) (spot_order a.1 b.1)

  pub findings_in_order : SoundApp app → (rows : List Row) → AreWithin app rows → map (finding_at app) (ascending found_order (undeclared_in lists declaration rows)) ≡ findings_of app lists declaration rows
  unfolding findings_of
  findings_in_order sound rows within =
      map_ascending found_order finding_order (finding_at app) In_app (same_found sound) (undeclared_in lists declaration rows) (in_methods rows within)
      ∙ ap (ascending finding_order) (found_named rows)
