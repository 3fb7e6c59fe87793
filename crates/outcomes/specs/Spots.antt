-- Places and findings by the numbers of their methods, as they are gathered before they are named.
use Rattle.std.specs.Prelude.{◌==◌, ℕ, Bool, true, false, if◌then◌else◌, List, filter_map, Option, Some, None, option_map}
use Rattle.std.specs.Ordering.{nat_cmp, ordering_then}
use Rattle.std.specs.declared.cmp.Ordering.{Ordering}
use Rattle.app_machine.specs.declared.app.App.{App}
use Rattle.app_machine.specs.declared.lists.Lists.{Lists}
use Rattle.app_machine.specs.declared.papers.Declaration.{Declaration}
use Rattle.app_machine.specs.Names.{Name}
use Rattle.app_machine.specs.Sound.{name_order}
use Rattle.fact_rows.specs.declared.row.Row.{Row}
use Rattle.fact_rows.specs.declared.row.Row.TheVariants.{Arrive, Unknown}
use Rattle.outcomes.specs.declared.outcome.Finding.{Finding}
use Rattle.outcomes.specs.declared.outcome.Place.{Place}
use Rattle.outcomes.specs.Findings.{category, declares}
use Rattle.outcomes.specs.Places.{place_in}

-- the number of a method, and an address there
abbrev pub Spot : Type 0
Spot = ℕ × ℕ

abbrev pub spot_order : Spot → Spot → Ordering
spot_order a b = ordering_then (nat_cmp a.0 b.0) (nat_cmp a.1 b.1)

abbrev pub at_spot : App → Spot → Place
at_spot app spot = place_in app spot.0 spot.1

unfoldable pub unknown_spot : ℕ → Row → Option Spot
unknown_spot cause (Unknown n other) = if other == cause then Some (n.by.method, n.pc) else None
unknown_spot cause _ = None

-- the names of the categories of source and sink, and where
abbrev pub Found : Type 0
Found = (Name × Name) × Spot

abbrev pub found_order : Found → Found → Ordering
found_order a b = ordering_then (ordering_then (name_order a.0.0 b.0.0) (name_order a.0.1 b.0.1)) (spot_order a.1 b.1)

abbrev pub finding_at : App → Found → Finding
finding_at app found = record { source = found.0.0; sink = found.0.1; at = at_spot app found.1 }

-- the names of a pair, where it is not declared
abbrev pub pair_if : Bool → Name × Name → Option (Name × Name)
pair_if true pair = None
pair_if false pair = Some pair

abbrev pub undeclared_pair : Lists → Declaration → ℕ → ℕ → Option (Name × Name)
undeclared_pair lists declaration label sink = pair_if (declares lists declaration label sink) (category lists label, category lists sink)

-- what arrives, where its pair is not declared
abbrev pub undeclared_at : Lists → Declaration → Row → Option Found
undeclared_at lists declaration (Arrive label sink n) = option_map (λ (pair : Name × Name). (pair, (n.by.method, n.pc))) (undeclared_pair lists declaration label sink)
undeclared_at lists declaration _ = None

unfoldable pub undeclared_in : Lists → Declaration → List Row → List Found
undeclared_in lists declaration rows = filter_map (undeclared_at lists declaration) rows
