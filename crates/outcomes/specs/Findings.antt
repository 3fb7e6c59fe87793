-- What is found in an app: the arrivals of labels at sinks whose pair of categories is not declared.
use Rattle.std.specs.Prelude.{ℕ, Bool, ◌&&◌, not, nat_lt, List, [], length, map, filter, filter_map, Option, Some, None, slice_get, unwrap_or}
use Rattle.std.specs.List.{list_any}
use Rattle.std.specs.Ordering.{ordering_then}
use Rattle.std.specs.declared.cmp.Ordering.{Ordering}
use Rattle.app_machine.specs.declared.app.App.{App}
use Rattle.app_machine.specs.declared.lists.Lists.{Lists}
use Rattle.app_machine.specs.declared.papers.Declaration.{Declaration}
use Rattle.app_machine.specs.Names.{Name, same_name}
use Rattle.app_machine.specs.Sound.{name_order}
use Rattle.app_machine.specs.State.{Arrival}
use Rattle.fact_rows.specs.declared.row.Row.{Row}
use Rattle.fact_rows.specs.declared.row.Row.TheVariants.{Arrive}
use Rattle.outcomes.specs.declared.outcome.Finding.{Finding}
use Rattle.outcomes.specs.Ascending.{ascending}
use Rattle.outcomes.specs.Places.{place_in, place_order}

-- the name of a category
unfoldable pub category : Lists → ℕ → Name
category lists i = unwrap_or (slice_get lists.categories i) []

-- the pairs of names have this source and this sink among them
unfoldable pub names_pair : List (Name × Name) → Name → Name → Bool
names_pair pairs source sink = list_any (λ (pair : Name × Name). same_name source pair.0 && same_name sink pair.1) pairs

-- the two are listed categories whose names the declaration pairs
abbrev pub are_listed : Lists → ℕ → ℕ → Bool
are_listed lists label sink = nat_lt label (length lists.categories) && nat_lt sink (length lists.categories)

unfoldable pub declares : Lists → Declaration → ℕ → ℕ → Bool
declares lists declaration label sink = are_listed lists label sink && names_pair declaration.pairs (category lists label) (category lists sink)

-- the arrivals that rows tell of, without their contexts
abbrev pub arrival_of : Row → Option Arrival
arrival_of (Arrive label sink n) = Some (record { label = label; sink = sink; method = n.by.method; pc = n.pc })
arrival_of _ = None

unfoldable pub arrivals_in : List Row → List Arrival
arrivals_in rows = filter_map arrival_of rows

abbrev pub is_undeclared : Lists → Declaration → Arrival → Bool
is_undeclared lists declaration a = not (declares lists declaration a.label a.sink)

abbrev pub finding_of : App → Lists → Arrival → Finding
finding_of app lists a = record { source = category lists a.label; sink = category lists a.sink; at = place_in app a.method a.pc }

-- by the name of the source, that of the sink, and the place
unfoldable pub finding_order : Finding → Finding → Ordering
finding_order a b = ordering_then (name_order a.source b.source) (ordering_then (name_order a.sink b.sink) (place_order a.at b.at))

unfoldable pub findings_of : App → Lists → Declaration → List Row → List Finding
findings_of app lists declaration rows = ascending finding_order (map (finding_of app lists) (filter (is_undeclared lists declaration) (arrivals_in rows)))
