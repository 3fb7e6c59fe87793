-- What follows in an app, what is derivable, and which tables are good, by either analysis.
use Rattle.std.specs.Prelude.{ℕ, List}
use Rattle.app_machine.specs.declared.app.App.{App}
use Rattle.app_machine.specs.declared.lists.Lists.{Lists}
use Rattle.cell_rules.specs.InApp.{CellInApp}
use Rattle.cell_rules.specs.Rules as cells
use Rattle.fact_rows.specs.declared.row.Row.{Row}
use Rattle.fact_rows.specs.InApp.{InApp}
use Rattle.flow_analyses.specs.declared.Analysis.{Analysis}
use Rattle.flow_analyses.specs.declared.Analysis.TheVariants.{Paths, Cells}
use Rattle.flow_rules.specs.Deriving.{DerivableBy, GoodBy}
use Rattle.flow_rules.specs.Rules as paths
use Rattle.vet_base.specs.Members.{In}

-- the rule of that number gives the row from these premises
abbrev pub FollowsBy : Analysis → App → Lists → ℕ → List Row → Row → Type 0
FollowsBy Paths app lists = paths.Follows app lists
FollowsBy Cells app lists = cells.Follows app lists

-- the row names only what app and lists have
abbrev pub InAppBy : Analysis → App → Lists → Row → Type 0
InAppBy Paths app lists = InApp app lists
InAppBy Cells app lists = CellInApp app lists

-- the row stands at the end of a derivation from the start rows, which are the same by both
abbrev pub DerivesBy : Analysis → App → Lists → Row → Type 0
DerivesBy analysis app lists = DerivableBy (FollowsBy analysis app lists) (paths.Starts app)

-- The table names only what app and lists have, has the start rows, and has what follows from its rows.
abbrev pub GoodTableBy : Analysis → App → Lists → List Row → Type 0
GoodTableBy analysis app lists table =
    GoodBy (FollowsBy analysis app lists) (paths.Starts app) (InAppBy analysis app lists) (λ row. In row table)
