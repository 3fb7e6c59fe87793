-- Why rows are no good table of an app by an analysis.
use Rattle.std.specs.Prelude.{◌≡◌, ◌↔◌, List, Option, Some, None}
use Rattle.app_machine.specs.declared.app.App.{App}
use Rattle.app_machine.specs.declared.lists.Lists.{Lists}
use Rattle.cert_checker.specs.Least.{FollowsFrom, IsLeastFailing}
use Rattle.fact_rows.specs.declared.row.Row.{Row}
use Rattle.flow_analyses.specs.declared.Analysis.{Analysis}
use Rattle.flow_analyses.specs.Analyses.{FollowsBy, GoodTableBy, InAppBy}
use Rattle.flow_rules.specs.Rules.{Starts}
use Rattle.rule_ground.specs.Hits.{Among}
use Rattle.vet_base.specs.Members.{In}
use Rattle.cert_checker.specs.declared.defect.TableDefect.{TableDefect}
use Rattle.cert_checker.specs.declared.defect.RowDefect.TheVariants.{Stranger, NoStart}
use Rattle.cert_checker.specs.declared.defect.TableDefect.TheVariants.{At, NotClosed}

-- the same rows, in whatever order and however often each
abbrev pub SameRows : List Row → List Row → Type 0
SameRows rows others = (row : Row) → In row rows ↔ In row others

-- the rows name only what app and lists have, and the row is the least start that is not among them
pub record LacksStart (analysis : Analysis) (app : App) (lists : Lists) (rows : List Row) (row : Row) : Type 0 where
  pub in_app : (x : Row) → Among rows x → InAppBy analysis app lists x
  pub lacks : IsLeastFailing (Starts app) (Among rows) row

-- they have the starts too, and the row is the least that follows from them and is not among them
pub record IsNotClosed (analysis : Analysis) (app : App) (lists : Lists) (rows : List Row) (row : Row) : Type 0 where
  pub in_app : (x : Row) → Among rows x → InAppBy analysis app lists x
  pub starts : (x : Row) → Starts app x → Among rows x
  pub lacks : IsLeastFailing (FollowsFrom (FollowsBy analysis app lists) rows) (Among rows) row

-- the first of the three that holds, with the least row of which it does
abbrev pub IsTableDefect : Analysis → App → Lists → List Row → TableDefect → Type 0
IsTableDefect analysis app lists rows (At Stranger row) = IsLeastFailing (Among rows) (InAppBy analysis app lists) row
IsTableDefect analysis app lists rows (At NoStart row) = LacksStart analysis app lists rows row
IsTableDefect analysis app lists rows (NotClosed row) = IsNotClosed analysis app lists rows row

-- the rows are a good table, or have the defect
abbrev pub IsChecked : Analysis → App → Lists → List Row → Option TableDefect → Type 0
IsChecked analysis app lists rows None = GoodTableBy analysis app lists rows
IsChecked analysis app lists rows (Some defect) = IsTableDefect analysis app lists rows defect

-- by an analysis rows are a good table or have one defect, and not both
abbrev pub OneDefect : Type 0
OneDefect =
    (analysis : Analysis) (app : App) (lists : Lists) (rows : List Row) (one other : Option TableDefect) →
    IsChecked analysis app lists rows one → IsChecked analysis app lists rows other → one ≡ other
