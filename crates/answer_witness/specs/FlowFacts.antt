-- What follows in an app is not more than the limit of the lists, which analysis it is by, and why rows are no good table. Behind
-- each fact stands what code would answer that does otherwise.
use Rattle.std.specs.Prelude.{◌≢◌, ◌<◌, ◌≤◌, ℕ, List, length, Option, Some, None}
use Rattle.access_path.specs.declared.path.Path.{Path}
use Rattle.app_flow.specs.Defect.{IsChecked, IsNotClosed, LacksStart}
use Rattle.app_flow.specs.Flow.{AreDerivable, IsFlow}
use Rattle.app_flow.specs.declared.flow.Flow.TheVariants.{Rows, TooLarge}
use Rattle.app_machine.specs.declared.app.App.{App}
use Rattle.app_machine.specs.declared.lists.Lists.{Lists}
use Rattle.cert_checker.specs.declared.defect.RowDefect.TheVariants.{Stranger}
use Rattle.cert_checker.specs.declared.defect.TableDefect.TheVariants.{At}
use Rattle.fact_rows.specs.declared.context.Node.{Node}
use Rattle.fact_rows.specs.declared.row.Row.{Row}
use Rattle.fact_rows.specs.declared.row.Row.TheVariants.{Label, Taint}
use Rattle.flow_analyses.specs.declared.Analysis.{Analysis}
use Rattle.flow_analyses.specs.declared.Analysis.TheVariants.{Paths, Cells}
use Rattle.store_lists.specs.declared.large.Large.{Large}
use Rattle.store_lists.specs.declared.large.Large.TheVariants as large_word
use Rattle.vet_base.specs.Members.{In}

pub record FlowsAreTold (app : App) (lists : Lists) (large : Option Large) (rows others : List Row) : Type 0 where
  -- with a limit that is one higher these rows are told, or the app is called too large for another limit
  pub no_more : (analysis : Analysis) → lists.rows < length rows → IsFlow app lists large (Rows (record { analysis = analysis; rows = rows })) → ⊥
  pub own_limit : (limit : ℕ) → limit ≢ lists.rows → IsFlow app lists large (TooLarge limit) → ⊥
  -- the second analysis is not taken where the first fits, nor without the lists' word
  pub first_fits :
      AreDerivable Paths app lists others → length others ≤ lists.rows → IsFlow app lists large (Rows (record { analysis = Cells; rows = rows })) → ⊥
  pub no_word : IsFlow app lists None (Rows (record { analysis = Cells; rows = rows })) → ⊥
  -- an app of which one of the two fits is not too large
  pub either_fits : (limit : ℕ) → AreDerivable Paths app lists others → length others ≤ lists.rows → IsFlow app lists large (TooLarge limit) → ⊥
  pub second_fits :
      (limit : ℕ) → AreDerivable Cells app lists others → length others ≤ lists.rows → IsFlow app lists (Some large_word.Cells) (TooLarge limit) → ⊥
  -- rows that lack a start have no stranger
  pub no_stranger : (analysis : Analysis) (start : Row) → LacksStart analysis app lists rows start → (row : Row) → IsChecked analysis app lists rows (Some (At Stranger row)) → ⊥
  -- rows that are not closed have a defect
  pub not_good : (analysis : Analysis) (row : Row) → IsNotClosed analysis app lists rows row → IsChecked analysis app lists rows None → ⊥
  -- a table of either analysis that has a label is none of the other: checked by the other's rules it is no good one
  pub label_of_cells : (n : Node) (r l : ℕ) → In (Label n r l) rows → IsChecked Paths app lists rows None → ⊥
  pub taint_of_paths : (n : Node) (r l : ℕ) (p : Path) → In (Taint n r p l) rows → IsChecked Cells app lists rows None → ⊥

abbrev pub AllFlowsAreTold : Type 0
AllFlowsAreTold = (app : App) (lists : Lists) (large : Option Large) (rows others : List Row) → FlowsAreTold app lists large rows others
