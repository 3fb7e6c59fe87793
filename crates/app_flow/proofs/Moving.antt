-- What is said of the rules of one analysis, app and lists is said of the same.
use Rattle.std.proofs.Common.{◌≡◌, ◌↔◌, Bool, IsTrue, List, Option, subst}
use Rattle.app_machine.specs.declared.app.App.{App}
use Rattle.app_machine.specs.declared.lists.Lists.{Lists}
use Rattle.cert_checker.specs.declared.defect.TableDefect.{TableDefect}
use Rattle.fact_rows.specs.declared.row.Row.{Row}
use Rattle.flow_analyses.specs.declared.Analysis.{Analysis}
use Rattle.flow_analyses.specs.Analyses.{GoodTableBy}
use Rattle.app_flow.specs.Defect.{IsChecked, SameRows}
use Rattle.app_flow.specs.Flow.{IsSolved}
use Rattle.app_flow.proofs.Accepting.{moved_good}

module _ (analysis same_analysis : Analysis) (app same_app : App) (lists same_lists : Lists)
    (is_analysis : same_analysis ≡ analysis) (is_app : same_app ≡ app) (is_lists : same_lists ≡ lists) where
  moved : (P : Analysis → App → Lists → Type 0) → P same_analysis same_app same_lists → P analysis app lists
  moved P h = subst (P analysis app) is_lists (subst (λ a. P analysis a same_lists) is_app (subst (λ k. P k same_app same_lists) is_analysis h))

  pub solved_as : (found : Option (List Row)) → IsSolved same_analysis same_app same_lists found → IsSolved analysis app lists found
  solved_as found h = moved (λ k a l. IsSolved k a l found) h

  pub checked_as : (rows : List Row) (found : Option TableDefect) → IsChecked same_analysis same_app same_lists rows found → IsChecked analysis app lists rows found
  checked_as rows found h = moved (λ k a l. IsChecked k a l rows found) h

  -- and of the same rows, in whatever order
  pub accepted_as : (rows table : List Row) (good : Bool) → SameRows rows table → IsTrue good ↔ GoodTableBy same_analysis same_app same_lists rows →
      IsTrue good ↔ GoodTableBy analysis app lists table
  accepted_as rows table good same told =
      let h : IsTrue good ↔ GoodTableBy analysis app lists rows = moved (λ k a l. IsTrue good ↔ GoodTableBy k a l rows) told in (
        λ yes. moved_good analysis app lists rows table (λ row. ((same row).1, (same row).0)) (h.0 yes),
        λ is. h.1 (moved_good analysis app lists table rows same is),
      )
