-- What an app comes to by what is told of it. Behind each fact stands what code would answer that does otherwise.
use Rattle.std.specs.Prelude.{◌≡◌, ◌≢◌, ℕ, List, [], ◌∷◌, Option, Some, None}
use Rattle.app_flow.specs.Defect.{IsTableDefect}
use Rattle.app_flow.specs.declared.flow.Flow.TheVariants as flows
use Rattle.app_machine.specs.declared.app.App.{App}
use Rattle.app_machine.specs.declared.lists.Lists.{Lists}
use Rattle.app_machine.specs.declared.papers.Declaration.{Declaration}
use Rattle.cert_checker.specs.declared.defect.TableDefect.{TableDefect}
use Rattle.fact_rows.specs.declared.row.Row.{Row}
use Rattle.flow_analyses.specs.declared.Analysis.{Analysis}
use Rattle.flow_analyses.specs.declared.Analysis.TheVariants.{Cells}
use Rattle.flow_analyses.specs.Analyses.{GoodTableBy}
use Rattle.outcomes.specs.declared.outcome.Cause.{Cause}
use Rattle.outcomes.specs.declared.outcome.Finding.{Finding}
use Rattle.outcomes.specs.Causes.{causes_too_large}
use Rattle.store_lists.specs.declared.large.Large.{Large}
use Rattle.store_lists.specs.declared.large.Large.TheVariants as large_word
use Rattle.verdict.specs.declared.outcome.Outcome.TheVariants.{Clear, Flagged, Undecided}
use Rattle.verdict.specs.declared.outcome.Rechecked.{Rechecked}
use Rattle.verdict.specs.declared.outcome.Rechecked.TheVariants.{By, Defect, Unasked}
use Rattle.verdict.specs.Outcome.{outcome_of}
use Rattle.verdict.specs.Recheck.{RechecksTo}
use Rattle.verdict.specs.Verdict.{judged_by}

pub record ComesOut (app : App) (lists : Lists) (declaration : Declaration) (rows : List Row) (beside : Cause) (found : Finding) (defect : TableDefect) : Type 0 where
  -- an app without a cause is flagged for what is found; it is neither clear nor undecided
  pub flagged : outcome_of [] (found ∷ []) ≡ Flagged (found ∷ [])
  -- an undecided app has its finding too; without the last there is none
  pub undecided : outcome_of (beside ∷ []) (found ∷ []) ≡ Undecided (beside ∷ []) (found ∷ [])
  -- of an app that is too large the causes beside are told; forgotten, there are those of the app alone
  pub large : (limit : ℕ) → judged_by app lists declaration (beside ∷ []) (flows.TooLarge limit) ≡ record { outcome = Undecided (causes_too_large app limit) []; table = None } → ⊥
  -- a good table has no defect, and rows that have one are not clear
  pub no_defect : (large : Option Large) (analysis : Analysis) → GoodTableBy analysis app lists rows → RechecksTo app lists large declaration (beside ∷ []) analysis rows (Defect defect) → ⊥
  pub not_clear : (large : Option Large) (analysis : Analysis) → IsTableDefect analysis app lists rows defect → RechecksTo app lists large declaration [] analysis rows (By Clear) → ⊥
  -- under lists without the word rows of the second analysis come to nothing; under those that have it they are asked for
  pub unasked : (r : Rechecked) → RechecksTo app lists None declaration [] Cells rows r → r ≢ Unasked → ⊥
  pub asked : RechecksTo app lists (Some large_word.Cells) declaration [] Cells rows Unasked → ⊥

abbrev pub AppsComeOut : Type 0
AppsComeOut = (app : App) (lists : Lists) (declaration : Declaration) (rows : List Row) (beside : Cause) (found : Finding) (defect : TableDefect) → ComesOut app lists declaration rows beside found defect
