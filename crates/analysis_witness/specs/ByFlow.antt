-- By which analysis an app is judged. Behind each fact stands what code would answer that does otherwise.
use Rattle.std.specs.Prelude.{◌≡◌, ◌≤◌, List, length, Option, Some, None}
use Rattle.app_flow.specs.Flow.{AreDerivable, MoreAreDerivable}
use Rattle.app_machine.specs.declared.app.App.{App}
use Rattle.app_machine.specs.declared.lists.Lists.{Lists}
use Rattle.app_machine.specs.declared.papers.Declaration.{Declaration}
use Rattle.fact_rows.specs.declared.row.Row.{Row}
use Rattle.flow_analyses.specs.declared.Analysis.{Analysis}
use Rattle.flow_analyses.specs.declared.Analysis.TheVariants.{Paths, Cells}
use Rattle.outcomes.specs.declared.outcome.Cause.{Cause}
use Rattle.store_lists.specs.declared.large.Large.{Large}
use Rattle.store_lists.specs.declared.large.Large.TheVariants as large_word
use Rattle.verdict.specs.declared.outcome.Judged.{Judged}
use Rattle.verdict.specs.Verdict.{ComesTo}

module _ (app : App) (lists : Lists) where
  -- these rows are all that follow by the analysis, and keep to the limit; or more follow
  pub record Fits (analysis : Analysis) (rows : List Row) : Type 0 where
    pub are : AreDerivable analysis app lists rows
    pub few : length rows ≤ lists.rows

  abbrev pub IsMore : Analysis → Type 0
  IsMore analysis = MoreAreDerivable analysis app lists lists.rows

  module _ (declaration : Declaration) (beside : List Cause) (j : Judged) where
    -- the app comes to this, as the lists say how it is judged where it is large
    abbrev pub ComesOut : Option Large → Type 0
    ComesOut large = ComesTo app lists large declaration beside j

    pub record IsJudgedByFlow (rows : List Row) : Type 0 where
      -- where the first fits it is by the first; else by the second, or called too large
      pub by_first : (large : Option Large) → Fits Paths rows → ComesOut large → j.table ≡ Some (record { analysis = Paths; rows = rows })
      -- where the first does not fit, the second does, and the lists ask for it, it is by the second; else called too large
      pub by_second : IsMore Paths → Fits Cells rows → ComesOut (Some large_word.Cells) → j.table ≡ Some (record { analysis = Cells; rows = rows })
      -- where the first does not fit, it is too large if the lists do not ask for the second; else by the second, unasked
      pub unasked : IsMore Paths → ComesOut None → j.table ≡ None
      -- and it is if neither fits
      pub too_large : IsMore Paths → IsMore Cells → ComesOut (Some large_word.Cells) → j.table ≡ None

abbrev pub AppsAreJudgedByTheirFlow : Type 0
AppsAreJudgedByTheirFlow =
    (app : App) (lists : Lists) (declaration : Declaration) (beside : List Cause) (j : Judged) (rows : List Row) →
    IsJudgedByFlow app lists declaration beside j rows
