-- What the parts of an app come to by rows that anyone made.
use Rattle.std.specs.Prelude.{◌≡◌, List, ◌++◌, Option, Some, None}
use Rattle.app_flow.specs.Defect.{IsTableDefect}
use Rattle.app_link.specs.IsApp.{IsApp}
use Rattle.app_machine.specs.declared.app.App.{App}
use Rattle.app_machine.specs.declared.lists.Lists.{Lists}
use Rattle.app_machine.specs.declared.papers.Declaration.{Declaration}
use Rattle.dex_tables.specs.declared.dex.Dex.{Dex}
use Rattle.fact_rows.specs.declared.row.Row.{Row}
use Rattle.flow_analyses.specs.declared.Analysis.{Analysis}
use Rattle.flow_analyses.specs.declared.Analysis.TheVariants.{Paths, Cells}
use Rattle.flow_analyses.specs.Analyses.{GoodTableBy}
use Rattle.outcomes.specs.declared.outcome.Cause.{Cause}
use Rattle.outcomes.specs.Causes.{causes_of}
use Rattle.outcomes.specs.Findings.{findings_of}
use Rattle.store_lists.specs.declared.large.Large.{Large}
use Rattle.store_lists.specs.declared.large.Large.TheVariants as large_word
use Rattle.verdict.specs.declared.outcome.Part.{Part}
use Rattle.verdict.specs.declared.outcome.Reason.{Reason}
use Rattle.verdict.specs.declared.outcome.Rechecked.{Rechecked}
use Rattle.verdict.specs.declared.outcome.Rechecked.TheVariants.{Refused, Unasked, Defect, By}
use Rattle.verdict.specs.declared.papers.Papers.{Papers}
use Rattle.verdict.specs.declared.parts.Parts.{Parts}
use Rattle.verdict.specs.Outcome.{outcome_of}
use Rattle.verdict.specs.Refuses.{Refuses, Reads}
use Rattle.verdict.specs.Tells.{TellsAll, TellsOfApp}
use Rattle.verdict.specs.Verdict.{told_beside}

-- the lists ask for the analysis: for the first always, for the second where they have its word
abbrev pub IsAsked : Analysis → Option Large → Type 0
IsAsked Paths large = Unit {0}
IsAsked Cells None = ⊥
IsAsked Cells (Some large_word.Cells) = Unit {0}

-- That the lists do not ask for the analysis; or the defect of the rows by it; or, where they are a good table, what the causes and
-- findings that they tell make of the app, with the causes beside them.
module _ (app : App) (lists : Lists) (large : Option Large) (declaration : Declaration) (beside : List Cause) (analysis : Analysis) (rows : List Row) where
  abbrev pub RechecksTo : Rechecked → Type 0
  RechecksTo (Refused part reason) = ⊥
  RechecksTo Unasked = IsAsked analysis large → ⊥
  RechecksTo (Defect defect) = IsAsked analysis large × IsTableDefect analysis app lists rows defect
  RechecksTo (By outcome) =
      IsAsked analysis large
      × GoodTableBy analysis app lists rows
      × (outcome ≡ outcome_of (causes_of app rows ++ beside) (findings_of app lists declaration rows))

-- the first refusal, or else what the app comes to by the rows
pub data Rejudgement (parts : Parts) (analysis : Analysis) (rows : List Row) : Rechecked → Type 0 where
  refused : (part : Part) (reason : Reason) → Refuses parts part reason → Rejudgement parts analysis rows (Refused part reason)
  linked : {r : Rechecked} (papers : Papers) (dexes : List Dex) (app : App) → Reads parts papers dexes → IsApp dexes papers.manifest papers.layouts app
      → RechecksTo app papers.lists papers.large papers.declaration (told_beside papers dexes app) analysis rows r → Rejudgement parts analysis rows r

-- the parts come to nothing else by the rows
abbrev pub OnlyRejudgement : Parts → Analysis → List Row → Rechecked → Type 0
OnlyRejudgement parts analysis rows r = (other : Rechecked) → Rejudgement parts analysis rows other → other ≡ r

-- an outcome by good rows leaves out nothing that a run of the app does
abbrev pub TellsAllBy : App → Lists → Declaration → Rechecked → Type 0
TellsAllBy app lists declaration (By outcome) = TellsAll app lists declaration outcome
TellsAllBy app lists declaration (Refused part reason) = Unit {0}
TellsAllBy app lists declaration Unasked = Unit {0}
TellsAllBy app lists declaration (Defect defect) = Unit {0}

abbrev pub TellsBy : Parts → Rechecked → Type 0
TellsBy parts (By outcome) = TellsOfApp parts outcome
TellsBy parts (Refused part reason) = Unit {0}
TellsBy parts Unasked = Unit {0}
TellsBy parts (Defect defect) = Unit {0}
