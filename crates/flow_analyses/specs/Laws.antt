-- The theorems of either analysis.
use Rattle.std.specs.Prelude.{◌↔◌, List}
use Rattle.app_machine.specs.declared.app.App.{App}
use Rattle.app_machine.specs.declared.lists.Lists.{Lists}
use Rattle.app_machine.specs.Sound.{SoundApp}
use Rattle.app_machine.specs.SoundLists.{SoundLists}
use Rattle.fact_rows.specs.declared.row.Row.{Row}
use Rattle.flow_analyses.specs.declared.Analysis.{Analysis}
use Rattle.flow_analyses.specs.Analyses.{DerivesBy, GoodTableBy, InAppBy}
use Rattle.flow_proof.specs.Covering.{CoversEveryRun}
use Rattle.vet_base.specs.Members.{In}

abbrev pub EachGoodTableCovers : Type 0
EachGoodTableCovers =
    (analysis : Analysis) (app : App) (lists : Lists) (table : List Row) →
    SoundApp app →
    GoodTableBy analysis app lists table →
    CoversEveryRun app lists (λ row. In row table)

abbrev pub EachAnalysisStays : Type 0
EachAnalysisStays =
    (analysis : Analysis) (app : App) (lists : Lists) →
    SoundApp app →
    SoundLists lists →
    (row : Row) → DerivesBy analysis app lists row → InAppBy analysis app lists row

abbrev pub AllDerivedRowsAreGood : Type 0
AllDerivedRowsAreGood =
    (analysis : Analysis) (app : App) (lists : Lists) (table : List Row) →
    SoundApp app →
    SoundLists lists →
    ((row : Row) → In row table ↔ DerivesBy analysis app lists row) →
    GoodTableBy analysis app lists table
