-- Rule 48: a library call gives back an object that the library has. What it holds is in its cells.
use Rattle.std.specs.Prelude.{◌≢◌, ℕ, List, [], ◌∷◌}
use Rattle.app_machine.specs.declared.lists.Lists.{Lists}
use Rattle.app_machine.specs.declared.lists.SummaryId.{SummaryId}
use Rattle.app_machine.specs.declared.app.App.{App}
use Rattle.app_machine.specs.State.{result_register}
use Rattle.fact_rows.specs.declared.context.Node.{Node}
use Rattle.fact_rows.specs.declared.site.Site.{Site}
use Rattle.fact_rows.specs.declared.site.Site.TheVariants.{Component}
use Rattle.fact_rows.specs.declared.row.Row.{Row}
use Rattle.fact_rows.specs.declared.row.Row.TheVariants.{Points, Live, Handed, Uses}
use Rattle.flow_rules.specs.HandedRules.{MayGiveBack}
use Rattle.flow_rules.specs.Nodes.{at_pc, GoesOn}
use Rattle.cell_rules.specs.Reading.{ReadAt}

module _ (app : App) (lists : Lists) where
  pub data HandedRule : ℕ → List Row → Row → Type 0 where
    -- 48. A handed result is any object that was handed, or any component that is there.
    handed_points : {n : Node} {u : SummaryId} {pc v : ℕ} {s : Site} →
        MayGiveBack app lists n u s →
        GoesOn app n pc →
        ReadAt app n.by.method result_register pc v →
        HandedRule 48 (Uses n u ∷ Handed s ∷ []) (Points (at_pc n v) result_register s)
    live_points : {n : Node} {u : SummaryId} {c state pc v : ℕ} →
        MayGiveBack app lists n u (Component c) →
        state ≢ 0 →
        GoesOn app n pc →
        ReadAt app n.by.method result_register pc v →
        HandedRule 48 (Uses n u ∷ Live c state ∷ []) (Points (at_pc n v) result_register (Component c))
