-- Rule 48: a library call gives back an object that the library has.
use Rattle.std.specs.Prelude.{◌≡◌, ◌≢◌, ℕ, List, [], ◌∷◌}
use Rattle.access_path.specs.declared.path.Path.{Path}
use Rattle.app_machine.specs.declared.summary.Gives.TheVariants as gives
use Rattle.app_machine.specs.declared.lists.Lists.{Lists}
use Rattle.app_machine.specs.declared.lists.SummaryId.{SummaryId}
use Rattle.app_machine.specs.declared.app.App.{App}
use Rattle.app_machine.specs.Names.{Name}
use Rattle.app_machine.specs.State.{result_register}
use Rattle.app_machine.specs.Summaries.{Below}
use Rattle.fact_rows.specs.declared.context.Node.{Node}
use Rattle.fact_rows.specs.declared.site.Site.{Site}
use Rattle.fact_rows.specs.declared.site.Site.TheVariants.{Component}
use Rattle.fact_rows.specs.declared.row.Row.{Row}
use Rattle.fact_rows.specs.declared.row.Row.TheVariants.{Points, Taint, Live, CompTaint, Handed, HandedTaint, Uses}
use Rattle.flow_rules.specs.LibraryRules.{RowAt, HasReference}
use Rattle.flow_rules.specs.Nodes.{at_pc, GoesOn}
use Rattle.flow_rules.specs.Sites.{SiteClass}

-- The result of the call may be an object of the site: the row that it uses says that it gives back what was handed, and the
-- site's class is below the type of the result, a reference type.
pub record MayGiveBack (app : App) (lists : Lists) (n : Node) (u : SummaryId) (s : Site) : Type 0 where
  pub call : RowAt app lists n u
  pub is_handed : call.row.gives ≡ gives.Handed
  pub reference : HasReference call
  pub class : Name
  pub of_class : SiteClass app lists s class
  pub below : Below app lists class call.at.proto.ret

module _ (app : App) (lists : Lists) where
  pub data HandedRule : ℕ → List Row → Row → Type 0 where
    -- 48. A handed result is any object that was handed, or any component that is there, with what it leads to.
    handed_points : {n : Node} {u : SummaryId} {pc : ℕ} {s : Site} →
        MayGiveBack app lists n u s →
        GoesOn app n pc →
        HandedRule 48 (Uses n u ∷ Handed s ∷ []) (Points (at_pc n pc) result_register s)
    handed_taint : {n : Node} {u : SummaryId} {pc l : ℕ} {s : Site} {p : Path} →
        MayGiveBack app lists n u s →
        GoesOn app n pc →
        HandedRule 48 (Uses n u ∷ Handed s ∷ HandedTaint s p l ∷ []) (Taint (at_pc n pc) result_register p l)
    live_points : {n : Node} {u : SummaryId} {c state pc : ℕ} →
        MayGiveBack app lists n u (Component c) →
        state ≢ 0 →
        GoesOn app n pc →
        HandedRule 48 (Uses n u ∷ Live c state ∷ []) (Points (at_pc n pc) result_register (Component c))
    live_taint : {n : Node} {u : SummaryId} {c state pc l : ℕ} {p : Path} →
        MayGiveBack app lists n u (Component c) →
        state ≢ 0 →
        GoesOn app n pc →
        HandedRule 48 (Uses n u ∷ Live c state ∷ CompTaint c state p l ∷ []) (Taint (at_pc n pc) result_register p l)
