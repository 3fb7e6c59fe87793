-- An app has one flow, of which it is judged.
use Rattle.std.proofs.Common.{◌≡◌, List, Option, Some, None, refl, ap, ◌∙◌}
use Rattle.app_flow.specs.Flow.{IsFlow, OneFlow, by_paths, by_cells, too_large}
use Rattle.app_flow.specs.declared.flow.Flow.{Flow}
use Rattle.app_flow.specs.declared.flow.Flow.TheVariants.{Rows, TooLarge}
use Rattle.app_machine.specs.declared.app.App.{App}
use Rattle.app_machine.specs.declared.lists.Lists.{Lists}
use Rattle.app_machine.specs.declared.papers.Declaration.{Declaration}
use Rattle.flow_analyses.specs.declared.Analysis.TheVariants.{Paths, Cells}
use Rattle.outcomes.specs.declared.outcome.Cause.{Cause}
use Rattle.store_lists.specs.declared.large.Large.{Large}
use Rattle.store_lists.specs.declared.large.Large.TheVariants as large_word
use Rattle.verdict.specs.declared.outcome.Judged.{Judged}
use Rattle.verdict.specs.Verdict.{ComesTo, judged_by}
use Rattle.analysis_witness.specs.ByFlow.{AppsAreJudgedByTheirFlow}

unasked : let none : Option Large = None in none ≡ Some large_word.Cells → ⊥
unasked same = cc

module _ (law : OneFlow) (app : App) (lists : Lists) (declaration : Declaration) (beside : List Cause) (j : Judged) where
  -- what an app comes to whose flow this is
  by_flow : (large : Option Large) (flow : Flow) → IsFlow app lists large flow → ComesTo app lists large declaration beside j →
      j.table ≡ (judged_by app lists declaration beside flow).table
  by_flow large flow is comes =
      let same : comes.flow ≡ flow = law app lists large comes.flow flow comes.is_flow is in
      ap (λ (k : Judged). k.table) (comes.same ∙ ap (judged_by app lists declaration beside) same)

pub apps_are_judged_by_their_flow : OneFlow → AppsAreJudgedByTheirFlow
apps_are_judged_by_their_flow law app lists declaration beside j rows = record {
  by_first = λ large fits comes.
      by_flow law app lists declaration beside j large (Rows (record { analysis = Paths; rows = rows })) (by_paths fits.are fits.few) comes;
  by_second = λ more fits comes.
      by_flow law app lists declaration beside j (Some large_word.Cells) (Rows (record { analysis = Cells; rows = rows }))
      (by_cells more refl fits.are fits.few) comes;
  unasked = λ more comes.
      by_flow law app lists declaration beside j None (TooLarge lists.rows) (too_large refl more (λ asked. absurd (unasked asked))) comes;
  too_large = λ more also comes.
      by_flow law app lists declaration beside j (Some large_word.Cells) (TooLarge lists.rows) (too_large refl more (λ asked. also)) comes;
}
