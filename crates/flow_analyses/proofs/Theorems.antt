-- The theorems of either analysis, by those of each.
use Rattle.std.proofs.Common.{List}
use Rattle.cell_proof.specs.Covering.{EveryGoodCellTableCoversEveryRun}
use Rattle.cell_proof.specs.Staying.{CellRulesStayInApp}
use Rattle.fact_rows.specs.declared.row.Row.{Row}
use Rattle.flow_analyses.specs.declared.Analysis.TheVariants.{Paths, Cells}
use Rattle.flow_analyses.specs.Analyses.{DerivesBy, FollowsBy}
use Rattle.flow_analyses.specs.Laws.{AllDerivedRowsAreGood, EachAnalysisStays, EachGoodTableCovers}
use Rattle.flow_proof.specs.Covering.{EveryGoodTableCoversEveryRun}
use Rattle.flow_proof.specs.Staying.{RulesStayInApp}
use Rattle.flow_rules.specs.Rules.{Starts}
use Rattle.rule_sets.specs.OfApp.{DerivesAsTheApp, IsGoodAsTheApp}
use Rattle.rule_sets.proofs.Deriving.{derivable_rule, derivable_start, each_known}
use Rattle.vet_base.specs.Members.{In}

pub each_covers : IsGoodAsTheApp → EveryGoodTableCoversEveryRun → EveryGoodCellTableCoversEveryRun → EachGoodTableCovers
each_covers as_app paths cells Paths app lists table sound good = paths app lists table sound ((as_app app lists table).0 good)
each_covers as_app paths cells Cells app lists table sound good = cells app lists table sound good

pub each_stays : DerivesAsTheApp → RulesStayInApp → CellRulesStayInApp → EachAnalysisStays
each_stays as_app paths cells Paths app lists sound sound_lists row derives =
    (paths app lists sound sound_lists).derivable row ((as_app app lists row).0 derives)
each_stays as_app paths cells Cells app lists sound sound_lists row derives = (cells app lists sound sound_lists).derivable row derives

pub all_are_good : EachAnalysisStays → AllDerivedRowsAreGood
all_are_good stays analysis app lists table sound sound_lists exact =
    let R = FollowsBy analysis app lists in
    let S = Starts app in
    record {
      in_app = λ row there. stays analysis app lists sound sound_lists row ((exact row).0 there);
      starts = λ row start. (exact row).1 (derivable_start R S row start);
      closed = λ rule premises row follows known. (exact row).1 (derivable_rule R S rule premises row follows
          (each_known (λ x. In x table) (DerivesBy analysis app lists) (λ x. (exact x).0) premises known));
    }
