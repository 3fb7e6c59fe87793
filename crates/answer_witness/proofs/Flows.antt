-- A flow keeps to its limit and to its analysis, and rows have one defect.
use Rattle.std.proofs.Common.{◌≡◌, ◌≢◌, ◌<◌, ◌≤◌, ℕ, List, [], length, Option, Some, None, refl, subst, sym, arith}
use Rattle.app_flow.specs.Defect.{OneDefect}
use Rattle.app_flow.specs.Flow.{AreDerivable, IsFlow, MoreAreDerivable, by_paths, by_cells, too_large}
use Rattle.app_flow.specs.declared.flow.Flow.{Flow}
use Rattle.app_flow.specs.declared.flow.Flow.TheVariants.{Rows, TooLarge}
use Rattle.app_flow.proofs.OneFlow.{no_others}
use Rattle.app_machine.specs.declared.app.App.{App}
use Rattle.app_machine.specs.declared.lists.Lists.{Lists}
use Rattle.cert_checker.specs.declared.defect.RowDefect.TheVariants.{Stranger, NoStart}
use Rattle.cert_checker.specs.declared.defect.TableDefect.{TableDefect}
use Rattle.cert_checker.specs.declared.defect.TableDefect.TheVariants.{At, NotClosed}
use Rattle.fact_rows.specs.declared.row.Row.{Row}
use Rattle.fact_rows.specs.declared.row.Row.TheVariants.{Label, Taint}
use Rattle.flow_analyses.specs.declared.Analysis.{Analysis}
use Rattle.flow_analyses.specs.declared.Analysis.TheVariants.{Paths, Cells}
use Rattle.store_lists.specs.declared.large.Large.{Large}
use Rattle.store_lists.specs.declared.large.Large.TheVariants as large_word
use Rattle.answer_witness.specs.FlowFacts.{AllFlowsAreTold}

abbrev rows_in : Flow → List Row
rows_in (Rows table) = table.rows
rows_in (TooLarge limit) = []

abbrev analysis_in : Flow → Option Analysis
analysis_in (Rows table) = Some table.analysis
analysis_in (TooLarge limit) = None

abbrev limit_in : Flow → Option ℕ
limit_in (Rows table) = None
limit_in (TooLarge limit) = Some limit

module _ (app : App) (lists : Lists) (large : Option Large) where
  few_rows : (flow : Flow) → IsFlow app lists large flow → length (rows_in flow) ≤ lists.rows
  few_rows _ (by_paths are few) = few
  few_rows _ (by_cells more asked are few) = few
  few_rows _ (too_large same more cells) = omega arith

  no_more : (analysis : Analysis) (rows : List Row) → lists.rows < length rows → IsFlow app lists large (Rows (record { analysis = analysis; rows = rows })) → ⊥
  no_more analysis rows more is =
      let few : length rows ≤ lists.rows = few_rows (Rows (record { analysis = analysis; rows = rows })) is in
      let none : ⊥ = omega (arith, more, few) in none

  -- a flow by the second analysis
  by_second : (flow : Flow) → IsFlow app lists large flow → analysis_in flow ≡ Some Cells →
      (large ≡ Some large_word.Cells) × MoreAreDerivable Paths app lists lists.rows
  by_second _ (by_paths are few) same = let none : ⊥ = cc in absurd none
  by_second _ (by_cells more asked are few) same = (asked, more)
  by_second _ (too_large is more cells) same = let none : ⊥ = cc in absurd none

  -- and that of an app that is too large
  by_none : (flow : Flow) (limit : ℕ) → IsFlow app lists large flow → limit_in flow ≡ Some limit →
      (limit ≡ lists.rows) × (MoreAreDerivable Paths app lists lists.rows) × (large ≡ Some large_word.Cells → MoreAreDerivable Cells app lists lists.rows)
  by_none _ limit (by_paths are few) same = let none : ⊥ = cc in absurd none
  by_none _ limit (by_cells more asked are few) same = let none : ⊥ = cc in absurd none
  by_none _ limit (too_large {limit = own} is more cells) same =
      let equal : own ≡ limit = cc in (
        subst (λ k. k ≡ lists.rows) equal is,
        subst (MoreAreDerivable Paths app lists) is more,
        λ asked. subst (MoreAreDerivable Cells app lists) is (cells asked),
      )

  second_of : (rows : List Row) → IsFlow app lists large (Rows (record { analysis = Cells; rows = rows })) →
      (large ≡ Some large_word.Cells) × MoreAreDerivable Paths app lists lists.rows
  second_of rows is = by_second (Rows (record { analysis = Cells; rows = rows })) is refl

  fits : (analysis : Analysis) (others : List Row) → AreDerivable analysis app lists others → length others ≤ lists.rows →
      MoreAreDerivable analysis app lists lists.rows → ⊥
  fits analysis others are few more = no_others app lists analysis others lists.rows are few more

asked_for : let none : Option Large = None in none ≡ Some large_word.Cells → ⊥
asked_for same = cc

other_sort : (start row : Row) → let one : Option TableDefect = Some (At NoStart start) in one ≡ Some (At Stranger row) → ⊥
other_sort start row same = cc

is_defect : (row : Row) → let one : Option TableDefect = Some (NotClosed row) in one ≡ None → ⊥
is_defect row same = cc

pub flows_are_told : OneDefect → AllFlowsAreTold
flows_are_told law app lists large rows others = record {
  no_more = λ analysis. no_more app lists large analysis rows;
  own_limit = λ limit other is. other (by_none app lists large (TooLarge limit) limit is refl).0;
  first_fits = λ are few is. fits app lists large Paths others are few (second_of app lists large rows is).1;
  no_word = λ is. asked_for (second_of app lists None rows is).0;
  either_fits = λ limit are few is. fits app lists large Paths others are few (by_none app lists large (TooLarge limit) limit is refl).1;
  second_fits = λ limit are few is.
      fits app lists large Cells others are few ((by_none app lists (Some large_word.Cells) (TooLarge limit) limit is refl).2 refl);
  no_stranger = λ analysis start lacks row told.
      other_sort start row (law analysis app lists rows (Some (At NoStart start)) (Some (At Stranger row)) lacks told);
  not_good = λ analysis row lacks good. is_defect row (law analysis app lists rows (Some (NotClosed row)) None lacks good);
  label_of_cells = λ n r l there good. (good.in_app (Label n r l) there).1.1.0;
  taint_of_paths = λ n r l p there good. (good.in_app (Taint n r p l) there).1.1.0;
}
