-- An app has one flow by its lists.
use Rattle.std.proofs.Common.{◌≡◌, ◌≤◌, ◌<◌, ℕ, List, Option, Some, length, sym, ap, ◌∙◌, arith}
use Rattle.app_machine.specs.declared.app.App.{App}
use Rattle.app_machine.specs.declared.lists.Lists.{Lists}
use Rattle.fact_rows.specs.declared.row.Row.{Row}
use Rattle.fact_rows.specs.Order.{RowOrder, row_cmp}
use Rattle.flow_analyses.specs.declared.Analysis.{Analysis}
use Rattle.flow_analyses.specs.declared.Analysis.TheVariants.{Paths, Cells}
use Rattle.store_lists.specs.declared.large.Large.{Large}
use Rattle.vet_base.proofs.Apart.{no_more}
use Rattle.vet_base.proofs.Ascending.{ascending_alike}
use Rattle.app_flow.specs.declared.flow.Flow.{Flow}
use Rattle.app_flow.specs.declared.flow.Flow.TheVariants.{Rows, TooLarge}
use Rattle.app_flow.specs.declared.flow_rows.FlowTable.{FlowTable}
use Rattle.app_flow.specs.Flow.{AreDerivable, MoreAreDerivable, IsFlow, by_paths, by_cells, too_large, OneFlow}

abbrev table_by : Analysis → List Row → Flow
table_by analysis rows = let table : FlowTable = record { analysis = analysis; rows = rows } in Rows table

module _ (app : App) (lists : Lists) where
  -- no more rows are derivable than stand in the list of all
  pub no_others : (analysis : Analysis) (rows : List Row) (limit : ℕ) → AreDerivable analysis app lists rows → length rows ≤ limit →
      MoreAreDerivable analysis app lists limit → ⊥
  no_others analysis rows limit all few more =
      let at_most : length more.some ≤ length rows = no_more more.some rows more.apart (λ row there. (all.exact row).1 (more.derivable row there)) in
      let many : limit < length more.some = more.more in
      omega arith

  no_limit : (analysis : Analysis) (rows : List Row) (limit : ℕ) → limit ≡ lists.rows → AreDerivable analysis app lists rows → length rows ≤ lists.rows →
      MoreAreDerivable analysis app lists limit → ⊥
  no_limit analysis rows limit is all few more = no_others analysis rows limit all (rw is few) more

  same_rows : RowOrder → (analysis : Analysis) (rows others : List Row) → AreDerivable analysis app lists rows → AreDerivable analysis app lists others → rows ≡ others
  same_rows order analysis rows others one other =
      ascending_alike row_cmp order.total rows others one.ascending other.ascending
      (λ row. (λ there. (other.exact row).1 ((one.exact row).0 there), λ there. (one.exact row).1 ((other.exact row).0 there)))

  pub one_of : RowOrder → (large : Option Large) (one other : Flow) → IsFlow app lists large one → IsFlow app lists large other → one ≡ other
  one_of order large _ _ (by_paths {rows = rows} a few) (by_paths {rows = others} b also) = ap (table_by Paths) (same_rows order Paths rows others a b)
  one_of order large _ _ (by_paths {rows = rows} a few) (by_cells more asked b also) = absurd (no_others Paths rows lists.rows a few more)
  one_of order large _ _ (by_paths {rows = rows} a few) (too_large {limit = limit} is more cells) = absurd (no_limit Paths rows limit is a few more)
  one_of order large _ _ (by_cells more asked a few) (by_paths {rows = others} b also) = absurd (no_others Paths others lists.rows b also more)
  one_of order large _ _ (by_cells {rows = rows} more asked a few) (by_cells {rows = others} more_other asked_other b also) =
      ap (table_by Cells) (same_rows order Cells rows others a b)
  one_of order large _ _ (by_cells {rows = rows} more asked a few) (too_large {limit = limit} is more_other cells) =
      absurd (no_limit Cells rows limit is a few (cells asked))
  one_of order large _ _ (too_large {limit = limit} is more cells) (by_paths {rows = others} b also) = absurd (no_limit Paths others limit is b also more)
  one_of order large _ _ (too_large {limit = limit} is more cells) (by_cells {rows = others} more_other asked b also) =
      absurd (no_limit Cells others limit is b also (cells asked))
  one_of order large _ _ (too_large is more cells) (too_large is_other more_other cells_other) = ap TooLarge (is ∙ sym is_other)

pub one_flow : RowOrder → OneFlow
one_flow order app lists large one other a b = one_of app lists order large one other a b
