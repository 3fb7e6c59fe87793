-- The rows that follow in an app are a table.
use Rattle.std.proofs.Common.{◌≡◌, ◌≤◌, List, Option, length, sym, subst, arith}
use Rattle.std.specs.Prelude.{IfSome}
use Rattle.app_machine.specs.declared.app.App.{App}
use Rattle.app_machine.specs.declared.lists.Lists.{Lists}
use Rattle.app_machine.specs.declared.papers.Declaration.{Declaration}
use Rattle.app_machine.specs.SoundLists.{SoundLists}
use Rattle.app_flow.specs.declared.flow.Flow.{Flow}
use Rattle.app_flow.specs.declared.flow.Flow.TheVariants.{Rows, TooLarge}
use Rattle.app_flow.specs.Flow.{IsFlow, by_paths, by_cells, too_large, IsGoodFlow}
use Rattle.outcomes.specs.declared.outcome.Cause.{Cause}
use Rattle.store_lists.specs.declared.large.Large.{Large}
use Rattle.verdict.specs.declared.outcome.Judged.{Judged}
use Rattle.verdict.specs.Table.{IsTable}
use Rattle.verdict.specs.Verdict.{judged_by}

table_by : (app : App) (lists : Lists) (large : Option Large) (declaration : Declaration) (beside : List Cause) (flow : Flow) → IsFlow app lists large flow → IsGoodFlow app lists flow → SoundLists lists
    → IfSome (judged_by app lists declaration beside flow).table IsTable
table_by app lists large declaration beside _ (by_paths {rows = rows} are few) good sound =
    let within : length rows ≤ 4000000 = omega (arith, few, sound.few_rows) in
    record { app = app; lists = lists; ascending = are.ascending; few = within; in_app = good.in_app }
table_by app lists large declaration beside _ (by_cells {rows = rows} more asked are few) good sound =
    let within : length rows ≤ 4000000 = omega (arith, few, sound.few_rows) in
    record { app = app; lists = lists; ascending = are.ascending; few = within; in_app = good.in_app }
table_by app lists large declaration beside _ (too_large same more cells) good sound = tt

pub judged_table : (app : App) (lists : Lists) (large : Option Large) (declaration : Declaration) (beside : List Cause) (flow : Flow) (judged : Judged) → IsFlow app lists large flow → IsGoodFlow app lists flow → SoundLists lists
    → judged ≡ judged_by app lists declaration beside flow → IfSome judged.table IsTable
judged_table app lists large declaration beside flow judged is good sound same =
    subst (λ (j : Judged). IfSome j.table IsTable) (sym same) (table_by app lists large declaration beside flow is good sound)
