-- No rule of the second set gives a row from nothing.
use Rattle.std.specs.Prelude.{ℕ, []}
use Rattle.app_machine.specs.declared.lists.Lists.{Lists}
use Rattle.app_machine.specs.declared.app.App.{App}
use Rattle.fact_rows.specs.declared.row.Row.{Row}
use Rattle.cell_rules.specs.Rules.{Follows}

abbrev pub EveryCellRuleHasPremises : Type 0
EveryCellRuleHasPremises = (app : App) (lists : Lists) (rule : ℕ) (row : Row) → Follows app lists rule [] row → ⊥
