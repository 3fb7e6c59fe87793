use Rattle.runner_menu.proofs.Tabled.{TablesUpTo}
use Rattle.runner_menu.proofs.tables.tables_of.Given as goal

abbrev pub invariant-loop-number : goal.invariant-loop-number
invariant-loop-number l = TablesUpTo l.app l.lists l.tables.items l.number
