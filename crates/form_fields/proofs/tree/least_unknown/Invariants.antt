use Rattle.std.proofs.Common.{◌≡◌}
use Rattle.toml.specs.View.{table_view, members_view}
use Rattle.form_fields.specs.Fields.{least_unknown}
use Rattle.form_fields.proofs.tree.least_unknown.Given as goal

abbrev pub invariant-loop-key : goal.invariant-loop-key
invariant-loop-key l = least_unknown l.section (members_view l.key-iterator) ≡ least_unknown l.section (table_view l.table)
