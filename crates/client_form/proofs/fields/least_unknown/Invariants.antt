use Rattle.std.proofs.Common.{◌≡◌}
use Rattle.toml.specs.View.{table_view, members_view}
use Rattle.client_form.specs.Form.{least_unknown}
use Rattle.client_form.proofs.fields.least_unknown.Given as goal

abbrev pub invariant-loop-key : goal.invariant-loop-key
invariant-loop-key l = least_unknown (members_view l.key-iterator) ≡ least_unknown (table_view l.table)
