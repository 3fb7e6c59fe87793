use Rattle.std.proofs.Common.{map}
use Rattle.toml.specs.View.{view}
use Rattle.vet_base.specs.Script.{run}
use Rattle.method_fields.specs.Positions.{position_row, position_rows}
use Rattle.form_fields.proofs.Walking.{Walking}
use Rattle.method_fields.proofs.positions.position_rows.Given as goal

abbrev pub invariant-loop-value : goal.invariant-loop-value
invariant-loop-value l = Walking view l.items l.value-index (position_row l.section l.key l.count) l.positions.items tt (run (position_rows l.section l.key l.count (map view l.items)))
