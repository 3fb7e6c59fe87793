use Rattle.std.proofs.Common.{map}
use Rattle.toml.specs.View.{view}
use Rattle.vet_base.specs.Script.{run}
use Rattle.method_fields.specs.Positions.{named_row, named_rows}
use Rattle.form_fields.proofs.Walking.{Walking}
use Rattle.method_fields.proofs.positions.named_rows.Given as goal

abbrev pub invariant-loop-value : goal.invariant-loop-value
invariant-loop-value l = Walking view l.items l.value-index (named_row l.section l.key l.count l.names) l.pairs.items tt (run (named_rows l.section l.key l.count l.names (map view l.items)))
