use Rattle.std.proofs.Common.{map}
use Rattle.toml.specs.View.{view}
use Rattle.vet_base.specs.Script.{run}
use Rattle.office_forms.specs.Declaration.{use_row, uses_of}
use Rattle.form_fields.proofs.Walking.{Walking}
use Rattle.office_forms.proofs.declaration.uses_of.Given as goal

abbrev pub invariant-loop-value : goal.invariant-loop-value
invariant-loop-value l = Walking view l.uses l.value-index use_row l.pairs.items tt (run (uses_of (map view l.uses)))
