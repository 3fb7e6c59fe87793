use Rattle.std.proofs.Common.{map}
use Rattle.toml.specs.View.{view}
use Rattle.vet_base.specs.Script.{run}
use Rattle.office_forms.specs.Manifest.{component_row, components_of}
use Rattle.form_fields.proofs.Walking.{Walking}
use Rattle.office_forms.proofs.manifest.components_of.Given as goal

abbrev pub invariant-loop-value : goal.invariant-loop-value
invariant-loop-value l = Walking view l.tables l.value-index component_row l.components.items tt (run (components_of (map view l.tables)))
