use Rattle.std.proofs.Common.{map}
use Rattle.toml.specs.View.{view}
use Rattle.vet_base.specs.Script.{run}
use Rattle.office_forms.specs.Layouts.{layout_row, layouts_of, seen_in}
use Rattle.form_fields.proofs.Walking.{Walking}
use Rattle.office_forms.proofs.layouts.layouts_of.Given as goal

abbrev pub invariant-loop-value : goal.invariant-loop-value
invariant-loop-value l = Walking view l.layouts l.value-index layout_row l.names.items (seen_in l.found) (run (layouts_of (map view l.layouts)))
