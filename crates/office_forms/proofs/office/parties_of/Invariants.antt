use Rattle.std.proofs.Common.{map}
use Rattle.toml.specs.View.{view}
use Rattle.vet_base.specs.Script.{run}
use Rattle.office_forms.specs.Office.{party_row, parties_of}
use Rattle.form_fields.proofs.Walking.{Walking}
use Rattle.office_forms.proofs.office.parties_of.Given as goal

abbrev pub invariant-loop-value : goal.invariant-loop-value
invariant-loop-value l = Walking view l.tables l.value-index party_row l.parties.items tt (run (parties_of (map view l.tables)))
