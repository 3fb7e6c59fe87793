use Rattle.std.proofs.Common.{map}
use Rattle.toml.specs.View.{view}
use Rattle.vet_base.specs.Script.{run}
use Rattle.form_fields.specs.Fields.{text_item, text_items}
use Rattle.form_fields.proofs.Walking.{Walking}
use Rattle.form_fields.proofs.fields.text_items.Given as goal

abbrev pub invariant-loop-value : goal.invariant-loop-value
invariant-loop-value l = Walking view l.values l.value-index (text_item l.section l.key) l.texts.items tt (run (text_items l.section l.key (map view l.values)))
