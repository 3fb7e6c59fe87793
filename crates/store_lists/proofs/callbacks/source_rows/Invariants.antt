use Rattle.std.proofs.Common.{map}
use Rattle.toml.specs.View.{view}
use Rattle.vet_base.specs.Script.{run}
use Rattle.form_fields.specs.declared.words.Section.TheVariants as section
use Rattle.form_fields.specs.declared.words.Key.TheVariants as key
use Rattle.method_fields.specs.Positions.{named_row, named_rows}
use Rattle.form_fields.proofs.Walking.{Walking}
use Rattle.store_lists.proofs.callbacks.source_rows.Given as goal

abbrev pub invariant-loop-value : goal.invariant-loop-value
invariant-loop-value l = Walking view l.items l.value-index (named_row section.Callback key.Sources l.count l.categories) l.sources.items tt (run (named_rows section.Callback key.Sources l.count l.categories (map view l.items)))
