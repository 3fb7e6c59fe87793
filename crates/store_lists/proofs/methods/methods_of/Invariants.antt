use Rattle.std.proofs.Common.{map}
use Rattle.toml.specs.View.{view}
use Rattle.vet_base.specs.Script.{run}
use Rattle.store_lists.specs.Methods.{method_row, methods_of}
use Rattle.form_fields.proofs.Eaching.{Eaching}
use Rattle.store_lists.proofs.methods.methods_of.Given as goal

abbrev pub invariant-loop-value : goal.invariant-loop-value
invariant-loop-value l = Eaching view l.tables l.value-index (method_row l.listed) l.rows (run (methods_of l.listed (map view l.tables)))
