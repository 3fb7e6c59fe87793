use Rattle.std.proofs.Common.{map}
use Rattle.toml.specs.View.{view}
use Rattle.vet_base.specs.Script.{run}
use Rattle.store_lists.specs.Device.{static_row, statics_of}
use Rattle.form_fields.proofs.Eaching.{Eaching}
use Rattle.store_lists.proofs.device.statics_of.Given as goal

abbrev pub invariant-loop-value : goal.invariant-loop-value
invariant-loop-value l = Eaching view l.tables l.value-index (static_row l.categories) l.rows (run (statics_of l.categories (map view l.tables)))
