use Rattle.std.proofs.Common.{◌≡◌, map, length}
use Rattle.toml.specs.View.{view}
use Rattle.vet_base.specs.Script.{run}
use Rattle.store_lists.specs.Lists.{shared_row, shared_of}
use Rattle.form_fields.proofs.Eaching.{Eaching}
use Rattle.store_lists.proofs.lists.shared_of.Given as goal

abbrev pub invariant-loop-value : goal.invariant-loop-value
invariant-loop-value l = record {
  one_each : length l.shared.names ≡ l.value-index;
  rows : Eaching view l.tables l.value-index shared_row l.shared (run (shared_of (map view l.tables)));
}
