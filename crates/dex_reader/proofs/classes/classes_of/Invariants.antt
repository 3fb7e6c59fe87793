use Rattle.std.proofs.Common.{◌≡◌, length}
use Rattle.std.specs.Vec.Iter.{into_iter_items, into_iter_len}
use Rattle.vet_base.specs.Script.{run}
use Rattle.dex_reader.specs.ClassData.{class_of, classes_at}
use Rattle.dex_reader.proofs.WalkRest.{WalksRest}
use Rattle.dex_reader.proofs.classes.classes_of.Given as goal

abbrev pub invariant-loop-row : goal.invariant-loop-row
invariant-loop-row l = record {
  len : into_iter_len l.row-iterator ≡ length (into_iter_items l.row-iterator);
  rest : WalksRest (into_iter_items l.row-iterator) (class_of l.file l.sizes) l.classes.items l.totals (run (classes_at l.file l.sizes l.fn.rows.items));
}
