use Rattle.std.proofs.Common.{◌≡◌, ◌+◌, ◌++◌, take, drop, length}
use Rattle.std.specs.List.{flat_map}
use Rattle.dex_writer.specs.ClassData.{bodies_bytes, body_code}
use Rattle.dex_writer.proofs.class_data.put_bodies.Given as goal

abbrev pub invariant-loop-body : goal.invariant-loop-body
invariant-loop-body l = record {
  data_so_far : l.data.items ≡ l.fn.data.items ++ flat_map body_code (take l.body-index l.bodies);
  rows_to_come : l.rows.items ++ bodies_bytes l.before (l.base + length l.data.items) (drop l.body-index l.bodies) ≡ l.fn.rows.items ++ bodies_bytes 0 (l.base + length l.fn.data.items) l.bodies;
}
