use Rattle.std.proofs.Common.{◌≡◌, ◌++◌, ◌+◌, drop, take}
use Rattle.std.specs.List.{sum_by}
use Rattle.dex_maker.specs.Classes.{class_defs_from, member_count}
use Rattle.dex_maker.proofs.classes.classes_of.Given as goal

abbrev pub invariant-loop-class : goal.invariant-loop-class
invariant-loop-class l = record {
  rows_so_far : l.field + l.method ≡ sum_by member_count (take l.class-index l.classes);
  classes_to_come : l.rows.items ++ class_defs_from l.tables l.field l.method (drop l.class-index l.classes) ≡ class_defs_from l.tables 0 0 l.classes;
}
