use Rattle.std.proofs.Common.{◌≡◌, ◌++◌, ◌+◌, drop}
use Rattle.dex_maker.specs.Classes.{members_from}
use Rattle.dex_maker.proofs.classes.members_of.Given as goal

abbrev pub invariant-loop-field : goal.invariant-loop-field
invariant-loop-field l = record {
  index_is : l.index ≡ l.first + l.field-index;
  members_to_come : l.members.items ++ members_from l.statics l.index (drop l.field-index l.fields) ≡ members_from l.statics l.first l.fields;
}
