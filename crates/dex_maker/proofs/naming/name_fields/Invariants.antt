use Rattle.std.proofs.Common.{◌≡◌, drop}
use Rattle.dex_maker.specs.Naming.{with_fields}
use Rattle.dex_maker.proofs.naming.name_fields.Given as goal

abbrev pub invariant-loop-field : goal.invariant-loop-field
invariant-loop-field l = with_fields l.tables l.class (drop l.field-index l.fields) ≡ with_fields l.fn.tables l.class l.fields
