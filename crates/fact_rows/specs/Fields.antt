-- Lists of fields.
use Rattle.std.specs.Prelude.{List, length, take}
use Rattle.std.specs.Cmp.Lexicographic.{slice_cmp}
use Rattle.std.specs.declared.cmp.Ordering.{Ordering}
use Rattle.fact_rows.specs.declared.field.Field.{Field}
use Rattle.fact_rows.specs.contracts.field.FieldOrd.TheImpl.{ghosts as field_order}

-- how the first fields stand to others, as many as those are
abbrev pub front_cmp : List Field → List Field → Ordering
front_cmp own others = slice_cmp field_order.cmp (take (length others) own) others
