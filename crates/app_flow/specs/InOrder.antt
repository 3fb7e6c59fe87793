-- Rows in ascending order, and those that tell something of an app by themselves.
use Rattle.std.specs.Prelude.{Bool, true, false, List, [], fold}
use Rattle.std.specs.BTreeSet.{insert_key}
use Rattle.fact_rows.specs.declared.row.Row.{Row}
use Rattle.fact_rows.specs.declared.row.Row.TheVariants.{Arrive, Unknown}
use Rattle.fact_rows.specs.Order.{row_cmp}

-- the rows in ascending order, each once
unfoldable pub in_order : List Row → List Row
in_order rows = fold (insert_key row_cmp) [] rows

-- that a value may come to a sink, or that a run may come to what is not modelled
abbrev pub tells : Row → Bool
tells (Arrive label sink n) = true
tells (Unknown n cause) = true
tells _ = false
