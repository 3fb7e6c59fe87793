-- The two sets of rules, of whose rows a certificate can be.
use Rattle.std.specs.Prelude.{Bool, true, false}
use Rattle.cert_rows.specs.declared.sets.Set.{Set}
use Rattle.cert_rows.specs.declared.sets.Set.TheVariants.{Paths, Cells}

abbrev pub is_paths : Set → Bool
is_paths Paths = true
is_paths Cells = false

abbrev pub is_cells : Set → Bool
is_cells Paths = false
is_cells Cells = true
