-- The running totals of a file.
use Rattle.std.specs.Prelude.{◌+◌}
use Rattle.dex_tables.specs.declared.place.Totals.{Totals}

abbrev pub no_totals : Totals
no_totals = record { members = 0; units = 0; tries = 0 }

abbrev pub plus : Totals → Totals → Totals
plus a b = record { members = a.members + b.members; units = a.units + b.units; tries = a.tries + b.tries }
