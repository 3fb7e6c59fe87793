-- Rows that name only methods of the app.
use Rattle.std.specs.Prelude.{◌<◌, List, length}
use Rattle.app_machine.specs.declared.app.App.{App}
use Rattle.fact_rows.specs.declared.row.Row.{Row}
use Rattle.fact_rows.specs.declared.row.Row.TheVariants.{Arrive, Unknown}
use Rattle.vet_base.specs.Members.{In}

-- what the row says of an instruction, it says of one in a method of the app
abbrev pub IsWithin : App → Row → Type 0
IsWithin app (Arrive label sink n) = n.by.method < length app.methods
IsWithin app (Unknown n cause) = n.by.method < length app.methods
IsWithin app _ = Unit {0}

abbrev pub AreWithin : App → List Row → Type 0
AreWithin app rows = (row : Row) → In row rows → IsWithin app row
