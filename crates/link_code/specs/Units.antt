-- How many 16-bit units the code of the methods has.
use Rattle.std.specs.Prelude.{ℕ, List, length, Option, Some, None, if◌then◌else◌}
use Rattle.std.specs.List.{sum_by}
use Rattle.dex_tables.specs.declared.dex.Dex.{Dex}
use Rattle.dex_tables.specs.declared.dex.RawCode.{RawCode}
use Rattle.link_listing.specs.declared.members.Listed.{Listed}
use Rattle.link_listing.specs.Texts.{Triple}
use Rattle.link_listing.specs.MemberRows.{Methods}
use Rattle.link_code.specs.Code.{code_at}

abbrev pub units_found : Option (Dex × RawCode) → ℕ
units_found None = 0
units_found (Some found) = length found.1.units

-- how many units the method's code has
unfoldable pub units_of : List Dex → Triple × Listed → ℕ
units_of dexes entry = if entry.1.is_native then 0 else units_found (code_at dexes entry.1.place)

-- how many the code of all methods has
abbrev pub units_in : List Dex → Methods → ℕ
units_in dexes methods = sum_by (units_of dexes) methods
