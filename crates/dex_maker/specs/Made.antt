-- What is made of a listing, which listings have a file, and when there is none.
use Rattle.std.specs.Prelude.{ℕ, ◌≡◌, ◌≤◌, codes, List, length, Option, Some, None, nat_lt, if◌then◌else◌}
use Rattle.dex_writer.specs.declared.tables.Tables.{Tables}
use Rattle.dex_maker.specs.declared.fault.IdTable.{IdTable}
use Rattle.dex_maker.specs.declared.fault.IdTable.TheVariants as ids
use Rattle.dex_maker.specs.declared.fault.MakeFault.{MakeFault}
use Rattle.dex_maker.specs.declared.fault.MakeFault.TheVariants.{TooMany, Range}
use Rattle.dex_maker.specs.declared.listing.Listing.{Listing}
use Rattle.dex_maker.specs.Naming.{tables_of}
use Rattle.dex_maker.specs.Classes.{class_defs_from, unit_count, member_total}
use Rattle.dex_maker.specs.Fits.{first_misfit}
use Rattle.dex_writer.specs.File.{file_bytes, AreShort}

-- the file of a listing
unfoldable pub dex_bytes : Listing → List ℕ
dex_bytes listing = file_bytes (tables_of listing) (class_defs_from (tables_of listing) 0 0 listing.classes)

-- The first table, in the order of the header, with more rows than may be: 65,535 types and protos, 65,536 of the others.
unfoldable pub long_table : Tables → Option IdTable
long_table t =
    if nat_lt 65536 (length t.strings) then Some ids.Strings else
    if nat_lt 65535 (length t.types) then Some ids.Types else
    if nat_lt 65535 (length t.protos) then Some ids.Protos else
    if nat_lt 65536 (length t.fields) then Some ids.Fields else
    if nat_lt 65536 (length t.methods) then Some ids.Methods else None

-- the names of the tables in the header
unfoldable pub table_name : IdTable → List ℕ
table_name ids.Strings = codes "string_ids"
table_name ids.Types = codes "type_ids"
table_name ids.Protos = codes "proto_ids"
table_name ids.Fields = codes "field_ids"
table_name ids.Methods = codes "method_ids"

-- A table that is too long comes before a line that does not fit, and only without either there is a file.
abbrev pub no_file : Option IdTable → Option (ℕ × ℕ) → Option MakeFault
no_file (Some table) misfit = Some (TooMany (table_name table))
no_file None (Some line) = Some (Range line.0 line.1)
no_file None None = None

unfoldable pub fault_of : Listing → Option MakeFault
fault_of listing = no_file (long_table (tables_of listing)) (first_misfit 0 listing.classes)

-- A listing within the limits of a DEX file: so many classes, fields and methods in all, and units of code in all.
pub record Makeable (listing : Listing) : Type 0 where
  pub classes : length listing.classes ≤ 65536
  pub members : member_total listing.classes ≤ 400000
  pub units : unit_count listing.classes ≤ 8388608

-- Where there is a file of a listing, none of its tables has more rows than two bytes can name.
abbrev pub TablesAreShort : Type 0
TablesAreShort = (listing : Listing) → Makeable listing → fault_of listing ≡ None → AreShort (tables_of listing) (class_defs_from (tables_of listing) 0 0 listing.classes)
