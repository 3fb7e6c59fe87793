-- Faults in the words that a report prints.
use Rattle.std.specs.Prelude.{◌≡◌, ◌⊎◌, ℕ, List, codes}
use Rattle.dex_tables.specs.declared.fault.Fault.{Fault}
use Rattle.dex_tables.specs.declared.fault.Fault.TheVariants.{Magic, Header, Outside, Index, Text, Leb, TooMany}
use Rattle.dex_tables.specs.declared.fault.Field.{Field}
use Rattle.dex_tables.specs.declared.fault.Field.TheVariants.{FileSize, HeaderSize, EndianTag}
use Rattle.dex_tables.specs.declared.fault.Table.{Table}
use Rattle.dex_tables.specs.declared.fault.Table.TheVariants.{TypeIds, ProtoIds, FieldIds, MethodIds, ClassDefs, ClassData, Handlers, Tries}
use Rattle.dex_tables.specs.declared.fault.Limit.{Limit}
use Rattle.dex_tables.specs.declared.fault.Limit.TheVariants as limits
use Rattle.dex_reader.specs.declared.told.DexFault.{DexFault}
use Rattle.dex_reader.specs.declared.told.DexFault.TheVariants as told
use Rattle.dex_reader.specs.Whole.{FirstDexFault}

unfoldable pub field_word : Field → List ℕ
field_word FileSize = codes "file_size"
field_word HeaderSize = codes "header_size"
field_word EndianTag = codes "endian_tag"

unfoldable pub table_word : Table → List ℕ
table_word TypeIds = codes "type_ids"
table_word ProtoIds = codes "proto_ids"
table_word FieldIds = codes "field_ids"
table_word MethodIds = codes "method_ids"
table_word ClassDefs = codes "class_defs"
table_word ClassData = codes "class_data"
table_word Handlers = codes "handlers"
table_word Tries = codes "tries"

unfoldable pub limit_word : Limit → List ℕ
limit_word limits.Names = codes "names"
limit_word limits.TypeLists = codes "type_lists"
limit_word limits.ClassDefs = codes "class_defs"
limit_word limits.ClassData = codes "class_data"
limit_word limits.Units = codes "units"
limit_word limits.Tries = codes "tries"

abbrev pub shown : Fault → DexFault
shown Magic = told.Magic
shown (Header field) = told.Header (field_word field)
shown (Outside at) = told.Outside at
shown (Index table row) = told.Index (table_word table) row
shown (Text at) = told.Text at
shown (Leb at) = told.Leb at
shown (TooMany limit) = told.TooMany (limit_word limit)

-- want of memory, or the fault of the first test that does not hold
abbrev pub IsToldOf : List ℕ → DexFault → Type 0
IsToldOf bytes fault = (fault ≡ told.Memory) ⊎ ((f : Fault) × (fault ≡ shown f) × FirstDexFault bytes f)
