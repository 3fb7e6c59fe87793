-- The header of a DEX file (Android documentation, "Dalvik executable format", header_item).
use Rattle.std.specs.Prelude.{ℕ, ◌==◌, ◌&&◌, List, [], ◌∷◌, length, nat_eq, nat_le}
use Rattle.std.specs.List.{starts_with}
use Rattle.vet_base.specs.Script.{Script, Value, ◌>>=◌, test}
use Rattle.dex_tables.specs.declared.fault.Fault.{Fault}
use Rattle.dex_tables.specs.declared.fault.Fault.TheVariants.{Magic, Outside}
use Rattle.dex_tables.specs.declared.fault.Fault.TheVariants as faults
use Rattle.dex_tables.specs.declared.fault.Field.TheVariants.{FileSize, HeaderSize, EndianTag}
use Rattle.dex_tables.specs.declared.header.Header.{Header}
use Rattle.dex_tables.specs.declared.header.Section.{Section}
use Rattle.dex_tables.specs.Parts.{u4_at}

-- "dex\n035\0"
abbrev pub magic : List ℕ
magic = 100 ∷ 101 ∷ 120 ∷ 10 ∷ 48 ∷ 51 ∷ 53 ∷ 0 ∷ []

-- the size and the offset of a table
unfoldable pub section_at : List ℕ → ℕ → Script Fault Section
section_at bytes at = do
  size ← u4_at bytes at 0
  offset ← u4_at bytes size.1 0
  Value (record { size = size.0; at = offset.0 })

unfoldable pub file_size_at : List ℕ → Script Fault ℕ
file_size_at bytes = do
  _ ← test (starts_with nat_eq bytes magic) Magic
  _ ← test (nat_le 112 (length bytes)) (Outside 0)
  size ← u4_at bytes 32 0
  _ ← test (nat_le 112 size.0 && nat_le size.0 (length bytes)) (faults.Header FileSize)
  header_size ← u4_at bytes 36 0
  _ ← test (header_size.0 == 112) (faults.Header HeaderSize)
  tag ← u4_at bytes 40 0
  _ ← test (tag.0 == 305419896) (faults.Header EndianTag)
  Value size.0

-- the six tables, in the order in which their sizes and offsets stand from byte 56 on
unfoldable pub header_at : List ℕ → Script Fault Header
header_at bytes = do
  file_size ← file_size_at bytes
  strings ← section_at bytes 56
  types ← section_at bytes 64
  protos ← section_at bytes 72
  fields ← section_at bytes 80
  methods ← section_at bytes 88
  classes ← section_at bytes 96
  Value (record { file_size = file_size; strings = strings; types = types; protos = protos; fields = fields; methods = methods; classes = classes })
