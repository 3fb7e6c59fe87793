-- What it is to be a DEX file, and which values stand in it.
use Rattle.std.specs.Prelude.{◌≡◌, ◌⊎◌, ℕ, ◌+◌, ◌*◌, ◌≤◌, List, length, take, sum_by, true, nat_eq}
use Rattle.std.specs.List.{starts_with}
use Rattle.dex_tables.specs.declared.dex.Dex.{Dex}
use Rattle.dex_tables.specs.declared.dex.ProtoId.{ProtoId}
use Rattle.dex_tables.specs.declared.dex.ClassDef.{ClassDef}
use Rattle.dex_tables.specs.declared.fault.Fault.{Fault}
use Rattle.dex_tables.specs.declared.header.Header.{Header}
use Rattle.dex_tables.specs.declared.header.Section.{Section}
use Rattle.dex_tables.specs.declared.place.Sizes.{Sizes}
use Rattle.dex_tables.specs.declared.place.Totals.{Totals}
use Rattle.dex_tables.specs.Headers.{magic}
use Rattle.dex_reader.specs.Whole.{sizes_of, FirstDexFault}
use Rattle.dex_tables.specs.Sequences.{Is4, Follow}
use Rattle.dex_tables.specs.TablesStand.{TableStands, IsName, IsType, IsProto, IsField, IsMethod}
use Rattle.dex_reader.specs.ClassesStand.{IsClassRow}
use Rattle.dex_tables.specs.Totals.{no_totals, plus}

-- the size and the offset of a table
abbrev pub IsSection : List ℕ → ℕ → Section → Type 0
IsSection bytes at table = Is4 bytes at table.size × Is4 bytes (at + 4) table.at

pub record IsHeader (bytes : List ℕ) (header : Header) : Type 0 where
  pub magic_is : starts_with nat_eq bytes magic ≡ true
  pub whole : 112 ≤ header.file_size
  pub within : header.file_size ≤ length bytes
  pub file_size : Is4 bytes 32 header.file_size
  pub header_size : Is4 bytes 36 112
  pub endian_tag : Is4 bytes 40 305419896
  pub strings : IsSection bytes 56 header.strings
  pub types : IsSection bytes 64 header.types
  pub protos : IsSection bytes 72 header.protos
  pub fields : IsSection bytes 80 header.fields
  pub methods : IsSection bytes 88 header.methods
  pub classes : IsSection bytes 96 header.classes

abbrev pub params_of : ProtoId → ℕ
params_of proto = length proto.params

abbrev pub interfaces_of : ClassDef → ℕ
interfaces_of class = length class.interfaces

-- the tables of a file, each row at its place
pub record HasTables (file : List ℕ) (header : Header) (sizes : Sizes) (dex : Dex) (totals : Totals) : Type 0 where
  pub end : ℕ
  pub strings : TableStands (IsName file) 4 file header.strings dex.strings
  pub types : TableStands (IsType file sizes) 4 file header.types dex.types
  pub protos : TableStands (IsProto file sizes) 12 file header.protos dex.protos
  pub fields : TableStands (IsField file sizes) 8 file header.fields dex.fields
  pub methods : TableStands (IsMethod file sizes) 8 file header.methods dex.methods
  pub classes_count : length dex.classes ≡ header.classes.size
  pub classes_within : (header.classes.size ≡ 0) ⊎ (header.classes.at + header.classes.size * 32 ≤ length file)
  pub classes : Follow no_totals plus (IsClassRow file sizes) header.classes.at dex.classes totals end

-- what a file may have of each
pub record WithinLimits (dex : Dex) (totals : Totals) : Type 0 where
  pub names : sum_by length dex.strings ≤ 33554432
  pub type_lists : sum_by params_of dex.protos + sum_by interfaces_of dex.classes ≤ 4000000
  pub class_defs : length dex.classes ≤ 65536
  pub class_data : totals.members ≤ 400000
  pub units : totals.units ≤ 8388608
  pub tries : totals.tries ≤ 1000000

-- The bytes are a DEX file of version 035 in which this stands. Bytes behind the file's size are not there.
pub record IsDex (bytes : List ℕ) (dex : Dex) : Type 0 where
  pub header : Header
  pub totals : Totals
  pub header_is : IsHeader bytes header
  pub tables : HasTables (take header.file_size bytes) header (sizes_of header) dex totals
  pub limits : WithinLimits dex totals

-- For all bytes exactly one of the two: one DEX file stands in them, or one fault is that of the first test that fails.
pub record ExactlyOne (bytes : List ℕ) : Type 0 where
  pub either : ((dex : Dex) × IsDex bytes dex) ⊎ ((fault : Fault) × FirstDexFault bytes fault)
  pub one_dex : (dex other : Dex) → IsDex bytes dex → IsDex bytes other → dex ≡ other
  pub one_fault : (fault other : Fault) → FirstDexFault bytes fault → FirstDexFault bytes other → fault ≡ other
  pub not_both : (dex : Dex) (fault : Fault) → IsDex bytes dex → FirstDexFault bytes fault → ⊥

abbrev pub OneDexOrFault : Type 0
OneDexOrFault = (bytes : List ℕ) → ExactlyOne bytes
