-- What the rows of the id tables are, and where their texts and lists stand (Android documentation, "Dalvik executable
-- format", string_id_item to method_id_item, and type_list).
use Rattle.std.specs.Prelude.{◌≡◌, ◌≢◌, ◌⊎◌, ℕ, ◌+◌, ◌*◌, ◌<◌, ◌≤◌, List, [], ◌∷◌, ◌++◌, length, drop, All}
use Rattle.dex_tables.specs.declared.dex.ProtoId.{ProtoId}
use Rattle.dex_tables.specs.declared.dex.FieldId.{FieldId}
use Rattle.dex_tables.specs.declared.dex.MethodRow.{MethodRow}
use Rattle.dex_tables.specs.declared.header.Section.{Section}
use Rattle.dex_tables.specs.declared.place.Sizes.{Sizes}
use Rattle.dex_tables.specs.Sequences.{Is2, Is4, IsLeb, RowsStand, AtOffset}

-- as many rows of that width as the header says, which lie within the file
pub record TableStands {X : Type 0} (IsAt : ℕ → X → Type 0) (width : ℕ) (file : List ℕ) (table : Section) (rows : List X) : Type 0 where
  pub count : length rows ≡ table.size
  pub within : (table.size ≡ 0) ⊎ (table.at + table.size * width ≤ length file)
  pub stand : RowsStand IsAt width table.at rows

-- the bytes up to the first 0
pub record IsText (file : List ℕ) (at : ℕ) (text : List ℕ) : Type 0 where
  pub behind : List ℕ
  pub bytes : drop at file ≡ text ++ 0 ∷ behind
  pub whole : All (λ b. b ≢ 0) text

-- a row of string_ids: the offset of a length, and behind that the text
pub record IsName (file : List ℕ) (at : ℕ) (name : List ℕ) : Type 0 where
  pub offset : ℕ
  pub units : ℕ
  pub begin : ℕ
  pub id : Is4 file at offset
  pub length_of : IsLeb file offset units begin
  pub text : IsText file begin name

-- a row of type_ids: a string
abbrev pub IsType : List ℕ → Sizes → ℕ → ℕ → Type 0
IsType file sizes at name = Is4 file at name × (name < sizes.strings)

-- a list of types: how many, and then each in two bytes
pub record IsTypeList (file : List ℕ) (types list : ℕ) (entries : List ℕ) : Type 0 where
  pub size : Is4 file list (length entries)
  pub stand : RowsStand (λ at kind. Is2 file at kind × (kind < types)) 2 (list + 4) entries

abbrev pub MaybeTypeList : List ℕ → ℕ → ℕ → List ℕ → Type 0
MaybeTypeList file types list entries = AtOffset list (entries ≡ []) (IsTypeList file types list entries)

-- a row of proto_ids: shorty, result, and the offset of the list of parameters
pub record IsProto (file : List ℕ) (sizes : Sizes) (at : ℕ) (proto : ProtoId) : Type 0 where
  pub shorty : ℕ
  pub list : ℕ
  pub shorty_is : Is4 file at shorty
  pub shorty_below : shorty < sizes.strings
  pub ret_is : Is4 file (at + 4) proto.ret
  pub ret_below : proto.ret < sizes.types
  pub list_is : Is4 file (at + 8) list
  pub params : MaybeTypeList file sizes.types list proto.params

-- a row of field_ids: class, type and name
pub record IsField (file : List ℕ) (sizes : Sizes) (at : ℕ) (field : FieldId) : Type 0 where
  pub class_is : Is2 file at field.class
  pub class_below : field.class < sizes.types
  pub kind_is : Is2 file (at + 2) field.kind
  pub kind_below : field.kind < sizes.types
  pub name_is : Is4 file (at + 4) field.name
  pub name_below : field.name < sizes.strings

-- a row of method_ids: class, proto and name
pub record IsMethod (file : List ℕ) (sizes : Sizes) (at : ℕ) (method : MethodRow) : Type 0 where
  pub class_is : Is2 file at method.class
  pub class_below : method.class < sizes.types
  pub proto_is : Is2 file (at + 2) method.proto
  pub proto_below : method.proto < sizes.protos
  pub name_is : Is4 file (at + 4) method.name
  pub name_below : method.name < sizes.strings
