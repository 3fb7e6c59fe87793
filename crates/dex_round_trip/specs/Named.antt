-- That the rows of a DEX file say the names of a listing.
use Rattle.std.specs.Prelude.{◌≡◌, ℕ, List, [], ◌∷◌, not, filter, slice_get, Option, Some, None}
use Rattle.std.specs.List.{AllByRecursion}
use Rattle.dex_tables.specs.declared.dex.Dex.{Dex}
use Rattle.dex_tables.specs.declared.dex.ProtoId.{ProtoId}
use Rattle.dex_tables.specs.declared.dex.FieldId.{FieldId}
use Rattle.dex_tables.specs.declared.dex.MethodRow.{MethodRow}
use Rattle.dex_tables.specs.declared.dex.ClassDef.{ClassDef}
use Rattle.dex_tables.specs.declared.dex.Member.{Member}
use Rattle.dex_tables.specs.declared.dex.Body.{Body}
use Rattle.dex_tables.specs.declared.dex.RawCode.{RawCode}
use Rattle.dex_writer.specs.declared.tables.Tables.{Tables}
use Rattle.dex_maker.specs.declared.listing.ListedClass.{ListedClass}
use Rattle.dex_maker.specs.declared.listing.ListedField.{ListedField}
use Rattle.dex_maker.specs.declared.listing.ListedMethod.{ListedMethod}
use Rattle.dex_maker.specs.declared.listing.ListedCode.{ListedCode}
use Rattle.dex_maker.specs.declared.listing.ListedTry.{ListedTry}
use Rattle.dex_maker.specs.declared.listing.ListedLine.{ListedLine}
use Rattle.dex_maker.specs.declared.listing.ListedLine.TheVariants.{Plain, Packed, Sparse, Filled}
use Rattle.dex_maker.specs.declared.listing.Operand.{Operand}
use Rattle.dex_maker.specs.declared.listing.Operand.TheVariants.{Nothing, Text, Class, Field, Method}
use Rattle.dex_maker.specs.Classes.{is_static, is_direct}
use Rattle.dex_maker.specs.Codes.{index_for, raw_code}
use Rattle.dex_writer.specs.Tables.{type_index}

-- a row of string_ids, or of type_ids
abbrev pub IsString : Dex → ℕ → List ℕ → Type 0
IsString dex i text = slice_get dex.strings i ≡ Some text

pub record IsTypeOf (dex : Dex) (i : ℕ) (name : List ℕ) : Type 0 where
  pub string : ℕ
  pub row : slice_get dex.types i ≡ Some string
  pub text : IsString dex string name

-- two lists of one length, and a fact of each pair
abbrev pub EachPair : {X Y : Type 0} → (X → Y → Type 0) → List X → List Y → Type 0
EachPair R [] [] = Unit {0}
EachPair R [] (y ∷ ys) = ⊥
EachPair R (x ∷ xs) [] = ⊥
EachPair R (x ∷ xs) (y ∷ ys) = R x y × EachPair R xs ys

-- both or neither, and a fact of the two
abbrev pub BothOrNone : {X Y : Type 0} → (X → Y → Type 0) → Option X → Option Y → Type 0
BothOrNone R None None = Unit {0}
BothOrNone R None (Some y) = ⊥
BothOrNone R (Some x) None = ⊥
BothOrNone R (Some x) (Some y) = R x y

abbrev pub AreTypesOf : Dex → List ℕ → List (List ℕ) → Type 0
AreTypesOf dex types names = EachPair (IsTypeOf dex) types names

-- rows of proto_ids, field_ids and method_ids
pub record IsProtoOf (dex : Dex) (i : ℕ) (params : List (List ℕ)) (ret : List ℕ) : Type 0 where
  pub proto : ProtoId
  pub row : slice_get dex.protos i ≡ Some proto
  pub ret_is : IsTypeOf dex proto.ret ret
  pub params_are : AreTypesOf dex proto.params params

pub record IsFieldOf (dex : Dex) (i : ℕ) (class name kind : List ℕ) : Type 0 where
  pub field : FieldId
  pub row : slice_get dex.fields i ≡ Some field
  pub class_is : IsTypeOf dex field.class class
  pub kind_is : IsTypeOf dex field.kind kind
  pub name_is : IsString dex field.name name

pub record IsMethodOf (dex : Dex) (i : ℕ) (class name : List ℕ) (params : List (List ℕ)) (ret : List ℕ) : Type 0 where
  pub method : MethodRow
  pub row : slice_get dex.methods i ≡ Some method
  pub class_is : IsTypeOf dex method.class class
  pub proto_is : IsProtoOf dex method.proto params ret
  pub name_is : IsString dex method.name name

-- what the index of an instruction names
abbrev pub Names : Dex → ℕ → Operand → Type 0
Names dex i Nothing = Unit {0}
Names dex i (Text text) = IsString dex i text
Names dex i (Class class) = IsTypeOf dex i class
Names dex i (Field class name kind) = IsFieldOf dex i class name kind
Names dex i (Method class name params ret) = IsMethodOf dex i class name params ret

abbrev pub LineNames : Dex → Tables → ListedLine → Type 0
LineNames dex t (Plain opcode registers literal operand target) = Names dex (index_for t operand) operand
LineNames dex t (Packed switch first_key targets) = Unit {0}
LineNames dex t (Sparse switch pairs) = Unit {0}
LineNames dex t (Filled width bytes) = Unit {0}

abbrev pub TryNames : Dex → Tables → ListedTry → Type 0
TryNames dex t item = AllByRecursion (λ (h : List ℕ × ℕ). IsTypeOf dex (type_index t h.0) h.0) item.handlers

-- code that is spelled by the rows of these tables, which say what its instructions and its tries name
pub record IsCodeOf (dex : Dex) (t : Tables) (raw : RawCode) (code : ListedCode) : Type 0 where
  pub spelled : raw ≡ raw_code t code
  pub lines : AllByRecursion (LineNames dex t) code.lines
  pub tries : AllByRecursion (TryNames dex t) code.tries

-- a field or a method of a class of that name
pub record IsFieldIn (dex : Dex) (class : List ℕ) (member : Member) (f : ListedField) : Type 0 where
  pub row : IsFieldOf dex member.index class f.name f.kind
  pub flags : member.flags ≡ f.flags

pub record IsMethodIn (dex : Dex) (t : Tables) (class : List ℕ) (body : Body) (m : ListedMethod) : Type 0 where
  pub row : IsMethodOf dex body.index class m.name m.params m.ret
  pub flags : body.flags ≡ m.flags
  pub code : BothOrNone (IsCodeOf dex t) body.code m.code

-- A class: its name, flags, superclass and interfaces, its fields and methods by kind, each list in the listing's order.
pub record IsClassOf (dex : Dex) (t : Tables) (class : ClassDef) (c : ListedClass) : Type 0 where
  pub name : IsTypeOf dex class.class c.name
  pub flags : class.flags ≡ c.flags
  pub superclass : BothOrNone (IsTypeOf dex) class.superclass c.superclass
  pub interfaces : AreTypesOf dex class.interfaces c.interfaces
  pub statics : EachPair (IsFieldIn dex c.name) class.statics (filter is_static c.fields)
  pub instances : EachPair (IsFieldIn dex c.name) class.instances (filter (λ f. not (is_static f)) c.fields)
  pub directs : EachPair (IsMethodIn dex t c.name) class.directs (filter is_direct c.methods)
  pub virtuals : EachPair (IsMethodIn dex t c.name) class.virtuals (filter (λ m. not (is_direct m)) c.methods)
