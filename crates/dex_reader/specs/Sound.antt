-- What holds of each Dex that is read, without its bytes: sizes below 2^32, indices below the sizes of their tables, and
-- the limits.
use Rattle.std.specs.Prelude.{ℕ, ◌+◌, ◌^◌, ◌<◌, ◌≤◌, length, sum_by, All, Option, Some, None}
use Rattle.dex_tables.specs.declared.dex.Body.{Body}
use Rattle.dex_tables.specs.declared.dex.ClassDef.{ClassDef}
use Rattle.dex_tables.specs.declared.dex.Dex.{Dex}
use Rattle.dex_tables.specs.declared.dex.FieldId.{FieldId}
use Rattle.dex_tables.specs.declared.dex.Member.{Member}
use Rattle.dex_tables.specs.declared.dex.MethodRow.{MethodRow}
use Rattle.dex_tables.specs.declared.dex.ProtoId.{ProtoId}
use Rattle.dex_tables.specs.declared.dex.RawCode.{RawCode}
use Rattle.dex_tables.specs.declared.dex.RawTry.{RawTry}
use Rattle.dex_tables.specs.declared.place.Sizes.{Sizes}
use Rattle.dex_reader.specs.Dex.{params_of, interfaces_of}

abbrev pub rows_of : Dex → Sizes
rows_of dex = record { strings = length dex.strings; types = length dex.types; protos = length dex.protos; fields = length dex.fields; methods = length dex.methods }

pub record IsSoundProto (sizes : Sizes) (proto : ProtoId) : Type 0 where
  pub ret : proto.ret < sizes.types
  pub params : All (λ kind. kind < sizes.types) proto.params

pub record IsSoundField (sizes : Sizes) (field : FieldId) : Type 0 where
  pub class : field.class < sizes.types
  pub kind : field.kind < sizes.types
  pub name : field.name < sizes.strings

pub record IsSoundMethod (sizes : Sizes) (method : MethodRow) : Type 0 where
  pub class : method.class < sizes.types
  pub proto : method.proto < sizes.protos
  pub name : method.name < sizes.strings

-- the types of its handlers
abbrev pub IsSoundTry : ℕ → RawTry → Type 0
IsSoundTry types a_try = All (λ (pair : ℕ × ℕ). pair.0 < types) a_try.handlers

-- fewer than 2^32 units, and fewer than 2^32 tries
pub record IsSoundCode (types : ℕ) (code : RawCode) : Type 0 where
  pub units : length code.units < 2 ^ 32
  pub tries : length code.tries < 2 ^ 32
  pub handlers : All (IsSoundTry types) code.tries

abbrev pub IsSoundMember : ℕ → Member → Type 0
IsSoundMember fields member = member.index < fields

abbrev pub IfCode : ℕ → Option RawCode → Type 0
IfCode types None = Unit {0}
IfCode types (Some code) = IsSoundCode types code

pub record IsSoundBody (sizes : Sizes) (body : Body) : Type 0 where
  pub index : body.index < sizes.methods
  pub code : IfCode sizes.types body.code

abbrev pub IfSuperclass : ℕ → Option ℕ → Type 0
IfSuperclass types None = Unit {0}
IfSuperclass types (Some superclass) = superclass < types

pub record IsSoundClass (sizes : Sizes) (class : ClassDef) : Type 0 where
  pub kind : class.class < sizes.types
  pub superclass : IfSuperclass sizes.types class.superclass
  pub interfaces : All (λ kind. kind < sizes.types) class.interfaces
  pub statics : All (IsSoundMember sizes.fields) class.statics
  pub instances : All (IsSoundMember sizes.fields) class.instances
  pub directs : All (IsSoundBody sizes) class.directs
  pub virtuals : All (IsSoundBody sizes) class.virtuals

-- what a method, or a class, has of units and of tries with their pairs
abbrev pub code_units : Option RawCode → ℕ
code_units None = 0
code_units (Some code) = length code.units

abbrev pub tried : RawTry → ℕ
tried a_try = 1 + length a_try.handlers

abbrev pub code_tries : Option RawCode → ℕ
code_tries None = 0
code_tries (Some code) = sum_by tried code.tries

abbrev pub body_units : Body → ℕ
body_units body = code_units body.code

abbrev pub body_tries : Body → ℕ
body_tries body = code_tries body.code

abbrev pub class_members : ClassDef → ℕ
class_members class = length class.statics + length class.instances + length class.directs + length class.virtuals

abbrev pub class_units : ClassDef → ℕ
class_units class = sum_by body_units class.directs + sum_by body_units class.virtuals

abbrev pub class_tries : ClassDef → ℕ
class_tries class = sum_by body_tries class.directs + sum_by body_tries class.virtuals

pub record SoundDex (dex : Dex) : Type 0 where
  pub strings_size : length dex.strings < 2 ^ 32
  pub types_size : length dex.types < 2 ^ 32
  pub protos_size : length dex.protos < 2 ^ 32
  pub fields_size : length dex.fields < 2 ^ 32
  pub methods_size : length dex.methods < 2 ^ 32
  pub types : All (λ name. name < length dex.strings) dex.types
  pub protos : All (IsSoundProto (rows_of dex)) dex.protos
  pub fields : All (IsSoundField (rows_of dex)) dex.fields
  pub methods : All (IsSoundMethod (rows_of dex)) dex.methods
  pub classes : All (IsSoundClass (rows_of dex)) dex.classes
  pub names_limit : sum_by length dex.strings ≤ 33554432
  pub lists_limit : sum_by params_of dex.protos + sum_by interfaces_of dex.classes ≤ 4000000
  pub classes_limit : length dex.classes ≤ 65536
  pub members_limit : sum_by class_members dex.classes ≤ 400000
  pub units_limit : sum_by class_units dex.classes ≤ 8388608
  pub tries_limit : sum_by class_tries dex.classes ≤ 1000000
