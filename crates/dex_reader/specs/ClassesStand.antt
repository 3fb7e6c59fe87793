-- What a class is, with its class data (Android documentation, "Dalvik executable format", class_def_item,
-- class_data_item, encoded_field and encoded_method).
use Rattle.std.specs.Prelude.{◌≡◌, ◌≢◌, ℕ, ◌+◌, ◌<◌, ◌≤◌, List, [], length, Option, Some, None}
use Rattle.dex_tables.specs.declared.dex.Body.{Body}
use Rattle.dex_tables.specs.declared.dex.ClassDef.{ClassDef}
use Rattle.dex_tables.specs.declared.dex.Member.{Member}
use Rattle.dex_tables.specs.declared.place.Sizes.{Sizes}
use Rattle.dex_tables.specs.declared.place.Totals.{Totals}
use Rattle.dex_tables.specs.Sequences.{Is4, IsLeb, Follow, AtOffset}
use Rattle.dex_tables.specs.TablesStand.{MaybeTypeList}
use Rattle.dex_bodies.specs.CodeStands.{MaybeCode}
use Rattle.dex_tables.specs.Totals.{no_totals, plus}

abbrev pub one_member : Totals
one_member = record { members = 1; units = 0; tries = 0 }

-- A member stands at an offset, behind members of its own list whose index differences have this sum.
abbrev pub Spot : Type 0
Spot = ℕ × ℕ

-- a field: the difference of its index, and its flags
pub record IsMember (file : List ℕ) (fields : ℕ) (from : Spot) (member : Member) (adds : Totals) (to : Spot) : Type 0 where
  pub difference : ℕ
  pub mid : ℕ
  pub difference_is : IsLeb file from.0 difference mid
  pub index_is : member.index ≡ from.1 + difference
  pub index_below : member.index < fields
  pub flags_is : IsLeb file mid member.flags to.0
  pub sum : to.1 ≡ member.index
  pub one : adds ≡ one_member

-- a method: the difference of its index, its flags, and the offset of its code item
pub record IsBody (file : List ℕ) (sizes : Sizes) (from : Spot) (body : Body) (adds : Totals) (to : Spot) : Type 0 where
  pub difference : ℕ
  pub mid : ℕ
  pub next : ℕ
  pub offset : ℕ
  pub coded : Totals
  pub difference_is : IsLeb file from.0 difference mid
  pub index_is : body.index ≡ from.1 + difference
  pub index_below : body.index < sizes.methods
  pub flags_is : IsLeb file mid body.flags next
  pub offset_is : IsLeb file next offset to.0
  pub code : MaybeCode file sizes.types offset body.code coded
  pub sum : to.1 ≡ body.index
  pub one_and_code : adds ≡ plus one_member coded

-- The four counts, and the four lists one behind the other. In each list the index differences begin anew at 0.
pub record HasClassData (file : List ℕ) (sizes : Sizes) (at : ℕ) (class : ClassDef) (adds : Totals) : Type 0 where
  pub counts : ℕ × ℕ × ℕ × ℕ
  pub statics_to : Spot
  pub instances_to : Spot
  pub directs_to : Spot
  pub virtuals_to : Spot
  pub parts : Totals × Totals × Totals × Totals
  pub statics_count : IsLeb file at (length class.statics) counts.0
  pub instances_count : IsLeb file counts.0 (length class.instances) counts.1
  pub directs_count : IsLeb file counts.1 (length class.directs) counts.2
  pub virtuals_count : IsLeb file counts.2 (length class.virtuals) counts.3
  pub statics : Follow no_totals plus (IsMember file sizes.fields) (counts.3, 0) class.statics parts.0 statics_to
  pub instances : Follow no_totals plus (IsMember file sizes.fields) (statics_to.0, 0) class.instances parts.1 instances_to
  pub directs : Follow no_totals plus (IsBody file sizes) (instances_to.0, 0) class.directs parts.2 directs_to
  pub virtuals : Follow no_totals plus (IsBody file sizes) (directs_to.0, 0) class.virtuals parts.3 virtuals_to
  pub sum : adds ≡ plus (plus (plus parts.0 parts.1) parts.2) parts.3

pub record HasNoMembers (class : ClassDef) (adds : Totals) : Type 0 where
  pub statics : class.statics ≡ []
  pub instances : class.instances ≡ []
  pub directs : class.directs ≡ []
  pub virtuals : class.virtuals ≡ []
  pub none : adds ≡ no_totals

abbrev pub MaybeClassData : List ℕ → Sizes → ℕ → ClassDef → Totals → Type 0
MaybeClassData file sizes at class adds = AtOffset at (HasNoMembers class adds) (HasClassData file sizes at class adds)

-- no superclass is written as the greatest number
abbrev pub IsSuperclass : ℕ → ℕ → Option ℕ → Type 0
IsSuperclass types index None = index ≡ 4294967295
IsSuperclass types index (Some superclass) = (superclass ≡ index) × (index < types) × (index ≢ 4294967295)

-- A row of class_defs: class, flags, superclass, interfaces and, at byte 24, class data. Source file, annotations and
-- static values, at bytes 16, 20 and 28, are not looked at.
pub record IsClass (file : List ℕ) (sizes : Sizes) (at : ℕ) (class : ClassDef) (adds : Totals) : Type 0 where
  pub index : ℕ
  pub list : ℕ
  pub class_data : ℕ
  pub class_is : Is4 file at class.class
  pub class_below : class.class < sizes.types
  pub flags_is : Is4 file (at + 4) class.flags
  pub index_is : Is4 file (at + 8) index
  pub superclass : IsSuperclass sizes.types index class.superclass
  pub list_is : Is4 file (at + 12) list
  pub interfaces : MaybeTypeList file sizes.types list class.interfaces
  pub class_data_is : Is4 file (at + 24) class_data
  pub whole : at + 32 ≤ length file
  pub members : MaybeClassData file sizes class_data class adds

-- the classes, one row of 32 bytes behind the other
abbrev pub IsClassRow : List ℕ → Sizes → ℕ → ClassDef → Totals → ℕ → Type 0
IsClassRow file sizes from class adds to = IsClass file sizes from class adds × (to ≡ from + 32)
