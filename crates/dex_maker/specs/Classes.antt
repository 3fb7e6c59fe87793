-- What the classes of a listing are in a file. Their members have the first rows of `field_ids` and `method_ids`, in the listing's
-- order.
use Rattle.std.specs.Prelude.{ℕ, ◌+◌, ◌/◌, ◌%◌, List, [], ◌∷◌, length, map, Bool, true, false, not, ◌==◌, ◌||◌, Option, Some, None, if◌then◌else◌}
use Rattle.std.specs.Option.{option_map}
use Rattle.std.specs.List.{sum_by}
use Rattle.dex_tables.specs.declared.dex.Member.{Member}
use Rattle.dex_tables.specs.declared.dex.Body.{Body}
use Rattle.dex_tables.specs.declared.dex.ClassDef.{ClassDef}
use Rattle.dex_writer.specs.declared.tables.Tables.{Tables}
use Rattle.dex_maker.specs.declared.listing.ListedClass.{ListedClass}
use Rattle.dex_maker.specs.declared.listing.ListedField.{ListedField}
use Rattle.dex_maker.specs.declared.listing.ListedMethod.{ListedMethod}
use Rattle.dex_maker.specs.declared.listing.ListedCode.{ListedCode}
use Rattle.dex_writer.specs.Tables.{type_index}
use Rattle.dex_maker.specs.Lines.{width_sum}
use Rattle.dex_maker.specs.Codes.{raw_code}

-- a flag of access flags, by its value
abbrev pub has_flag : ℕ → ℕ → Bool
has_flag flag flags = flags / flag % 2 == 1

abbrev pub begins_with_angle : List ℕ → Bool
begins_with_angle [] = false
begins_with_angle (b ∷ bytes) = b == 60

-- static fields; direct methods are the static and the private ones, and initialisers, whose names begin with `<`
abbrev pub is_static : ListedField → Bool
is_static f = has_flag 8 f.flags

abbrev pub is_direct : ListedMethod → Bool
is_direct m = has_flag 8 m.flags || has_flag 2 m.flags || begins_with_angle m.name

-- of one kind, or of the other
abbrev pub is_of : Bool → Bool → Bool
is_of true wanted = wanted
is_of false wanted = not wanted

-- the fields of one kind, each with its row, of which the first has this number
abbrev pub member_of : ℕ → ListedField → Member
member_of row f = record { index = row; flags = f.flags }

abbrev pub members_from : Bool → ℕ → List ListedField → List Member
members_from statics row [] = []
members_from statics row (f ∷ fs) = if is_of statics (is_static f) then member_of row f ∷ members_from statics (row + 1) fs else members_from statics (row + 1) fs

-- the methods of one kind
abbrev pub body_of : Tables → ℕ → ListedMethod → Body
body_of t row m = record { index = row; flags = m.flags; code = option_map (raw_code t) m.code }

abbrev pub bodies_from : Tables → Bool → ℕ → List ListedMethod → List Body
bodies_from t directs row [] = []
bodies_from t directs row (m ∷ ms) = if is_of directs (is_direct m) then body_of t row m ∷ bodies_from t directs (row + 1) ms else bodies_from t directs (row + 1) ms

-- a class whose first field and first method have these rows
unfoldable pub class_def : Tables → ℕ → ℕ → ListedClass → ClassDef
class_def t field method c = record {
  class = type_index t c.name;
  flags = c.flags;
  superclass = option_map (type_index t) c.superclass;
  interfaces = map (type_index t) c.interfaces;
  statics = members_from true field c.fields;
  instances = members_from false field c.fields;
  directs = bodies_from t true method c.methods;
  virtuals = bodies_from t false method c.methods;
}

abbrev pub class_defs_from : Tables → ℕ → ℕ → List ListedClass → List ClassDef
class_defs_from t field method [] = []
class_defs_from t field method (c ∷ cs) = class_def t field method c ∷ class_defs_from t (field + length c.fields) (method + length c.methods) cs

-- how many units the code of a method, of methods, of a class and of classes takes
abbrev pub code_width : Option ListedCode → ℕ
code_width None = 0
code_width (Some code) = width_sum code.lines

abbrev pub method_width : ListedMethod → ℕ
method_width m = code_width m.code

abbrev pub class_width : ListedClass → ℕ
class_width c = sum_by method_width c.methods

unfoldable pub unit_count : List ListedClass → ℕ
unit_count cs = sum_by class_width cs

-- how many fields and methods the classes have
abbrev pub member_count : ListedClass → ℕ
member_count c = length c.fields + length c.methods

unfoldable pub member_total : List ListedClass → ℕ
member_total cs = sum_by member_count cs
