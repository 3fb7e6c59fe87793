-- The rows of a listing's file say the listing's names.
use Rattle.std.proofs.Common.{◌≡◌, ℕ, ◌+◌, Bool, true, false, cond, List, [], ◌∷◌, length, map, Option, Some, None, refl}
use Rattle.std.specs.Prelude.{IfSome, slice_get, filter}
use Rattle.std.specs.Option.{option_map}
use Rattle.std.specs.List.{AllByRecursion}
use Rattle.std.specs.Ordering.{nat_cmp}
use Rattle.dex_tables.specs.declared.dex.ClassDef.{ClassDef}
use Rattle.dex_writer.specs.declared.tables.Tables.{Tables}
use Rattle.dex_maker.specs.declared.listing.Listing.{Listing}
use Rattle.dex_maker.specs.declared.listing.ListedClass.{ListedClass}
use Rattle.dex_maker.specs.declared.listing.ListedField.{ListedField}
use Rattle.dex_maker.specs.declared.listing.ListedMethod.{ListedMethod}
use Rattle.dex_maker.specs.declared.listing.ListedCode.{ListedCode}
use Rattle.dex_maker.specs.declared.listing.ListedTry.{ListedTry}
use Rattle.dex_maker.specs.declared.listing.ListedLine.{ListedLine}
use Rattle.dex_maker.specs.declared.listing.ListedLine.TheVariants.{Plain, Packed, Sparse, Filled}
use Rattle.dex_maker.specs.declared.listing.Operand.{Operand}
use Rattle.dex_maker.specs.declared.listing.Operand.TheVariants.{Nothing, Text, Class, Field, Method}
use Rattle.dex_writer.specs.Tables.{list_cmp, string_index, type_index, proto_row, proto_index, field_row, field_index, method_row, method_index}
use Rattle.dex_maker.specs.Naming.{tables_of}
use Rattle.dex_maker.specs.Codes.{index_for, raw_code}
use Rattle.dex_maker.specs.Classes.{is_static, is_direct, is_of, member_of, members_from, body_of, bodies_from, class_def, class_defs_from}
use Rattle.dex_round_trip.specs.Values.{proto_value, field_value, method_value, dex_value}
use Rattle.dex_round_trip.specs.Named.{IsString, IsTypeOf, EachPair, BothOrNone, AreTypesOf, IsProtoOf, IsFieldOf, IsMethodOf, Names, LineNames, TryNames, IsCodeOf, IsFieldIn, IsMethodIn, IsClassOf}
use Rattle.dex_round_trip.proofs.Extensions.{nat_tells, list_tells, placed_row, HasString, HasType, HasTypes, HasProto}
use Rattle.dex_round_trip.proofs.NamingSteps.{FieldNames, MethodNames, FieldThere, MethodThere}
use Rattle.dex_round_trip.proofs.NamedRows.{FieldsAt, MethodsAt, ClassAt, ClassesAt, OperandThere, LineThere, TryThere, CodeThere, BodiesThere, AllBodiesThere, listing_at}
use Rattle.vet_base.proofs.Lists.{slice_get-map_at}

string_is : (t : Tables) (cs : List ClassDef) (name : List ℕ) → HasString t name → IsString (dex_value t cs) (string_index t name) name
unfolding string_index
string_is t cs name h = placed_row list_cmp list_tells t.strings name h

type_row : (t : Tables) (name : List ℕ) → HasType t name → slice_get t.types (type_index t name) ≡ Some (string_index t name)
unfolding type_index
type_row t name h = placed_row nat_cmp nat_tells t.types (string_index t name) h.row

type_is : (t : Tables) (cs : List ClassDef) (name : List ℕ) → HasType t name → IsTypeOf (dex_value t cs) (type_index t name) name
type_is t cs name h = record { string = string_index t name; row = type_row t name h; text = string_is t cs name h.string }

types_are : (t : Tables) (cs : List ClassDef) (names : List (List ℕ)) → HasTypes t names → AreTypesOf (dex_value t cs) (map (type_index t) names) names
types_are t cs [] h = tt
types_are t cs (n ∷ ns) h = (type_is t cs n h.0, types_are t cs ns h.1)

proto_at : (t : Tables) (params : List (List ℕ)) (ret : List ℕ) → HasProto t params ret → slice_get t.protos (proto_index t params ret) ≡ Some (proto_row t params ret)
unfolding proto_index
proto_at t params ret h = placed_row list_cmp list_tells t.protos (proto_row t params ret) h.row

proto_is : (t : Tables) (cs : List ClassDef) (params : List (List ℕ)) (ret : List ℕ) → HasProto t params ret → IsProtoOf (dex_value t cs) (proto_index t params ret) params ret
unfolding proto_row
proto_is t cs params ret h = record {
  proto = proto_value (proto_row t params ret);
  row = slice_get-map_at proto_value t.protos (proto_index t params ret) (proto_row t params ret) (proto_at t params ret h);
  ret_is = type_is t cs ret h.ret_there;
  params_are = types_are t cs params h.params_there;
}

field_is : (t : Tables) (cs : List ClassDef) (at : ℕ) (class name kind : List ℕ) → FieldNames t class name kind → slice_get t.fields at ≡ Some (field_row t class name kind) → IsFieldOf (dex_value t cs) at class name kind
unfolding field_row
field_is t cs at class name kind names row = record {
  field = field_value (field_row t class name kind);
  row = slice_get-map_at field_value t.fields at (field_row t class name kind) row;
  class_is = type_is t cs class names.class_there;
  kind_is = type_is t cs kind names.kind_there;
  name_is = string_is t cs name names.name_there;
}

method_is : (t : Tables) (cs : List ClassDef) (at : ℕ) (class name : List ℕ) (params : List (List ℕ)) (ret : List ℕ) → MethodNames t class name params ret → slice_get t.methods at ≡ Some (method_row t class name params ret)
    → IsMethodOf (dex_value t cs) at class name params ret
unfolding method_row
method_is t cs at class name params ret names row = record {
  method = method_value (method_row t class name params ret);
  row = slice_get-map_at method_value t.methods at (method_row t class name params ret) row;
  class_is = type_is t cs class names.class_there;
  proto_is = proto_is t cs params ret names.proto_is_there;
  name_is = string_is t cs name names.name_there;
}

-- ---- code

field_there : (t : Tables) (class name kind : List ℕ) → FieldThere t class name kind → slice_get t.fields (field_index t class name kind) ≡ Some (field_row t class name kind)
unfolding field_index
field_there t class name kind h = placed_row list_cmp list_tells t.fields (field_row t class name kind) h.row

method_there : (t : Tables) (class name : List ℕ) (params : List (List ℕ)) (ret : List ℕ) → MethodThere t class name params ret → slice_get t.methods (method_index t class name params ret) ≡ Some (method_row t class name params ret)
unfolding method_index
method_there t class name params ret h = placed_row list_cmp list_tells t.methods (method_row t class name params ret) h.row

names : (t : Tables) (cs : List ClassDef) (operand : Operand) → OperandThere t operand → Names (dex_value t cs) (index_for t operand) operand
names t cs Nothing h = tt
names t cs (Text text) h = string_is t cs text h
names t cs (Class class) h = type_is t cs class h
names t cs (Field class name kind) h = field_is t cs (field_index t class name kind) class name kind h.names (field_there t class name kind h)
names t cs (Method class name params ret) h = method_is t cs (method_index t class name params ret) class name params ret h.names (method_there t class name params ret h)

line_names : (t : Tables) (cs : List ClassDef) (line : ListedLine) → LineThere t line → LineNames (dex_value t cs) t line
line_names t cs (Plain opcode registers literal operand target) h = names t cs operand h
line_names t cs (Packed switch first_key targets) h = tt
line_names t cs (Sparse switch pairs) h = tt
line_names t cs (Filled width bytes) h = tt

lines_name : (t : Tables) (cs : List ClassDef) (lines : List ListedLine) → AllByRecursion (LineThere t) lines → AllByRecursion (LineNames (dex_value t cs) t) lines
lines_name t cs [] h = tt
lines_name t cs (l ∷ ls) h = (line_names t cs l h.0, lines_name t cs ls h.1)

handlers_name : (t : Tables) (cs : List ClassDef) (hs : List (List ℕ × ℕ)) → AllByRecursion (λ (h : List ℕ × ℕ). HasType t h.0) hs → AllByRecursion (λ (h : List ℕ × ℕ). IsTypeOf (dex_value t cs) (type_index t h.0) h.0) hs
handlers_name t cs [] h = tt
handlers_name t cs (x ∷ xs) h = (type_is t cs x.0 h.0, handlers_name t cs xs h.1)

tries_name : (t : Tables) (cs : List ClassDef) (tries : List ListedTry) → AllByRecursion (TryThere t) tries → AllByRecursion (TryNames (dex_value t cs) t) tries
tries_name t cs [] h = tt
tries_name t cs (x ∷ xs) h = (handlers_name t cs x.handlers h.0, tries_name t cs xs h.1)

maybe_code_is : (t : Tables) (cs : List ClassDef) (code : Option ListedCode) → IfSome code (CodeThere t) → BothOrNone (IsCodeOf (dex_value t cs) t) (option_map (raw_code t) code) code
maybe_code_is t cs None h = tt
maybe_code_is t cs (Some code) h = record { spelled = refl; lines = lines_name t cs code.lines h.lines; tries = tries_name t cs code.tries h.tries }

-- ---- members

fields_are : (t : Tables) (cs : List ClassDef) (class : List ℕ) (kind : Bool) (row : ℕ) (fs : List ListedField) → FieldsAt t class row fs
    → EachPair (IsFieldIn (dex_value t cs) class) (members_from kind row fs) (filter (λ f. is_of kind (is_static f)) fs)
fields_are t cs class kind row [] h = tt
fields_are t cs class kind row (f ∷ fs) h =
    let dex = dex_value t cs in
    let later = members_from kind (row + 1) fs in
    let kept = filter (λ (g : ListedField). is_of kind (is_static g)) fs in
    let rest = fields_are t cs class kind (row + 1) fs h.1 in
    elim (is_of kind (is_static f)) as (λ b. EachPair (IsFieldIn dex class) (cond b (member_of row f ∷ later) later) (cond b (f ∷ kept) kept)) [
      | true ↦ (record { row = field_is t cs row class f.name f.kind h.0.names h.0.row; flags = refl }, rest)
      | false ↦ rest
    ]

methods_are : (t : Tables) (cs : List ClassDef) (class : List ℕ) (kind : Bool) (row : ℕ) (ms : List ListedMethod) → MethodsAt t class row ms → BodiesThere t ms
    → EachPair (IsMethodIn (dex_value t cs) t class) (bodies_from t kind row ms) (filter (λ m. is_of kind (is_direct m)) ms)
methods_are t cs class kind row [] h bodies = tt
methods_are t cs class kind row (m ∷ ms) h bodies =
    let dex = dex_value t cs in
    let later = bodies_from t kind (row + 1) ms in
    let kept = filter (λ (g : ListedMethod). is_of kind (is_direct g)) ms in
    let rest = methods_are t cs class kind (row + 1) ms h.1 bodies.1 in
    elim (is_of kind (is_direct m)) as (λ b. EachPair (IsMethodIn dex t class) (cond b (body_of t row m ∷ later) later) (cond b (m ∷ kept) kept)) [
      | true ↦ (record { row = method_is t cs row class m.name m.params m.ret h.0.names h.0.row; flags = refl; code = maybe_code_is t cs m.code bodies.0 }, rest)
      | false ↦ rest
    ]

-- ---- classes

superclass_is : (t : Tables) (cs : List ClassDef) (superclass : Option (List ℕ)) → IfSome superclass (HasType t) → BothOrNone (IsTypeOf (dex_value t cs)) (option_map (type_index t) superclass) superclass
superclass_is t cs None h = tt
superclass_is t cs (Some name) h = type_is t cs name h

class_is : (t : Tables) (cs : List ClassDef) (field method : ℕ) (c : ListedClass) → ClassAt t field method c → BodiesThere t c.methods → IsClassOf (dex_value t cs) t (class_def t field method c) c
unfolding class_def
class_is t cs field method c h bodies = record {
  name = type_is t cs c.name h.name;
  flags = refl;
  superclass = superclass_is t cs c.superclass h.superclass;
  interfaces = types_are t cs c.interfaces h.interfaces;
  statics = fields_are t cs c.name true field c.fields h.fields;
  instances = fields_are t cs c.name false field c.fields h.fields;
  directs = methods_are t cs c.name true method c.methods h.methods bodies;
  virtuals = methods_are t cs c.name false method c.methods h.methods bodies;
}

classes_are : (t : Tables) (all : List ClassDef) (field method : ℕ) (cs : List ListedClass) → ClassesAt t field method cs → AllBodiesThere t cs → EachPair (IsClassOf (dex_value t all) t) (class_defs_from t field method cs) cs
classes_are t all field method [] h bodies = tt
classes_are t all field method (c ∷ cs) h bodies = (class_is t all field method c h.0 bodies.0, classes_are t all (field + length c.fields) (method + length c.methods) cs h.1 bodies.1)

pub listing_named : (listing : Listing) (all : List ClassDef) → EachPair (IsClassOf (dex_value (tables_of listing) all) (tables_of listing)) (class_defs_from (tables_of listing) 0 0 listing.classes) listing.classes
listing_named listing all = classes_are (tables_of listing) all 0 0 listing.classes (listing_at listing).classes (listing_at listing).bodies
