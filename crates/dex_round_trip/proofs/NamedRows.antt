-- What the tables of a listing have, once all is named.
use Rattle.std.proofs.Common.{◌≡◌, ℕ, ◌+◌, List, [], ◌∷◌, length, Option, Some, None, refl, subst, arith}
use Rattle.std.specs.Prelude.{IfSome, slice_get}
use Rattle.std.specs.List.{AllByRecursion}
use Rattle.dex_writer.specs.declared.tables.Tables.{Tables}
use Rattle.dex_maker.specs.declared.listing.Listing.{Listing}
use Rattle.dex_maker.specs.declared.listing.ListedClass.{ListedClass}
use Rattle.dex_maker.specs.declared.listing.ListedField.{ListedField}
use Rattle.dex_maker.specs.declared.listing.ListedMethod.{ListedMethod}
use Rattle.dex_maker.specs.declared.listing.ListedCode.{ListedCode}
use Rattle.dex_maker.specs.declared.listing.ListedTry.{ListedTry}
use Rattle.dex_maker.specs.declared.listing.ListedLine.{ListedLine}
use Rattle.dex_maker.specs.declared.listing.ListedLine.TheVariants.{Plain, Packed, Sparse, Filled}
use Rattle.dex_maker.specs.declared.listing.Operand.{Operand}
use Rattle.dex_maker.specs.declared.listing.Operand.TheVariants.{Nothing, Text, Class, Field, Method}
use Rattle.dex_writer.specs.Tables.{list_cmp, field_row, method_row, no_tables, with_string, with_type, with_types, with_field, with_method, and_field, and_method}
use Rattle.dex_maker.specs.Naming.{with_fields, with_methods, with_superclass, with_class, with_classes, with_operand, with_line, with_lines, with_handlers, with_tries, with_code, with_bodies, with_all_bodies, tables_of}
use Rattle.dex_round_trip.proofs.Extensions.{placed_more, get_prefix, Extends, extends_same, extends_more, HasString, HasType, HasTypes, has_string, has_type, has_types, string_stays, type_stays, proto_index_stays}
use Rattle.dex_round_trip.proofs.NamingSteps.{Adds, adds_none, adds_more, string_adds, string_there, type_adds, type_there, types_add, types_there, FieldNames, MethodNames, field_names, method_names, FieldThere, MethodThere, with_field_named, with_method_named, and_field_pushed, and_method_pushed}

field_row_stays : (t u : Tables) (class name kind : List ℕ) → Extends t u → FieldNames t class name kind → field_row u class name kind ≡ field_row t class name kind
unfolding field_row
field_row_stays t u class name kind e h = rw (type_stays t u class e h.class_there, type_stays t u kind e h.kind_there, string_stays t u name e h.name_there) refl

method_row_stays : (t u : Tables) (class name : List ℕ) (params : List (List ℕ)) (ret : List ℕ) → Extends t u → MethodNames t class name params ret → method_row u class name params ret ≡ method_row t class name params ret
unfolding method_row
method_row_stays t u class name params ret e h = rw (type_stays t u class e h.class_there, proto_index_stays t u params ret e h.proto_is_there, string_stays t u name e h.name_there) refl

-- ---- members

-- the row of a field of a class, or of a method
pub record FieldAt (t : Tables) (at : ℕ) (class name kind : List ℕ) : Type 0 where
  pub names : FieldNames t class name kind
  pub row : slice_get t.fields at ≡ Some (field_row t class name kind)

pub record MethodAt (t : Tables) (at : ℕ) (class name : List ℕ) (params : List (List ℕ)) (ret : List ℕ) : Type 0 where
  pub names : MethodNames t class name params ret
  pub row : slice_get t.methods at ≡ Some (method_row t class name params ret)

abbrev pub FieldsAt : Tables → List ℕ → ℕ → List ListedField → Type 0
FieldsAt t class at [] = Unit {0}
FieldsAt t class at (f ∷ fs) = FieldAt t at class f.name f.kind × FieldsAt t class (at + 1) fs

abbrev pub MethodsAt : Tables → List ℕ → ℕ → List ListedMethod → Type 0
MethodsAt t class at [] = Unit {0}
MethodsAt t class at (m ∷ ms) = MethodAt t at class m.name m.params m.ret × MethodsAt t class (at + 1) ms

again : (f m g n : ℕ) (t u : Tables) → f ≡ g → m ≡ n → Adds f m t u → Adds g n t u
again f m g n t u ef em h = subst (λ (k : ℕ). Adds g k t u) em (subst (λ (k : ℕ). Adds k m t u) ef h)

fields_add : (t : Tables) (class : List ℕ) (fs : List ListedField) → Adds (length fs) 0 t (with_fields t class fs)
fields_add t class [] = adds_none t
fields_add t class (f ∷ fs) =
    let u = and_field t class f.name f.kind in
    again (1 + length fs) (0 + 0) _ _ _ _ (omega arith) (omega arith) (adds_more 1 0 (length fs) 0 t u (with_fields u class fs) (and_field_pushed t class f.name f.kind).adds (fields_add u class fs))

methods_add : (t : Tables) (class : List ℕ) (ms : List ListedMethod) → Adds 0 (length ms) t (with_methods t class ms)
methods_add t class [] = adds_none t
methods_add t class (m ∷ ms) =
    let u = and_method t class m.name m.params m.ret in
    again (0 + 0) (1 + length ms) _ _ _ _ (omega arith) (omega arith) (adds_more 0 1 0 (length ms) t u (with_methods u class ms) (and_method_pushed t class m.name m.params m.ret).adds (methods_add u class ms))

fields_at : (t : Tables) (class : List ℕ) (fs : List ListedField) (end : Tables) → Extends (with_fields t class fs) end → FieldsAt end class (length t.fields) fs
fields_at t class [] end e = tt
fields_at t class (f ∷ fs) end e =
    let u = and_field t class f.name f.kind in
    let p = and_field_pushed t class f.name f.kind in
    let ue = extends_more u (with_fields u class fs) end (fields_add u class fs).extends e in
    let here : slice_get end.fields (length t.fields) ≡ Some (field_row u class f.name f.kind) = get_prefix u.fields end.fields (length t.fields) (field_row u class f.name f.kind) ue.fields p.row in
    let next : length u.fields ≡ length t.fields + 1 = p.adds.fields in (
      record { names = field_names u end class f.name f.kind ue p.names; row = rw (field_row_stays u end class f.name f.kind ue p.names) here },
      subst (λ (k : ℕ). FieldsAt end class k fs) next (fields_at u class fs end e),
    )

methods_at : (t : Tables) (class : List ℕ) (ms : List ListedMethod) (end : Tables) → Extends (with_methods t class ms) end → MethodsAt end class (length t.methods) ms
methods_at t class [] end e = tt
methods_at t class (m ∷ ms) end e =
    let u = and_method t class m.name m.params m.ret in
    let p = and_method_pushed t class m.name m.params m.ret in
    let ue = extends_more u (with_methods u class ms) end (methods_add u class ms).extends e in
    let here : slice_get end.methods (length t.methods) ≡ Some (method_row u class m.name m.params m.ret) = get_prefix u.methods end.methods (length t.methods) (method_row u class m.name m.params m.ret) ue.methods p.row in
    let next : length u.methods ≡ length t.methods + 1 = p.adds.methods in (
      record { names = method_names u end class m.name m.params m.ret ue p.names; row = rw (method_row_stays u end class m.name m.params m.ret ue p.names) here },
      subst (λ (k : ℕ). MethodsAt end class k ms) next (methods_at u class ms end e),
    )

-- ---- classes

pub record ClassAt (t : Tables) (field method : ℕ) (c : ListedClass) : Type 0 where
  pub name : HasType t c.name
  pub superclass : IfSome c.superclass (HasType t)
  pub interfaces : HasTypes t c.interfaces
  pub fields : FieldsAt t c.name field c.fields
  pub methods : MethodsAt t c.name method c.methods

abbrev pub ClassesAt : Tables → ℕ → ℕ → List ListedClass → Type 0
ClassesAt t field method [] = Unit {0}
ClassesAt t field method (c ∷ cs) = ClassAt t field method c × ClassesAt t (field + length c.fields) (method + length c.methods) cs

superclass_adds : (t : Tables) (superclass : Option (List ℕ)) → Adds 0 0 t (with_superclass t superclass)
superclass_adds t None = adds_none t
superclass_adds t (Some name) = type_adds t name

superclass_there : (t : Tables) (superclass : Option (List ℕ)) (end : Tables) → Extends (with_superclass t superclass) end → IfSome superclass (HasType end)
superclass_there t None end e = tt
superclass_there t (Some name) end e = has_type (with_type t name) end name e (type_there t name)

record ClassNamed (t u end : Tables) (c : ListedClass) : Type 0 where
  pub adds : Adds (length c.fields) (length c.methods) t u
  pub at : Extends u end → ClassAt end (length t.fields) (length t.methods) c

class_named : (t : Tables) (c : ListedClass) (end : Tables) → ClassNamed t (with_class t c) end c
unfolding with_class
class_named t c end =
    let a = with_type t c.name in
    let b = with_superclass a c.superclass in
    let d = with_types b c.interfaces in
    let f = with_fields d c.name c.fields in
    let m = with_methods f c.name c.methods in
    let ta = type_adds t c.name in
    let ab = superclass_adds a c.superclass in
    let bd = types_add b c.interfaces in
    let df = fields_add d c.name c.fields in
    let fm = methods_add f c.name c.methods in
    let td = adds_more _ _ _ _ t b d (adds_more 0 0 0 0 t a b ta ab) bd in
    let fields-here : length d.fields ≡ length t.fields = omega (arith, td.fields) in
    let methods-here : length f.methods ≡ length t.methods = omega (arith, td.methods, df.methods) in
    record {
      adds = again (0 + 0 + 0 + length c.fields + 0) (0 + 0 + 0 + 0 + length c.methods) _ _ _ _ (omega arith) (omega arith) (adds_more _ _ _ _ t f m (adds_more _ _ _ _ t d f td df) fm);
      at = λ e.
          let fe = extends_more f m end fm.extends e in
          let de = extends_more d f end df.extends fe in
          let be = extends_more b d end bd.extends de in
          let ae = extends_more a b end ab.extends be in
          record {
            name = has_type a end c.name ae (type_there t c.name);
            superclass = superclass_there a c.superclass end be;
            interfaces = has_types d end c.interfaces de (types_there b c.interfaces);
            fields = subst (λ (k : ℕ). FieldsAt end c.name k c.fields) fields-here (fields_at d c.name c.fields end fe);
            methods = subst (λ (k : ℕ). MethodsAt end c.name k c.methods) methods-here (methods_at f c.name c.methods end e);
          };
    }

classes_extend : (t : Tables) (cs : List ListedClass) → Extends t (with_classes t cs)
classes_extend t [] = extends_same t
classes_extend t (c ∷ cs) = extends_more t (with_class t c) (with_classes (with_class t c) cs) (class_named t c t).adds.extends (classes_extend (with_class t c) cs)

classes_at : (t : Tables) (cs : List ListedClass) (end : Tables) → Extends (with_classes t cs) end → ClassesAt end (length t.fields) (length t.methods) cs
classes_at t [] end e = tt
classes_at t (c ∷ cs) end e =
    let u = with_class t c in
    let n = class_named t c end in
    let rest : ClassesAt end (length t.fields + length c.fields) (length t.methods + length c.methods) cs =
    subst (λ (k : ℕ). ClassesAt end (length t.fields + length c.fields) k cs) n.adds.methods
    (subst (λ (k : ℕ). ClassesAt end k (length u.methods) cs) n.adds.fields (classes_at u cs end e)) in
    (n.at (extends_more u (with_classes u cs) end (classes_extend u cs) e), rest)

-- ---- what code names

abbrev pub OperandThere : Tables → Operand → Type 0
OperandThere t Nothing = Unit {0}
OperandThere t (Text text) = HasString t text
OperandThere t (Class class) = HasType t class
OperandThere t (Field class name kind) = FieldThere t class name kind
OperandThere t (Method class name params ret) = MethodThere t class name params ret

abbrev pub LineThere : Tables → ListedLine → Type 0
LineThere t (Plain opcode registers literal operand target) = OperandThere t operand
LineThere t (Packed switch first_key targets) = Unit {0}
LineThere t (Sparse switch pairs) = Unit {0}
LineThere t (Filled width bytes) = Unit {0}

abbrev pub TryThere : Tables → ListedTry → Type 0
TryThere t item = AllByRecursion (λ (h : List ℕ × ℕ). HasType t h.0) item.handlers

pub record CodeThere (t : Tables) (code : ListedCode) : Type 0 where
  pub lines : AllByRecursion (LineThere t) code.lines
  pub tries : AllByRecursion (TryThere t) code.tries

abbrev pub BodiesThere : Tables → List ListedMethod → Type 0
BodiesThere t ms = AllByRecursion (λ (m : ListedMethod). IfSome m.code (CodeThere t)) ms

abbrev pub AllBodiesThere : Tables → List ListedClass → Type 0
AllBodiesThere t cs = AllByRecursion (λ (c : ListedClass). BodiesThere t c.methods) cs

operand_extends : (t : Tables) (operand : Operand) → Extends t (with_operand t operand)
operand_extends t Nothing = extends_same t
operand_extends t (Text text) = (string_adds t text).extends
operand_extends t (Class class) = (type_adds t class).extends
operand_extends t (Field class name kind) = (with_field_named t class name kind).extends
operand_extends t (Method class name params ret) = (with_method_named t class name params ret).extends

operand_there : (t : Tables) (operand : Operand) (end : Tables) → Extends (with_operand t operand) end → OperandThere end operand
operand_there t Nothing end e = tt
operand_there t (Text text) end e = has_string (with_string t text) end text e (string_there t text)
operand_there t (Class class) end e = has_type (with_type t class) end class e (type_there t class)
operand_there t (Field class name kind) end e =
    let u = with_field t class name kind in
    let h = (with_field_named t class name kind).there in
    record { names = field_names u end class name kind e h.names; row = rw (field_row_stays u end class name kind e h.names) (placed_more list_cmp u.fields end.fields (field_row u class name kind) e.fields h.row) }
operand_there t (Method class name params ret) end e =
    let u = with_method t class name params ret in
    let h = (with_method_named t class name params ret).there in
    record { names = method_names u end class name params ret e h.names; row = rw (method_row_stays u end class name params ret e h.names) (placed_more list_cmp u.methods end.methods (method_row u class name params ret) e.methods h.row) }

line_extends : (t : Tables) (line : ListedLine) → Extends t (with_line t line)
line_extends t (Plain opcode registers literal operand target) = operand_extends t operand
line_extends t (Packed switch first_key targets) = extends_same t
line_extends t (Sparse switch pairs) = extends_same t
line_extends t (Filled width bytes) = extends_same t

line_there : (t : Tables) (line : ListedLine) (end : Tables) → Extends (with_line t line) end → LineThere end line
line_there t (Plain opcode registers literal operand target) end e = operand_there t operand end e
line_there t (Packed switch first_key targets) end e = tt
line_there t (Sparse switch pairs) end e = tt
line_there t (Filled width bytes) end e = tt

lines_extend : (t : Tables) (lines : List ListedLine) → Extends t (with_lines t lines)
lines_extend t [] = extends_same t
lines_extend t (l ∷ ls) = extends_more t (with_line t l) (with_lines (with_line t l) ls) (line_extends t l) (lines_extend (with_line t l) ls)

lines_there : (t : Tables) (lines : List ListedLine) (end : Tables) → Extends (with_lines t lines) end → AllByRecursion (LineThere end) lines
lines_there t [] end e = tt
lines_there t (l ∷ ls) end e =
    let u = with_line t l in
    (line_there t l end (extends_more u (with_lines u ls) end (lines_extend u ls) e), lines_there u ls end e)

handlers_extend : (t : Tables) (hs : List (List ℕ × ℕ)) → Extends t (with_handlers t hs)
handlers_extend t [] = extends_same t
handlers_extend t (h ∷ hs) = extends_more t (with_type t h.0) (with_handlers (with_type t h.0) hs) (type_adds t h.0).extends (handlers_extend (with_type t h.0) hs)

handlers_there : (t : Tables) (hs : List (List ℕ × ℕ)) (end : Tables) → Extends (with_handlers t hs) end → AllByRecursion (λ (h : List ℕ × ℕ). HasType end h.0) hs
handlers_there t [] end e = tt
handlers_there t (h ∷ hs) end e =
    let u = with_type t h.0 in
    (has_type u end h.0 (extends_more u (with_handlers u hs) end (handlers_extend u hs) e) (type_there t h.0), handlers_there u hs end e)

tries_extend : (t : Tables) (xs : List ListedTry) → Extends t (with_tries t xs)
tries_extend t [] = extends_same t
tries_extend t (x ∷ xs) = extends_more t (with_handlers t x.handlers) (with_tries (with_handlers t x.handlers) xs) (handlers_extend t x.handlers) (tries_extend (with_handlers t x.handlers) xs)

tries_there : (t : Tables) (xs : List ListedTry) (end : Tables) → Extends (with_tries t xs) end → AllByRecursion (TryThere end) xs
tries_there t [] end e = tt
tries_there t (x ∷ xs) end e =
    let u = with_handlers t x.handlers in
    (handlers_there t x.handlers end (extends_more u (with_tries u xs) end (tries_extend u xs) e), tries_there u xs end e)

code_extends : (t : Tables) (code : Option ListedCode) → Extends t (with_code t code)
code_extends t None = extends_same t
code_extends t (Some code) = extends_more t (with_lines t code.lines) (with_tries (with_lines t code.lines) code.tries) (lines_extend t code.lines) (tries_extend (with_lines t code.lines) code.tries)

code_there : (t : Tables) (code : Option ListedCode) (end : Tables) → Extends (with_code t code) end → IfSome code (CodeThere end)
code_there t None end e = tt
code_there t (Some code) end e =
    let u = with_lines t code.lines in
    record { lines = lines_there t code.lines end (extends_more u (with_tries u code.tries) end (tries_extend u code.tries) e); tries = tries_there u code.tries end e }

bodies_extend : (t : Tables) (ms : List ListedMethod) → Extends t (with_bodies t ms)
bodies_extend t [] = extends_same t
bodies_extend t (m ∷ ms) = extends_more t (with_code t m.code) (with_bodies (with_code t m.code) ms) (code_extends t m.code) (bodies_extend (with_code t m.code) ms)

bodies_there : (t : Tables) (ms : List ListedMethod) (end : Tables) → Extends (with_bodies t ms) end → BodiesThere end ms
bodies_there t [] end e = tt
bodies_there t (m ∷ ms) end e =
    let u = with_code t m.code in
    (code_there t m.code end (extends_more u (with_bodies u ms) end (bodies_extend u ms) e), bodies_there u ms end e)

all_bodies_extend : (t : Tables) (cs : List ListedClass) → Extends t (with_all_bodies t cs)
all_bodies_extend t [] = extends_same t
all_bodies_extend t (c ∷ cs) = extends_more t (with_bodies t c.methods) (with_all_bodies (with_bodies t c.methods) cs) (bodies_extend t c.methods) (all_bodies_extend (with_bodies t c.methods) cs)

all_bodies_there : (t : Tables) (cs : List ListedClass) (end : Tables) → Extends (with_all_bodies t cs) end → AllBodiesThere end cs
all_bodies_there t [] end e = tt
all_bodies_there t (c ∷ cs) end e =
    let u = with_bodies t c.methods in
    (bodies_there t c.methods end (extends_more u (with_all_bodies u cs) end (all_bodies_extend u cs) e), all_bodies_there u cs end e)

-- ---- all of a listing

pub record ListingAt (listing : Listing) : Type 0 where
  pub classes : ClassesAt (tables_of listing) 0 0 listing.classes
  pub bodies : AllBodiesThere (tables_of listing) listing.classes

pub listing_at : (listing : Listing) → ListingAt listing
unfolding tables_of
listing_at listing =
    let cs = listing.classes in
    let u = with_classes no_tables cs in
    let end = with_all_bodies u cs in
    record { classes = classes_at no_tables cs end (all_bodies_extend u cs); bodies = all_bodies_there u cs end (extends_same end) }
