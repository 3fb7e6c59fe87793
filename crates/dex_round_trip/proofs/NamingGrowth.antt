-- The tables of a listing grow as its classes are named, and stay sound.
use Rattle.std.proofs.Common.{◌≡◌, ℕ, ◌+◌, ◌<◌, ◌≤◌, List, [], ◌∷◌, length, Option, Some, None, subst, arith}
use Rattle.std.specs.Prelude.{IfSome, sum_by}
use Rattle.std.specs.List.{AllByRecursion}
use Rattle.std.proofs.lemmas.List.Sums.{sum_by-cons}
use Rattle.dex_writer.specs.declared.tables.Tables.{Tables}
use Rattle.dex_maker.specs.declared.listing.Listing.{Listing}
use Rattle.dex_maker.specs.declared.listing.ListedClass.{ListedClass}
use Rattle.dex_maker.specs.declared.listing.ListedField.{ListedField}
use Rattle.dex_maker.specs.declared.listing.ListedMethod.{ListedMethod}
use Rattle.dex_maker.specs.declared.listing.ListedCode.{ListedCode}
use Rattle.dex_maker.specs.declared.listing.ListedTry.{ListedTry}
use Rattle.dex_maker.specs.declared.listing.ListedLine.{ListedLine}
use Rattle.dex_maker.specs.declared.listing.ListedLine.TheVariants.{Plain, Packed, Sparse, Filled}
use Rattle.dex_maker.specs.declared.listing.Operand.{Operand}
use Rattle.dex_maker.specs.declared.listing.Operand.TheVariants.{Nothing, Text, Class, Field, Method}
use Rattle.dex_writer.specs.Tables.{no_tables, with_type, with_types, and_field, and_method}
use Rattle.dex_maker.specs.Naming.{with_fields, with_methods, with_superclass, with_class, with_classes, with_operand, with_line, with_lines, with_handlers, with_tries, with_code, with_bodies, with_all_bodies, tables_of}
use Rattle.dex_round_trip.specs.Listings.{IsName, FieldCanBeRead, OperandCanBeRead, LineCanBeRead, TryCanBeRead, CodeCanBeRead, MethodCanBeRead, ClassCanBeRead}
use Rattle.dex_round_trip.proofs.TableGrowth.{Sound, Grown, stays, then_grown, string_grown, type_grown, type_some, types_grown, with_field_grown, and_field_grown, with_method_grown, and_method_grown}

again : (f m g n : ℕ) (t u : Tables) → f ≡ g → m ≡ n → Grown f m t u → Grown g n t u
again f m g n t u ef em h = subst (λ (k : ℕ). Grown g k t u) em (subst (λ (k : ℕ). Grown k m t u) ef h)

fields_grown : (t : Tables) (class : List ℕ) (fs : List ListedField) → Sound t → IsName class → AllByRecursion FieldCanBeRead fs → Grown (length fs) 0 t (with_fields t class fs)
fields_grown t class [] sound c are = stays t sound
fields_grown t class (f ∷ fs) sound c are =
    let u = and_field t class f.name f.kind in
    let a = and_field_grown t class f.name f.kind sound c are.0.name are.0.kind in
    again (1 + length fs) (0 + 0) _ _ _ _ (omega arith) (omega arith) (then_grown 1 0 (length fs) 0 t u (with_fields u class fs) a (fields_grown u class fs a.sound c are.1))

methods_grown : (t : Tables) (class : List ℕ) (ms : List ListedMethod) → Sound t → IsName class → AllByRecursion MethodCanBeRead ms → Grown 0 (length ms) t (with_methods t class ms)
methods_grown t class [] sound c are = stays t sound
methods_grown t class (m ∷ ms) sound c are =
    let u = and_method t class m.name m.params m.ret in
    let a = and_method_grown t class m.name m.params m.ret sound c are.0.name are.0.params are.0.ret in
    again (0 + 0) (1 + length ms) _ _ _ _ (omega arith) (omega arith) (then_grown 0 1 0 (length ms) t u (with_methods u class ms) a (methods_grown u class ms a.sound c are.1))

superclass_grown : (t : Tables) (superclass : Option (List ℕ)) → Sound t → IfSome superclass IsName → Grown 0 0 t (with_superclass t superclass)
superclass_grown t None sound is = stays t sound
superclass_grown t (Some name) sound is = type_grown t name sound is

record ClassGrown (c : ListedClass) (t u : Tables) : Type 0 where
  pub grown : Grown (length c.fields) (length c.methods) t u
  pub types : 0 < length u.types

class_grown : (t : Tables) (c : ListedClass) → Sound t → ClassCanBeRead c → ClassGrown c t (with_class t c)
unfolding with_class
class_grown t c sound is =
    let a = with_type t c.name in
    let b = with_superclass a c.superclass in
    let d = with_types b c.interfaces in
    let e = with_fields d c.name c.fields in
    let f = with_methods e c.name c.methods in
    let ga = type_grown t c.name sound is.name in
    let gb = superclass_grown a c.superclass ga.sound is.superclass in
    let gd = types_grown b c.interfaces gb.sound is.interfaces in
    let ge = fields_grown d c.name c.fields gd.sound is.name is.fields in
    let gf = methods_grown e c.name c.methods ge.sound is.name is.methods in
    record {
      grown = again (0 + 0 + 0 + length c.fields + 0) (0 + 0 + 0 + 0 + length c.methods) _ _ _ _ (omega arith) (omega arith)
          (then_grown _ _ _ _ t e f (then_grown _ _ _ _ t d e (then_grown _ _ _ _ t b d (then_grown 0 0 0 0 t a b ga gb) gd) ge) gf);
      types = omega (arith, type_some t c.name, gb.types, gd.types, ge.types, gf.types);
    }

abbrev pub fields_in : ListedClass → ℕ
fields_in c = length c.fields

abbrev pub methods_in : ListedClass → ℕ
methods_in c = length c.methods

classes_grown : (t : Tables) (cs : List ListedClass) → Sound t → AllByRecursion ClassCanBeRead cs → Grown (sum_by fields_in cs) (sum_by methods_in cs) t (with_classes t cs)
classes_grown t [] sound are = stays t sound
classes_grown t (c ∷ cs) sound are =
    let u = with_class t c in
    let a = (class_grown t c sound are.0).grown in
    again (length c.fields + sum_by fields_in cs) (length c.methods + sum_by methods_in cs) _ _ _ _ (omega (arith, sum_by-cons fields_in c cs)) (omega (arith, sum_by-cons methods_in c cs))
    (then_grown _ _ _ _ t u (with_classes u cs) a (classes_grown u cs a.sound are.1))

some_types : (t : Tables) (c : ListedClass) (cs : List ListedClass) → Sound t → AllByRecursion ClassCanBeRead (c ∷ cs) → 0 < length (with_classes t (c ∷ cs)).types
some_types t c cs sound are =
    let a = class_grown t c sound are.0 in
    omega (arith, a.types, (classes_grown (with_class t c) cs a.grown.sound are.1).types)

-- ---- what the code names

operand_grown : (t : Tables) (operand : Operand) → Sound t → OperandCanBeRead operand → Grown 0 0 t (with_operand t operand)
operand_grown t Nothing sound is = stays t sound
operand_grown t (Text text) sound is = string_grown t text sound is
operand_grown t (Class class) sound is = type_grown t class sound is
operand_grown t (Field class name kind) sound is = with_field_grown t class name kind sound is.0 is.1 is.2
operand_grown t (Method class name params ret) sound is = with_method_grown t class name params ret sound is.0 is.1 is.2 is.3

line_grown : (t : Tables) (line : ListedLine) → Sound t → LineCanBeRead line → Grown 0 0 t (with_line t line)
line_grown t (Plain opcode registers literal operand target) sound is = operand_grown t operand sound is.1
line_grown t (Packed switch first_key targets) sound is = stays t sound
line_grown t (Sparse switch pairs) sound is = stays t sound
line_grown t (Filled width bytes) sound is = stays t sound

lines_grown : (t : Tables) (lines : List ListedLine) → Sound t → AllByRecursion LineCanBeRead lines → Grown 0 0 t (with_lines t lines)
lines_grown t [] sound are = stays t sound
lines_grown t (line ∷ lines) sound are =
    let a = line_grown t line sound are.0 in
    then_grown 0 0 0 0 t (with_line t line) (with_lines (with_line t line) lines) a (lines_grown (with_line t line) lines a.sound are.1)

handlers_grown : (t : Tables) (hs : List (List ℕ × ℕ)) → Sound t → AllByRecursion (λ (h : List ℕ × ℕ). IsName h.0) hs → Grown 0 0 t (with_handlers t hs)
handlers_grown t [] sound are = stays t sound
handlers_grown t (h ∷ hs) sound are =
    let a = type_grown t h.0 sound are.0 in
    then_grown 0 0 0 0 t (with_type t h.0) (with_handlers (with_type t h.0) hs) a (handlers_grown (with_type t h.0) hs a.sound are.1)

tries_grown : (t : Tables) (xs : List ListedTry) → Sound t → AllByRecursion TryCanBeRead xs → Grown 0 0 t (with_tries t xs)
tries_grown t [] sound are = stays t sound
tries_grown t (x ∷ xs) sound are =
    let a = handlers_grown t x.handlers sound are.0.names in
    then_grown 0 0 0 0 t (with_handlers t x.handlers) (with_tries (with_handlers t x.handlers) xs) a (tries_grown (with_handlers t x.handlers) xs a.sound are.1)

code_grown : (t : Tables) (code : Option ListedCode) → Sound t → IfSome code CodeCanBeRead → Grown 0 0 t (with_code t code)
code_grown t None sound is = stays t sound
code_grown t (Some code) sound is =
    let u = with_lines t code.lines in
    let a = lines_grown t code.lines sound is.lines in
    then_grown 0 0 0 0 t u (with_tries u code.tries) a (tries_grown u code.tries a.sound is.tries)

bodies_grown : (t : Tables) (ms : List ListedMethod) → Sound t → AllByRecursion MethodCanBeRead ms → Grown 0 0 t (with_bodies t ms)
bodies_grown t [] sound are = stays t sound
bodies_grown t (m ∷ ms) sound are =
    let a = code_grown t m.code sound are.0.code in
    then_grown 0 0 0 0 t (with_code t m.code) (with_bodies (with_code t m.code) ms) a (bodies_grown (with_code t m.code) ms a.sound are.1)

all_bodies_grown : (t : Tables) (cs : List ListedClass) → Sound t → AllByRecursion ClassCanBeRead cs → Grown 0 0 t (with_all_bodies t cs)
all_bodies_grown t [] sound are = stays t sound
all_bodies_grown t (c ∷ cs) sound are =
    let a = bodies_grown t c.methods sound are.0.methods in
    then_grown 0 0 0 0 t (with_bodies t c.methods) (with_all_bodies (with_bodies t c.methods) cs) a (all_bodies_grown (with_bodies t c.methods) cs a.sound are.1)

-- ---- the tables of a listing

pub record ListingTables (listing : Listing) : Type 0 where
  pub sound : Sound (tables_of listing)
  pub types : 0 < length listing.classes → 0 < length (tables_of listing).types
  pub fields : sum_by fields_in listing.classes ≤ length (tables_of listing).fields
  pub methods : sum_by methods_in listing.classes ≤ length (tables_of listing).methods

none_sound : Sound no_tables
none_sound = record { strings = tt; types = tt; protos = tt; fields = tt; methods = tt }

some_classes : (t : Tables) (cs : List ListedClass) → Sound t → AllByRecursion ClassCanBeRead cs → 0 < length cs → 0 < length (with_classes t cs).types
some_classes t [] sound are lt = absurd (omega arith)
some_classes t (c ∷ cs) sound are lt = some_types t c cs sound are

pub listing_tables : (listing : Listing) → AllByRecursion ClassCanBeRead listing.classes → ListingTables listing
unfolding tables_of
listing_tables listing are =
    let cs = listing.classes in
    let u = with_classes no_tables cs in
    let a = classes_grown no_tables cs none_sound are in
    let b = all_bodies_grown u cs a.sound are in
    record {
      sound = b.sound;
      types = λ lt. omega (arith, some_classes no_tables cs none_sound are lt, b.types);
      fields = omega (arith, a.fields, b.fields);
      methods = omega (arith, a.methods, b.methods);
    }
