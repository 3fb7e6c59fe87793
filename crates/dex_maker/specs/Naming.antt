-- The id tables of a listing: first what its classes and their members name, in its order, and then what its code names.
use Rattle.std.specs.Prelude.{ℕ, List, [], ◌∷◌, Option, Some, None}
use Rattle.dex_writer.specs.declared.tables.Tables.{Tables}
use Rattle.dex_maker.specs.declared.listing.Listing.{Listing}
use Rattle.dex_maker.specs.declared.listing.ListedClass.{ListedClass}
use Rattle.dex_maker.specs.declared.listing.ListedField.{ListedField}
use Rattle.dex_maker.specs.declared.listing.ListedMethod.{ListedMethod}
use Rattle.dex_maker.specs.declared.listing.ListedCode.{ListedCode}
use Rattle.dex_maker.specs.declared.listing.ListedTry.{ListedTry}
use Rattle.dex_maker.specs.declared.listing.ListedLine.{ListedLine}
use Rattle.dex_maker.specs.declared.listing.ListedLine.TheVariants.{Plain, Packed, Sparse, Filled}
use Rattle.dex_maker.specs.declared.listing.Operand.{Operand}
use Rattle.dex_maker.specs.declared.listing.Operand.TheVariants.{Nothing, Text, Class, Field, Method}
use Rattle.dex_writer.specs.Tables.{no_tables, with_string, with_type, with_types, with_field, with_method, and_field, and_method}

abbrev pub with_fields : Tables → List ℕ → List ListedField → Tables
with_fields t class [] = t
with_fields t class (f ∷ fs) = with_fields (and_field t class f.name f.kind) class fs

abbrev pub with_methods : Tables → List ℕ → List ListedMethod → Tables
with_methods t class [] = t
with_methods t class (m ∷ ms) = with_methods (and_method t class m.name m.params m.ret) class ms

abbrev pub with_superclass : Tables → Option (List ℕ) → Tables
with_superclass t None = t
with_superclass t (Some name) = with_type t name

-- a class, its superclass, its interfaces, its fields and its methods
unfoldable pub with_class : Tables → ListedClass → Tables
with_class t c = with_methods (with_fields (with_types (with_superclass (with_type t c.name) c.superclass) c.interfaces) c.name c.fields) c.name c.methods

abbrev pub with_classes : Tables → List ListedClass → Tables
with_classes t [] = t
with_classes t (c ∷ cs) = with_classes (with_class t c) cs

abbrev pub with_operand : Tables → Operand → Tables
with_operand t Nothing = t
with_operand t (Text text) = with_string t text
with_operand t (Class class) = with_type t class
with_operand t (Field class name kind) = with_field t class name kind
with_operand t (Method class name params ret) = with_method t class name params ret

abbrev pub with_line : Tables → ListedLine → Tables
with_line t (Plain opcode registers literal operand target) = with_operand t operand
with_line t (Packed switch first_key targets) = t
with_line t (Sparse switch pairs) = t
with_line t (Filled width bytes) = t

abbrev pub with_lines : Tables → List ListedLine → Tables
with_lines t [] = t
with_lines t (line ∷ lines) = with_lines (with_line t line) lines

abbrev pub with_handlers : Tables → List (List ℕ × ℕ) → Tables
with_handlers t [] = t
with_handlers t (h ∷ hs) = with_handlers (with_type t h.0) hs

abbrev pub with_tries : Tables → List ListedTry → Tables
with_tries t [] = t
with_tries t (x ∷ xs) = with_tries (with_handlers t x.handlers) xs

abbrev pub with_code : Tables → Option ListedCode → Tables
with_code t None = t
with_code t (Some code) = with_tries (with_lines t code.lines) code.tries

abbrev pub with_bodies : Tables → List ListedMethod → Tables
with_bodies t [] = t
with_bodies t (m ∷ ms) = with_bodies (with_code t m.code) ms

abbrev pub with_all_bodies : Tables → List ListedClass → Tables
with_all_bodies t [] = t
with_all_bodies t (c ∷ cs) = with_all_bodies (with_bodies t c.methods) cs

unfoldable pub tables_of : Listing → Tables
tables_of listing = with_all_bodies (with_classes no_tables listing.classes) listing.classes
