-- The header and the tables of a made file stand in it.
use Rattle.std.proofs.Common.{◌≡◌, ℕ, zero, suc, ◌+◌, ◌*◌, ◌<◌, ◌≤◌, true, cond, eqb, List, [], ◌∷◌, ◌++◌, length, map, replicate, inl, inr, refl, sym, ap, ◌∙◌, arith}
use Rattle.std.specs.Prelude.{◌⊎◌, nat_eq, sum_by}
use Rattle.std.specs.List.{AllByRecursion, flat_map, starts_with}
use Rattle.std.proofs.lemmas.Bool.{cases_Bool}
use Rattle.std.proofs.lemmas.List.{nil_from_length, length-map}
use Rattle.dex_tables.specs.declared.dex.ClassDef.{ClassDef}
use Rattle.dex_tables.specs.declared.header.Header.{Header}
use Rattle.dex_tables.specs.declared.header.Section.{Section}
use Rattle.dex_tables.specs.Headers as heads
use Rattle.dex_tables.specs.Sequences.{Follow}
use Rattle.dex_tables.specs.TablesStand.{TableStands, IsName, IsType, IsProto, IsField, IsMethod}
use Rattle.dex_reader.specs.ClassesStand.{IsClassRow}
use Rattle.dex_reader.specs.Dex.{IsSection, IsHeader, HasTables, interfaces_of}
use Rattle.dex_tables.specs.Totals.{no_totals, plus}
use Rattle.dex_reader.specs.Whole.{sizes_of}
use Rattle.dex_writer.specs.declared.tables.Tables.{Tables}
use Rattle.dex_writer.specs.Bytes.{u4_bytes, string_item}
use Rattle.dex_writer.specs.Placed.{offsets_of, rows_of, pieces, placed_rows}
use Rattle.dex_writer.specs.ClassData.{class_bytes, placed_row}
use Rattle.dex_writer.specs.File.{params_bytes, proto_row_bytes, member_row_bytes, types_at, protos_at, fields_at, methods_at, classes_at, data_at, params_data, class_begin, classes_data, strings_begin, strings_data}
use Rattle.dex_writer.specs.File.{string_ids, proto_ids, class_defs, section_bytes, header_begin, header_ids, header_bytes, file_bytes, AreShort}
use Rattle.dex_round_trip.specs.Values.{field_value, method_value, proto_value, dex_value}
use Rattle.dex_round_trip.proofs.ClassRows.{ClassFits, SmallSizes, classes_follow}
use Rattle.dex_round_trip.proofs.FileParts.{map_length, strings_length, protos_length, classes_length, tabled, body, parted, data_parts}
use Rattle.dex_round_trip.proofs.Fits.{classes_total}
use Rattle.dex_round_trip.proofs.IdTables.{AreFew, params_in, strings_stand, types_stand, protos_stand, fields_stand, methods_stand, member_length}
use Rattle.dex_round_trip.proofs.Standing.{Stands, stands_front, stands_back, stands_as, stands_within, u4_reads}
use Rattle.dex_round_trip.proofs.TableGrowth.{Sound}
use Rattle.dex_round_trip.proofs.Texts.{eqb_above}

-- a table of so many rows, whose offset is 0 where it has none
abbrev pub table_of : ℕ → ℕ → Section
table_of size at = record { size = size; at = cond (eqb size 0) 0 at }

-- the header of a file with these tables and classes
abbrev pub header_value : Tables → List ClassDef → Header
header_value t classes = record {
  file_size = length (file_bytes t classes);
  strings = table_of (length t.strings) 112;
  types = table_of (length t.types) (types_at t);
  protos = table_of (length t.protos) (protos_at t);
  fields = table_of (length t.fields) (fields_at t);
  methods = table_of (length t.methods) (methods_at t);
  classes = table_of (length classes) (classes_at t);
}

-- ---- tables with no rows

stands_none : (file : List ℕ) → Stands file 0 []
stands_none file = record { before = []; after = file; parts = refl; place = refl }

at_table : {X : Type 0} (file : List ℕ) (off : ℕ) (f : List X → List ℕ) (xs : List X) → f [] ≡ [] → Stands file off (f xs) → Stands file (cond (eqb (length xs) 0) 0 off) (f xs)
at_table file off f [] e s = stands_as file 0 [] (f []) (sym e) (stands_none file)
at_table file off f (x ∷ xs) e s = rw (eqb_above (suc (length xs)) (omega arith)) s

within_file : (size off width len : ℕ) → off + size * width ≤ len → (size ≡ 0) ⊎ (cond (eqb size 0) 0 off + size * width ≤ len)
within_file zero off width len le = inl refl
within_file (suc n) off width len le = inr (rw (eqb_above (suc n) (omega arith)) le)

-- ---- the header

record HeaderParts (t : Tables) (cs : List ClassDef) : Type 0 where
  pub magic : Stands (file_bytes t cs) 0 heads.magic
  pub size : Stands (file_bytes t cs) 32 (u4_bytes (data_at t cs + length (body t cs)))
  pub header_size : Stands (file_bytes t cs) 36 (u4_bytes 112)
  pub tag : Stands (file_bytes t cs) 40 (u4_bytes 305419896)
  pub strings : Stands (file_bytes t cs) 56 (section_bytes (length t.strings) 112)
  pub types : Stands (file_bytes t cs) 64 (section_bytes (length t.types) (types_at t))
  pub protos : Stands (file_bytes t cs) 72 (section_bytes (length t.protos) (protos_at t))
  pub fields : Stands (file_bytes t cs) 80 (section_bytes (length t.fields) (fields_at t))
  pub methods : Stands (file_bytes t cs) 88 (section_bytes (length t.methods) (methods_at t))
  pub classes : Stands (file_bytes t cs) 96 (section_bytes (length cs) (classes_at t))

header_parts : (t : Tables) (cs : List ClassDef) → HeaderParts t cs
unfolding header_bytes header_begin header_ids section_bytes
header_parts t cs =
    let file = file_bytes t cs in
    let n = data_at t cs + length (body t cs) in
    let m = heads.magic in
    let r = replicate 24 0 in
    let z = replicate 12 0 in
    let s1 = section_bytes (length t.strings) 112 in
    let s2 = section_bytes (length t.types) (types_at t) in
    let s3 = section_bytes (length t.protos) (protos_at t) in
    let s4 = section_bytes (length t.fields) (fields_at t) in
    let s5 = section_bytes (length t.methods) (methods_at t) in
    let s6 = section_bytes (length cs) (classes_at t) in
    let s7 = section_bytes (length (body t cs)) (data_at t cs) in
    let whole = (parted t cs).header in
    let upto6 = stands_front file 0 (header_begin n ++ header_ids t ++ s6) s7 whole in
    let upto5 = stands_front file 0 (header_begin n ++ header_ids t) s6 upto6 in
    let begin = stands_front file 0 (header_begin n) (header_ids t) upto5 in
    let ids = stands_back file 0 (header_begin n) (header_ids t) upto5 in
    let b5 = stands_front file 0 (m ++ r ++ u4_bytes n ++ u4_bytes 112 ++ u4_bytes 305419896) z begin in
    let b4 = stands_front file 0 (m ++ r ++ u4_bytes n ++ u4_bytes 112) (u4_bytes 305419896) b5 in
    let b3 = stands_front file 0 (m ++ r ++ u4_bytes n) (u4_bytes 112) b4 in
    let b2 = stands_front file 0 (m ++ r) (u4_bytes n) b3 in
    let i4 = stands_front file 56 (s1 ++ s2 ++ s3 ++ s4) s5 ids in
    let i3 = stands_front file 56 (s1 ++ s2 ++ s3) s4 i4 in
    let i2 = stands_front file 56 (s1 ++ s2) s3 i3 in
    record {
      magic = stands_front file 0 m r b2;
      size = stands_back file 0 (m ++ r) (u4_bytes n) b3;
      header_size = stands_back file 0 (m ++ r ++ u4_bytes n) (u4_bytes 112) b4;
      tag = stands_back file 0 (m ++ r ++ u4_bytes n ++ u4_bytes 112) (u4_bytes 305419896) b5;
      strings = stands_front file 56 s1 s2 i2;
      types = stands_back file 56 s1 s2 i2;
      protos = stands_back file 56 (s1 ++ s2) s3 i3;
      fields = stands_back file 56 (s1 ++ s2 ++ s3) s4 i4;
      methods = stands_back file 56 (s1 ++ s2 ++ s3 ++ s4) s5 ids;
      classes = stands_back file 0 (header_begin n ++ header_ids t) s6 upto6;
    }

begins : (file : List ℕ) → Stands file 0 heads.magic → starts_with nat_eq file heads.magic ≡ true
begins file s =
    let none : s.before ≡ [] = nil_from_length s.before s.place in
    let front : file ≡ heads.magic ++ s.after = s.parts ∙ ap (λ (x : List ℕ). x ++ (heads.magic ++ s.after)) none in
    rw front refl

cond_small : (n off : ℕ) → off < 4294967296 → cond (eqb n 0) 0 off < 4294967296
cond_small n off lt = elim (cases_Bool (eqb n 0)) [ inl none ↦ rw none (omega arith) | inr some ↦ rw some lt ]

section_stands : (file : List ℕ) (at n off : ℕ) → n < 4294967296 → off < 4294967296 → Stands file at (section_bytes n off) → IsSection file at (table_of n off)
unfolding section_bytes
section_stands file at n off few small s =
    let begin = cond (eqb n 0) 0 off in
    let first = stands_front file at (u4_bytes n) (u4_bytes begin) s in
    let second = stands_back file at (u4_bytes n) (u4_bytes begin) s in
    (u4_reads file at n few first, u4_reads file (at + 4) begin (cond_small n off small) second)

pub header_stands : (t : Tables) (cs : List ClassDef) → AreShort t cs → length (file_bytes t cs) < 4294967296 → IsHeader (file_bytes t cs) (header_value t cs)
header_stands t cs short small =
    let file = file_bytes t cs in
    let parts = header_parts t cs in
    let size = (parted t cs).size in
    let file-size = stands_as file 32 (u4_bytes (data_at t cs + length (body t cs))) (u4_bytes (length file)) (ap u4_bytes size) parts.size in
    let strings : length t.strings ≤ 65536 = short.strings in
    let types : length t.types ≤ 65535 = short.types in
    let protos : length t.protos ≤ 65535 = short.protos in
    let fields : length t.fields ≤ 65536 = short.fields in
    let methods : length t.methods ≤ 65536 = short.methods in
    let classes : length cs ≤ 65536 = short.class_defs in
    record {
      magic_is = begins file parts.magic;
      whole = omega (arith, size);
      within = omega arith;
      file_size = u4_reads file 32 (length file) small file-size;
      header_size = u4_reads file 36 112 (omega arith) parts.header_size;
      endian_tag = u4_reads file 40 305419896 (omega arith) parts.tag;
      strings = section_stands file 56 (length t.strings) 112 (omega arith) (omega arith) parts.strings;
      types = section_stands file 64 (length t.types) (types_at t) (omega arith) (omega arith) parts.types;
      protos = section_stands file 72 (length t.protos) (protos_at t) (omega arith) (omega arith) parts.protos;
      fields = section_stands file 80 (length t.fields) (fields_at t) (omega arith) (omega arith) parts.fields;
      methods = section_stands file 88 (length t.methods) (methods_at t) (omega arith) (omega arith) parts.methods;
      classes = section_stands file 96 (length cs) (classes_at t) (omega arith) (omega arith) parts.classes;
    }

-- ---- the tables

few_of : (t : Tables) (cs : List ClassDef) → AreShort t cs → AreFew (sizes_of (header_value t cs))
few_of t cs short = record { strings = short.strings; types = omega (arith, short.types); protos = omega (arith, short.protos) }

strings_table : (t : Tables) (cs : List ClassDef) → length (file_bytes t cs) < 4294967296 → Sound t → sum_by length t.strings ≤ 33554432
    → TableStands (IsName (file_bytes t cs)) 4 (file_bytes t cs) (header_value t cs).strings t.strings
unfolding string_ids strings_data
strings_table t cs small sound names =
    let file = file_bytes t cs in
    let at = data_at t cs in
    let begin = strings_begin at t cs in
    let rows = (tabled t cs file (parted t cs).tables).strings in
    let items = (data_parts t cs).strings in
    let bound : 112 + length t.strings * 4 ≤ length file = omega (arith, stands_within file 112 (string_ids at t cs) rows, strings_length t cs at) in
    let items-small : begin + length (flat_map string_item t.strings) < 4294967296 = omega (arith, stands_within file begin (strings_data t) items) in
    record {
      count = refl;
      within = within_file (length t.strings) 112 4 (length file) bound;
      stand = strings_stand file (header_value t cs).strings.at begin t.strings (at_table file 112 (λ names. flat_map u4_bytes (offsets_of string_item begin names)) t.strings refl rows) items items-small sound.strings names;
    }

types_table : (t : Tables) (cs : List ClassDef) → AreShort t cs → Sound t → TableStands (IsType (file_bytes t cs) (sizes_of (header_value t cs))) 4 (file_bytes t cs) (header_value t cs).types t.types
types_table t cs short sound =
    let file = file_bytes t cs in
    let rows = (tabled t cs file (parted t cs).tables).types in
    let bound : types_at t + length t.types * 4 ≤ length file = omega (arith, stands_within file (types_at t) (flat_map u4_bytes t.types) rows, map_length u4_bytes 4 (λ x. refl) t.types) in
    record {
      count = refl;
      within = within_file (length t.types) (types_at t) 4 (length file) bound;
      stand = types_stand file (sizes_of (header_value t cs)) (header_value t cs).types.at t.types (few_of t cs short) (at_table file (types_at t) (flat_map u4_bytes) t.types refl rows) sound.types;
    }

protos_table : (t : Tables) (cs : List ClassDef) → AreShort t cs → length (file_bytes t cs) < 4294967296 → Sound t → sum_by params_in t.protos ≤ 4000000
    → TableStands (IsProto (file_bytes t cs) (sizes_of (header_value t cs))) 12 (file_bytes t cs) (header_value t cs).protos (map proto_value t.protos)
unfolding proto_ids params_data
protos_table t cs short small sound within =
    let file = file_bytes t cs in
    let at = data_at t cs in
    let rows = (tabled t cs file (parted t cs).tables).protos in
    let lists = (data_parts t cs).params in
    let bound : protos_at t + length t.protos * 12 ≤ length file = omega (arith, stands_within file (protos_at t) (proto_ids at t) rows, protos_length t at) in
    let lists-small : at + length (flat_map params_bytes t.protos) < 4294967296 = omega (arith, stands_within file at (params_data t) lists) in
    record {
      count = length-map t.protos proto_value;
      within = within_file (length t.protos) (protos_at t) 12 (length file) bound;
      stand = protos_stand file (sizes_of (header_value t cs)) (header_value t cs).protos.at at t.protos (few_of t cs short) (omega arith)
          (at_table file (protos_at t) (rows_of proto_row_bytes params_bytes at) t.protos refl rows) lists lists-small sound.protos within;
    }

fields_table : (t : Tables) (cs : List ClassDef) → AreShort t cs → Sound t → TableStands (IsField (file_bytes t cs) (sizes_of (header_value t cs))) 8 (file_bytes t cs) (header_value t cs).fields (map field_value t.fields)
fields_table t cs short sound =
    let file = file_bytes t cs in
    let rows = (tabled t cs file (parted t cs).tables).fields in
    let bound : fields_at t + length t.fields * 8 ≤ length file = omega (arith, stands_within file (fields_at t) (flat_map member_row_bytes t.fields) rows, map_length member_row_bytes 8 member_length t.fields) in
    record {
      count = length-map t.fields field_value;
      within = within_file (length t.fields) (fields_at t) 8 (length file) bound;
      stand = fields_stand file (sizes_of (header_value t cs)) (header_value t cs).fields.at t.fields (few_of t cs short) (at_table file (fields_at t) (flat_map member_row_bytes) t.fields refl rows) sound.fields;
    }

methods_table : (t : Tables) (cs : List ClassDef) → AreShort t cs → Sound t → TableStands (IsMethod (file_bytes t cs) (sizes_of (header_value t cs))) 8 (file_bytes t cs) (header_value t cs).methods (map method_value t.methods)
methods_table t cs short sound =
    let file = file_bytes t cs in
    let rows = (tabled t cs file (parted t cs).tables).methods in
    let bound : methods_at t + length t.methods * 8 ≤ length file = omega (arith, stands_within file (methods_at t) (flat_map member_row_bytes t.methods) rows, map_length member_row_bytes 8 member_length t.methods) in
    record {
      count = length-map t.methods method_value;
      within = within_file (length t.methods) (methods_at t) 8 (length file) bound;
      stand = methods_stand file (sizes_of (header_value t cs)) (header_value t cs).methods.at t.methods (few_of t cs short) (at_table file (methods_at t) (flat_map member_row_bytes) t.methods refl rows) sound.methods;
    }

begin_some : (t : Tables) (at : ℕ) → 0 < at → 0 < class_begin at t
unfolding class_begin
begin_some t at lt = omega arith

-- the classes, whose rows lie within the file
record ClassTable (t : Tables) (cs : List ClassDef) : Type 0 where
  end : ℕ
  within : (length cs ≡ 0) ⊎ ((header_value t cs).classes.at + length cs * 32 ≤ length (file_bytes t cs))
  stand : Follow no_totals plus (IsClassRow (file_bytes t cs) (sizes_of (header_value t cs))) (header_value t cs).classes.at cs (classes_total cs) end

class_table : (t : Tables) (cs : List ClassDef) → AreShort t cs → length (file_bytes t cs) < 4294967296 → AllByRecursion (ClassFits (sizes_of (header_value t cs))) cs → sum_by interfaces_of cs ≤ 4000000 → ClassTable t cs
unfolding class_defs classes_data
class_table t cs short small fit lists =
    let file = file_bytes t cs in
    let at = data_at t cs in
    let begin = class_begin at t in
    let rows = (tabled t cs file (parted t cs).tables).classes in
    let data-of = (data_parts t cs).classes in
    let bound : classes_at t + length cs * 32 ≤ length file = omega (arith, stands_within file (classes_at t) (class_defs at t cs) rows, classes_length t cs at) in
    let data-small : begin + length (pieces class_bytes begin cs) < 4294967296 = omega (arith, stands_within file begin (classes_data at t cs) data-of) in
    let few : SmallSizes (sizes_of (header_value t cs)) = record { types = omega (arith, short.types); fields = short.fields; methods = short.methods } in
    let stand = classes_follow file (sizes_of (header_value t cs)) (header_value t cs).classes.at begin cs few (begin_some t at (omega arith))
    (at_table file (classes_at t) (placed_rows placed_row class_bytes begin) cs refl rows) data-of data-small fit lists in
    record { end = stand.0; within = within_file (length cs) (classes_at t) 32 (length file) bound; stand = stand.1 }

pub tables_stand : (t : Tables) (cs : List ClassDef) → AreShort t cs → length (file_bytes t cs) < 4294967296 → Sound t → sum_by length t.strings ≤ 33554432 → sum_by params_in t.protos + sum_by interfaces_of cs ≤ 4000000
    → AllByRecursion (ClassFits (sizes_of (header_value t cs))) cs → HasTables (file_bytes t cs) (header_value t cs) (sizes_of (header_value t cs)) (dex_value t cs) (classes_total cs)
tables_stand t cs short small sound names lists fit =
    let classes = class_table t cs short small fit (omega arith) in
    record {
      end = classes.end;
      strings = strings_table t cs small sound names;
      types = types_table t cs short sound;
      protos = protos_table t cs short small sound (omega arith);
      fields = fields_table t cs short sound;
      methods = methods_table t cs short sound;
      classes_count = refl;
      classes_within = classes.within;
      classes = classes.stand;
    }
