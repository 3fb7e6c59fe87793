-- The parts of a made file: how long they are, and where each stands.
use Rattle.std.proofs.Common.{◌≡◌, ℕ, suc, ◌+◌, ◌*◌, List, [], ◌∷◌, ◌++◌, length, refl, sym, ap, ◌∙◌, length-append, arith}
use Rattle.std.specs.List.{flat_map}
use Rattle.std.proofs.lemmas.List.{append-nil}
use Rattle.dex_tables.specs.declared.dex.ClassDef.{ClassDef}
use Rattle.dex_writer.specs.declared.tables.Tables.{Tables}
use Rattle.dex_writer.specs.Bytes.{u4_bytes, string_item}
use Rattle.dex_writer.specs.Placed.{offsets_of, rows_of, placed_rows}
use Rattle.dex_writer.specs.ClassData.{class_bytes, placed_row}
use Rattle.dex_writer.specs.File.{params_bytes, proto_row_bytes, member_row_bytes, types_at, protos_at, fields_at, methods_at, classes_at, data_at, params_data, class_begin, classes_data, strings_begin, strings_data}
use Rattle.dex_writer.specs.File.{data_bytes, string_ids, proto_ids, class_defs, tables_bytes, section_bytes, header_begin, header_ids, header_bytes, file_bytes}
use Rattle.dex_round_trip.proofs.ClassRows.{placed_length}
use Rattle.dex_round_trip.proofs.IdTables.{proto_length, member_length}
use Rattle.dex_round_trip.proofs.Standing.{Stands, stands_front, stands_back, stands_as, stands_moved, stands_three}

-- ---- how long the tables are

offsets_length : {X : Type 0} (piece : X → List ℕ) (at : ℕ) (xs : List X) → length (offsets_of piece at xs) ≡ length xs
offsets_length piece at [] = refl
offsets_length piece at (x ∷ xs) = ap (λ (n : ℕ). suc n) (offsets_length piece (at + length (piece x)) xs)

pub map_length : {X : Type 0} (f : X → List ℕ) (width : ℕ) → ((x : X) → length (f x) ≡ width) → (xs : List X) → length (flat_map f xs) ≡ width * length xs
map_length f width each [] = omega arith
map_length f width each (x ∷ xs) =
    let rest = map_length f width each xs in
    let more : width * suc (length xs) ≡ width + width * length xs = omega arith in
    length-append (f x) (flat_map f xs) ∙ rw (each x, rest, more) refl

rows_length : {X : Type 0} (row : ℕ → X → List ℕ) (piece : X → List ℕ) (width : ℕ) → ((at : ℕ) (x : X) → length (row at x) ≡ width) → (at : ℕ) (xs : List X) → length (rows_of row piece at xs) ≡ width * length xs
rows_length row piece width each at [] = omega arith
rows_length row piece width each at (x ∷ xs) =
    let rest = rows_length row piece width each (at + length (piece x)) xs in
    let more : width * suc (length xs) ≡ width + width * length xs = omega arith in
    length-append (row at x) (rows_of row piece (at + length (piece x)) xs) ∙ rw (each at x, rest, more) refl

class_rows_length : (at : ℕ) (cs : List ClassDef) → length (placed_rows placed_row class_bytes at cs) ≡ 32 * length cs
class_rows_length at [] = refl
class_rows_length at (c ∷ cs) =
    let next = at + length (class_bytes at c) in
    omega (arith, length-append (placed_row at c) (placed_rows placed_row class_bytes next cs), placed_length at c, class_rows_length next cs)

-- the tables of a file, and where each stands from byte 112 on
abbrev table_bytes : Tables → List ClassDef → List ℕ
table_bytes t cs = tables_bytes t (string_ids (data_at t cs) t cs) (proto_ids (data_at t cs) t) (class_defs (data_at t cs) t cs)

pub strings_length : (t : Tables) (cs : List ClassDef) (at : ℕ) → length (string_ids at t cs) ≡ 4 * length t.strings
unfolding string_ids
strings_length t cs at =
    let offsets = offsets_of string_item (strings_begin at t cs) t.strings in
    map_length u4_bytes 4 (λ x. refl) offsets ∙ ap (λ (n : ℕ). 4 * n) (offsets_length string_item (strings_begin at t cs) t.strings)

pub protos_length : (t : Tables) (at : ℕ) → length (proto_ids at t) ≡ 12 * length t.protos
unfolding proto_ids
protos_length t at = rows_length proto_row_bytes params_bytes 12 proto_length at t.protos

pub classes_length : (t : Tables) (cs : List ClassDef) (at : ℕ) → length (class_defs at t cs) ≡ 32 * length cs
unfolding class_defs
classes_length t cs at = class_rows_length (class_begin at t) cs

pub record Tabled (t : Tables) (cs : List ClassDef) (file : List ℕ) : Type 0 where
  pub strings : Stands file 112 (string_ids (data_at t cs) t cs)
  pub types : Stands file (types_at t) (flat_map u4_bytes t.types)
  pub protos : Stands file (protos_at t) (proto_ids (data_at t cs) t)
  pub fields : Stands file (fields_at t) (flat_map member_row_bytes t.fields)
  pub methods : Stands file (methods_at t) (flat_map member_row_bytes t.methods)
  pub classes : Stands file (classes_at t) (class_defs (data_at t cs) t cs)
  pub end : 112 + length (table_bytes t cs) ≡ data_at t cs

pub tabled : (t : Tables) (cs : List ClassDef) (file : List ℕ) → Stands file 112 (table_bytes t cs) → Tabled t cs file
unfolding tables_bytes
tabled t cs file stand =
    let s = string_ids (data_at t cs) t cs in
    let ty = flat_map u4_bytes t.types in
    let p = proto_ids (data_at t cs) t in
    let f = flat_map member_row_bytes t.fields in
    let m = flat_map member_row_bytes t.methods in
    let c = class_defs (data_at t cs) t cs in
    let s5 = stands_front file 112 (s ++ ty ++ p ++ f ++ m) c stand in
    let s4 = stands_front file 112 (s ++ ty ++ p ++ f) m s5 in
    let s3 = stands_front file 112 (s ++ ty ++ p) f s4 in
    let s2 = stands_front file 112 (s ++ ty) p s3 in
    let ls = strings_length t cs (data_at t cs) in
    let lt = map_length u4_bytes 4 (λ x. refl) t.types in
    let lp = protos_length t (data_at t cs) in
    let lf = map_length member_row_bytes 8 member_length t.fields in
    let lm = map_length member_row_bytes 8 member_length t.methods in
    let lc = classes_length t cs (data_at t cs) in
    let a2 = length-append s ty in
    let a3 = length-append (s ++ ty) p in
    let a4 = length-append (s ++ ty ++ p) f in
    let a5 = length-append (s ++ ty ++ p ++ f) m in
    let a6 = length-append (s ++ ty ++ p ++ f ++ m) c in
    let types-is : 112 + length s ≡ types_at t = omega (arith, ls) in
    let protos-is : 112 + length (s ++ ty) ≡ protos_at t = omega (arith, ls, lt, a2) in
    let fields-is : 112 + length (s ++ ty ++ p) ≡ fields_at t = omega (arith, ls, lt, lp, a2, a3) in
    let methods-is : 112 + length (s ++ ty ++ p ++ f) ≡ methods_at t = omega (arith, ls, lt, lp, lf, a2, a3, a4) in
    let classes-is : 112 + length (s ++ ty ++ p ++ f ++ m) ≡ classes_at t = omega (arith, ls, lt, lp, lf, lm, a2, a3, a4, a5) in
    record {
      strings = stands_front file 112 s ty s2;
      types = stands_moved file (112 + length s) (types_at t) ty types-is (stands_back file 112 s ty s2);
      protos = stands_moved file (112 + length (s ++ ty)) (protos_at t) p protos-is (stands_back file 112 (s ++ ty) p s3);
      fields = stands_moved file (112 + length (s ++ ty ++ p)) (fields_at t) f fields-is (stands_back file 112 (s ++ ty ++ p) f s4);
      methods = stands_moved file (112 + length (s ++ ty ++ p ++ f)) (methods_at t) m methods-is (stands_back file 112 (s ++ ty ++ p ++ f) m s5);
      classes = stands_moved file (112 + length (s ++ ty ++ p ++ f ++ m)) (classes_at t) c classes-is (stands_back file 112 (s ++ ty ++ p ++ f ++ m) c stand);
      end = omega (arith, classes-is, lc, a6);
    }

-- ---- the parts of a file

abbrev pub body : Tables → List ClassDef → List ℕ
body t cs = data_bytes (data_at t cs) t cs

header_length : (t : Tables) (cs : List ClassDef) (n : ℕ) → length (header_bytes t cs n) ≡ 112
unfolding header_bytes header_begin header_ids section_bytes
header_length t cs n = refl

stands_all : (file : List ℕ) → Stands file 0 file
stands_all file = record { before = []; after = []; parts = sym (append-nil file); place = refl }

pub record Parted (t : Tables) (cs : List ClassDef) : Type 0 where
  pub header : Stands (file_bytes t cs) 0 (header_bytes t cs (length (body t cs)))
  pub tables : Stands (file_bytes t cs) 112 (table_bytes t cs)
  pub data1 : Stands (file_bytes t cs) (data_at t cs) (body t cs)
  pub size : data_at t cs + length (body t cs) ≡ length (file_bytes t cs)

file_parts : (t : Tables) (cs : List ClassDef) → file_bytes t cs ≡ header_bytes t cs (length (body t cs)) ++ table_bytes t cs ++ body t cs
unfolding file_bytes
file_parts t cs = refl

pub parted : (t : Tables) (cs : List ClassDef) → Parted t cs
parted t cs =
    let h = header_bytes t cs (length (body t cs)) in
    let file = file_bytes t cs in
    let three = stands_three file 0 h (table_bytes t cs) (body t cs) (stands_as file 0 file _ (file_parts t cs) (stands_all file)) in
    let lh = header_length t cs (length (body t cs)) in
    let tables-is : 0 + length h ≡ 112 = omega (arith, lh) in
    let tables = stands_moved file (0 + length h) 112 (table_bytes t cs) tables-is three.second in
    let end = (tabled t cs file tables).end in
    let data-is : 0 + length h + length (table_bytes t cs) ≡ data_at t cs = omega (arith, lh, end) in
    record {
      header = three.first;
      tables = tables;
      data1 = stands_moved file (0 + length h + length (table_bytes t cs)) (data_at t cs) (body t cs) data-is three.third;
      size = omega (arith, data-is, ap length (file_parts t cs), length-append (h ++ table_bytes t cs) (body t cs), length-append h (table_bytes t cs));
    }

pub record Data (t : Tables) (cs : List ClassDef) : Type 0 where
  pub params : Stands (file_bytes t cs) (data_at t cs) (params_data t)
  pub classes : Stands (file_bytes t cs) (class_begin (data_at t cs) t) (classes_data (data_at t cs) t cs)
  pub strings : Stands (file_bytes t cs) (strings_begin (data_at t cs) t cs) (strings_data t)

pub data_parts : (t : Tables) (cs : List ClassDef) → Data t cs
unfolding data_bytes class_begin strings_begin
data_parts t cs =
    let at = data_at t cs in
    let three = stands_three (file_bytes t cs) at (params_data t) (classes_data at t cs) (strings_data t) (parted t cs).data1 in
    record { params = three.first; classes = three.second; strings = three.third }

pub file_length : (t : Tables) (cs : List ClassDef) → length (file_bytes t cs) ≡ data_at t cs + length (data_bytes (data_at t cs) t cs)
file_length t cs = sym (parted t cs).size
