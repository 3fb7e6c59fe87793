-- The class definitions of a file that is written stand in it, with what they point to.
use Rattle.std.proofs.Common.{◌≡◌, ℕ, ◌+◌, ◌<◌, ◌≤◌, List, [], ◌∷◌, ◌++◌, length, Option, Some, None, refl, length-append, arith}
use Rattle.std.specs.Prelude.{IfSome, sum_by}
use Rattle.std.specs.List.{AllByRecursion}
use Rattle.std.proofs.lemmas.List.Sums.{sum_by-cons}
use Rattle.dex_tables.specs.declared.dex.ClassDef.{ClassDef}
use Rattle.dex_tables.specs.declared.place.Sizes.{Sizes}
use Rattle.dex_tables.specs.Sequences.{Follow}
use Rattle.dex_reader.specs.ClassesStand.{IsSuperclass, IsClass, IsClassRow}
use Rattle.dex_reader.specs.Dex.{interfaces_of}
use Rattle.dex_reader.specs.Sound.{class_members, class_units}
use Rattle.dex_tables.specs.Totals.{no_totals, plus}
use Rattle.dex_writer.specs.Bytes.{u4_bytes, type_list, padding_of}
use Rattle.dex_writer.specs.Placed.{pieces, placed_rows, offset_of}
use Rattle.dex_writer.specs.ClassData.{class_bytes, placed_row, class_row, class_head, index_or_none, data_begin, code_begin, code_and_data, class_code, class_data}
use Rattle.dex_round_trip.proofs.ClassDataReads.{class_stands}
use Rattle.dex_round_trip.proofs.Fits.{DataFits, class_total, classes_total}
use Rattle.dex_round_trip.proofs.IdTables.{type_list_stands}
use Rattle.dex_round_trip.proofs.Standing.{Stands, stands_front, stands_back, stands_as, stands_moved, stands_within, u4_reads}
use Rattle.dex_round_trip.proofs.Texts.{offset_small}

-- a class whose types are below the number of types
pub record ClassRowFits (types : ℕ) (c : ClassDef) : Type 0 where
  pub class_below : c.class < types
  pub flags_fit : c.flags < 4294967296
  pub superclass_below : IfSome c.superclass (λ s. s < types)
  pub interfaces_below : AllByRecursion (λ x. x < types) c.interfaces

-- a class that fits the tables, of so few members and units
pub record ClassFits (sizes : Sizes) (c : ClassDef) : Type 0 where
  pub row : ClassRowFits sizes.types c
  pub lists : DataFits sizes c
  pub members : class_members c ≤ 400000
  pub units : class_units c ≤ 8388608

pub record SmallSizes (sizes : Sizes) : Type 0 where
  pub types : sizes.types ≤ 65536
  pub fields : sizes.fields ≤ 65536
  pub methods : sizes.methods ≤ 65536

superclass_stands : (types : ℕ) (superclass : Option ℕ) → types ≤ 65536 → IfSome superclass (λ s. s < types) → IsSuperclass types (index_or_none superclass) superclass
superclass_stands types None few fit = refl
superclass_stands types (Some s) few fit = (refl, fit, λ e. absurd (omega (arith, fit)))

index_small : (types : ℕ) (superclass : Option ℕ) → types ≤ 65536 → IfSome superclass (λ s. s < types) → index_or_none superclass < 4294967296
index_small types None few fit = omega arith
index_small types (Some s) few fit = omega (arith, fit)

-- one number of four bytes after the other
record Four (file : List ℕ) (at next n : ℕ) (rest : List ℕ) : Type 0 where
  number : Stands file at (u4_bytes n)
  others : Stands file next rest

four : (file : List ℕ) (at next n : ℕ) (rest : List ℕ) → at + 4 ≡ next → Stands file at (u4_bytes n ++ rest) → Four file at next n rest
four file at next n rest e s = record { number = stands_front file at (u4_bytes n) rest s; others = stands_moved file (at + 4) next rest e (stands_back file at (u4_bytes n) rest s) }

-- the numbers of a row that are looked at
record RowStands (file : List ℕ) (at : ℕ) (c : ClassDef) (list place : ℕ) : Type 0 where
  class_is : Stands file at (u4_bytes c.class)
  flags_is : Stands file (at + 4) (u4_bytes c.flags)
  superclass_is : Stands file (at + 8) (u4_bytes (index_or_none c.superclass))
  list_is : Stands file (at + 12) (u4_bytes list)
  place_is : Stands file (at + 24) (u4_bytes place)

row_parts : (c : ClassDef) (list place : ℕ) → class_row c list place ≡ u4_bytes c.class ++ (u4_bytes c.flags ++ (u4_bytes (index_or_none c.superclass) ++ (u4_bytes list ++ (u4_bytes 4294967295 ++ (u4_bytes 0 ++ (u4_bytes place ++ u4_bytes 0))))))
unfolding class_row class_head
row_parts c list place = refl

row_stands : (file : List ℕ) (at : ℕ) (c : ClassDef) (list place : ℕ) → Stands file at (class_row c list place) → RowStands file at c list place
row_stands file at c list place stand =
    let r6 = u4_bytes place ++ u4_bytes 0 in
    let r5 = u4_bytes 0 ++ r6 in
    let r4 = u4_bytes 4294967295 ++ r5 in
    let r3 = u4_bytes list ++ r4 in
    let r2 = u4_bytes (index_or_none c.superclass) ++ r3 in
    let r1 = u4_bytes c.flags ++ r2 in
    let p0 = four file at (at + 4) c.class r1 (omega arith) (stands_as file at (class_row c list place) (u4_bytes c.class ++ r1) (row_parts c list place) stand) in
    let p1 = four file (at + 4) (at + 8) c.flags r2 (omega arith) p0.others in
    let p2 = four file (at + 8) (at + 12) (index_or_none c.superclass) r3 (omega arith) p1.others in
    let p3 = four file (at + 12) (at + 16) list r4 (omega arith) p2.others in
    let p4 = four file (at + 16) (at + 20) 4294967295 r5 (omega arith) p3.others in
    let p5 = four file (at + 20) (at + 24) 0 r6 (omega arith) p4.others in
    let p6 = four file (at + 24) (at + 28) place (u4_bytes 0) (omega arith) p5.others in
    record { class_is = p0.number; flags_is = p1.number; superclass_is = p2.number; list_is = p3.number; place_is = p6.number }

pub placed_length : (at : ℕ) (c : ClassDef) → length (placed_row at c) ≡ 32
unfolding placed_row class_row class_head
placed_length at c = refl

class_within : (at : ℕ) (c : ClassDef) → data_begin at c ≤ at + length (class_bytes at c)
unfolding data_begin code_begin class_bytes code_and_data
class_within at c =
    let code = class_code c in
    let item = class_data (at + length (type_list c.interfaces)) c in
    let end = padding_of (length item) in
    omega (arith, length-append (type_list c.interfaces) (code ++ item ++ end), length-append (code ++ item) end, length-append code item)

-- the interfaces stand before the rest
class_front : (file : List ℕ) (at : ℕ) (c : ClassDef) → Stands file at (class_bytes at c) → Stands file at (type_list c.interfaces)
unfolding class_bytes
class_front file at c s = stands_front file at (type_list c.interfaces) (code_and_data (code_begin at c) c) s

class_is : (file : List ℕ) (sizes : Sizes) (row_at at : ℕ) (c : ClassDef) → SmallSizes sizes → 0 < at → Stands file row_at (placed_row at c) → Stands file at (class_bytes at c)
    → at + length (class_bytes at c) < 4294967296 → ClassFits sizes c → length c.interfaces ≤ 4000000 → IsClass file sizes row_at c (class_total c)
unfolding placed_row
class_is file sizes row_at at c few some row_stand stand small fit short =
    let list = offset_of at (type_list c.interfaces) in
    let place = data_begin at c in
    let row = row_stands file row_at c list place row_stand in
    let here : at < 4294967296 = omega arith in
    let place-small : place < 4294967296 = omega (arith, class_within at c) in
    record {
      index = index_or_none c.superclass;
      list = list;
      class_data = place;
      class_is = u4_reads file row_at c.class (omega (arith, fit.row.class_below, few.types)) row.class_is;
      class_below = fit.row.class_below;
      flags_is = u4_reads file (row_at + 4) c.flags fit.row.flags_fit row.flags_is;
      index_is = u4_reads file (row_at + 8) (index_or_none c.superclass) (index_small sizes.types c.superclass few.types fit.row.superclass_below) row.superclass_is;
      superclass = superclass_stands sizes.types c.superclass few.types fit.row.superclass_below;
      list_is = u4_reads file (row_at + 12) list (offset_small at (type_list c.interfaces) here) row.list_is;
      interfaces = type_list_stands file sizes.types at c.interfaces few.types some (class_front file at c stand) fit.row.interfaces_below short;
      class_data_is = u4_reads file (row_at + 24) place place-small row.place_is;
      whole = omega (arith, stands_within file row_at (placed_row at c) row_stand, placed_length at c);
      members = class_stands file sizes at c few.types few.fields few.methods some stand small fit.lists fit.members fit.units;
    }

pub classes_follow : (file : List ℕ) (sizes : Sizes) (rows_at at : ℕ) (classes : List ClassDef) → SmallSizes sizes → 0 < at → Stands file rows_at (placed_rows placed_row class_bytes at classes)
    → Stands file at (pieces class_bytes at classes) → at + length (pieces class_bytes at classes) < 4294967296 → AllByRecursion (ClassFits sizes) classes → sum_by interfaces_of classes ≤ 4000000
    → (end : ℕ) × Follow no_totals plus (IsClassRow file sizes) rows_at classes (classes_total classes) end
classes_follow file sizes rows_at at [] few some rows_stand stand small fit within = (rows_at, (refl, refl))
classes_follow file sizes rows_at at (c ∷ cs) few some rows_stand stand small fit within =
    let one = class_bytes at c in
    let next = at + length one in
    let row = placed_row at c in
    let later = pieces class_bytes next cs in
    let rows_later = placed_rows placed_row class_bytes next cs in
    let sizes-of : at + length (one ++ later) ≡ next + length later = omega (arith, length-append one later) in
    let split : sum_by interfaces_of (c ∷ cs) ≡ interfaces_of c + sum_by interfaces_of cs = sum_by-cons interfaces_of c cs in
    let here-small : at + length one < 4294967296 = omega (arith, sizes-of) in
    let later-small : next + length later < 4294967296 = omega (arith, sizes-of) in
    let moved : rows_at + length row ≡ rows_at + 32 = omega (arith, placed_length at c) in
    let rest = classes_follow file sizes (rows_at + 32) next cs few (omega arith) (stands_moved file (rows_at + length row) (rows_at + 32) rows_later moved (stands_back file rows_at row rows_later rows_stand))
    (stands_back file at one later stand) later-small fit.1 (omega arith) in
    let first = class_is file sizes rows_at at c few some (stands_front file rows_at row rows_later rows_stand) (stands_front file at one later stand) here-small fit.0 (omega arith) in
    (rest.0, (rows_at + 32, class_total c, classes_total cs, (first, refl), rest.1, refl))
