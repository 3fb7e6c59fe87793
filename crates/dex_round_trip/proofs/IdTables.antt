-- The id tables of a file that is written stand in it.
use Rattle.std.proofs.Common.{◌≡◌, ℕ, suc, ◌+◌, ◌*◌, ◌%◌, ◌<◌, ◌≤◌, false, eqb, List, [], ◌∷◌, ◌++◌, length, drop, map, refl, ◌∙◌, append_assoc, length-append, arith}
use Rattle.std.specs.Prelude.{slice_index, sum_by}
use Rattle.std.specs.List.{AllByRecursion, flat_map}
use Rattle.std.proofs.lemmas.List.Sums.{sum_by-cons}
use Rattle.dex_tables.specs.declared.place.Sizes.{Sizes}
use Rattle.dex_tables.specs.Sequences.{Is2, RowsStand}
use Rattle.dex_tables.specs.TablesStand.{IsName, IsType, MaybeTypeList, IsProto, IsField, IsMethod}
use Rattle.dex_writer.specs.Bytes.{u2_bytes, u4_bytes, uleb_bytes, text_len, string_item, type_list, padding_of}
use Rattle.dex_writer.specs.Placed.{offsets_of, rows_of, offset_of}
use Rattle.dex_writer.specs.File.{params_bytes, proto_row_bytes, member_row_bytes}
use Rattle.dex_round_trip.specs.Listings.{AreNames}
use Rattle.dex_round_trip.specs.Values.{field_value, method_value, proto_value}
use Rattle.dex_round_trip.proofs.Standing.{Stands, stands_front, stands_back, stands_as, stands_moved, stands_three, u2_reads, u4_reads, uleb_reads, dropped}
use Rattle.dex_round_trip.proofs.TableGrowth.{RowFits, ProtoStands}
use Rattle.dex_round_trip.proofs.Texts.{no_zero, text_len_small, eqb_above, offset_small, offset_some, at_some}

-- at most so many rows of the tables that others index
pub record AreFew (sizes : Sizes) : Type 0 where
  pub strings : sizes.strings ≤ 65536
  pub types : sizes.types ≤ 65536
  pub protos : sizes.protos ≤ 65536

-- how many parameters a proto has
abbrev pub params_in : List ℕ → ℕ
params_in row = length (drop 2 row)

name_stands : (file : List ℕ) (row_at at : ℕ) (name : List ℕ) → Stands file row_at (u4_bytes at) → Stands file at (string_item name) → at < 4294967296 → AllByRecursion (λ b. 0 < b) name → length name ≤ 33554432
    → IsName file row_at name
name_stands file row_at at name row item small bytes short =
    let count = uleb_bytes (text_len name) in
    let parts = stands_as file at (string_item name) (count ++ (name ++ 0 ∷ [])) (append_assoc count name (0 ∷ [])) item in
    let text = stands_back file at count (name ++ 0 ∷ []) parts in
    record {
      offset = at;
      units = text_len name;
      begin = at + length count;
      id = u4_reads file row_at at small row;
      length_of = uleb_reads file at (text_len name) (omega (arith, text_len_small name)) (stands_front file at count (name ++ 0 ∷ []) parts);
      text = record {
        behind = text.after;
        bytes = dropped file (at + length count) (name ++ 0 ∷ []) text ∙ append_assoc name (0 ∷ []) text.after;
        whole = no_zero name bytes;
      };
    }

pub strings_stand : (file : List ℕ) (rows_at at : ℕ) (names : List (List ℕ)) → Stands file rows_at (flat_map u4_bytes (offsets_of string_item at names)) → Stands file at (flat_map string_item names)
    → at + length (flat_map string_item names) < 4294967296 → AreNames names → sum_by length names ≤ 33554432 → RowsStand (IsName file) 4 rows_at names
strings_stand file rows_at at [] rows_stand items_stand small are within = tt
strings_stand file rows_at at (n ∷ ns) rows_stand items_stand small are within =
    let item = string_item n in
    let next = at + length item in
    let later = flat_map string_item ns in
    let rows_later = flat_map u4_bytes (offsets_of string_item next ns) in
    let sizes : at + length (item ++ later) ≡ next + length later = omega (arith, length-append item later) in
    let split : sum_by length (n ∷ ns) ≡ length n + sum_by length ns = sum_by-cons length n ns in
    let here : at < 4294967296 = omega (arith, sizes) in
    let later-small : next + length later < 4294967296 = omega (arith, sizes) in (
      name_stands file rows_at at n (stands_front file rows_at (u4_bytes at) rows_later rows_stand) (stands_front file at item later items_stand) here are.0 (omega arith),
      strings_stand file (rows_at + 4) next ns (stands_back file rows_at (u4_bytes at) rows_later rows_stand) (stands_back file at item later items_stand) later-small are.1 (omega arith),
    )

pub types_stand : (file : List ℕ) (sizes : Sizes) (at : ℕ) (types : List ℕ) → AreFew sizes → Stands file at (flat_map u4_bytes types) → AllByRecursion (λ x. x < sizes.strings) types
    → RowsStand (IsType file sizes) 4 at types
types_stand file sizes at [] few stand all = tt
types_stand file sizes at (x ∷ xs) few stand all =
    let word : x < 4294967296 = omega (arith, all.0, few.strings) in (
      (u4_reads file at x word (stands_front file at (u4_bytes x) (flat_map u4_bytes xs) stand), all.0),
      types_stand file sizes (at + 4) xs few (stands_back file at (u4_bytes x) (flat_map u4_bytes xs) stand) all.1,
    )

-- the three numbers of a member's row
record Three (file : List ℕ) (at : ℕ) (row : List ℕ) : Type 0 where
  first : Stands file at (u2_bytes (slice_index row 0))
  second : Stands file (at + 2) (u2_bytes (slice_index row 1))
  third : Stands file (at + 4) (u4_bytes (slice_index row 2))

three_of : (file : List ℕ) (at : ℕ) (row : List ℕ) → Stands file at (member_row_bytes row) → Three file at row
unfolding member_row_bytes
three_of file at row stand =
    let third = u4_bytes (slice_index row 2) in
    let parts = stands_three file at (u2_bytes (slice_index row 0)) (u2_bytes (slice_index row 1)) third stand in
    record { first = parts.first; second = parts.second; third = stands_moved file (at + 2 + 2) (at + 4) third (omega arith) parts.third }

pub member_length : (row : List ℕ) → length (member_row_bytes row) ≡ 8
unfolding member_row_bytes
member_length row = refl

-- the rows behind the first
others_of : (file : List ℕ) (at : ℕ) (row : List ℕ) (rows : List (List ℕ)) → Stands file at (flat_map member_row_bytes (row ∷ rows)) → Stands file (at + 8) (flat_map member_row_bytes rows)
others_of file at row rows stand =
    let later = flat_map member_row_bytes rows in
    let moved : at + length (member_row_bytes row) ≡ at + 8 = omega (arith, member_length row) in
    stands_moved file (at + length (member_row_bytes row)) (at + 8) later moved (stands_back file at (member_row_bytes row) later stand)

pub fields_stand : (file : List ℕ) (sizes : Sizes) (at : ℕ) (rows : List (List ℕ)) → AreFew sizes → Stands file at (flat_map member_row_bytes rows)
    → AllByRecursion (RowFits sizes.types sizes.types sizes.strings) rows → RowsStand (IsField file sizes) 8 at (map field_value rows)
fields_stand file sizes at [] few stand all = tt
fields_stand file sizes at (row ∷ rows) few stand all =
    let parts = three_of file at row (stands_front file at (member_row_bytes row) (flat_map member_row_bytes rows) stand) in (
      record {
        class_is = u2_reads file at (slice_index row 0) (omega (arith, all.0.first, few.types)) parts.first;
        class_below = all.0.first;
        kind_is = u2_reads file (at + 2) (slice_index row 1) (omega (arith, all.0.second, few.types)) parts.second;
        kind_below = all.0.second;
        name_is = u4_reads file (at + 4) (slice_index row 2) (omega (arith, all.0.third, few.strings)) parts.third;
        name_below = all.0.third;
      },
      fields_stand file sizes (at + 8) rows few (others_of file at row rows stand) all.1,
    )

pub methods_stand : (file : List ℕ) (sizes : Sizes) (at : ℕ) (rows : List (List ℕ)) → AreFew sizes → Stands file at (flat_map member_row_bytes rows)
    → AllByRecursion (RowFits sizes.types sizes.protos sizes.strings) rows → RowsStand (IsMethod file sizes) 8 at (map method_value rows)
methods_stand file sizes at [] few stand all = tt
methods_stand file sizes at (row ∷ rows) few stand all =
    let parts = three_of file at row (stands_front file at (member_row_bytes row) (flat_map member_row_bytes rows) stand) in (
      record {
        class_is = u2_reads file at (slice_index row 0) (omega (arith, all.0.first, few.types)) parts.first;
        class_below = all.0.first;
        proto_is = u2_reads file (at + 2) (slice_index row 1) (omega (arith, all.0.second, few.protos)) parts.second;
        proto_below = all.0.second;
        name_is = u4_reads file (at + 4) (slice_index row 2) (omega (arith, all.0.third, few.strings)) parts.third;
        name_below = all.0.third;
      },
      methods_stand file sizes (at + 8) rows few (others_of file at row rows stand) all.1,
    )

-- Lists of types.
entries_stand : (file : List ℕ) (types at : ℕ) (xs : List ℕ) → types ≤ 65536 → Stands file at (flat_map u2_bytes xs) → AllByRecursion (λ x. x < types) xs
    → RowsStand (λ at kind. Is2 file at kind × (kind < types)) 2 at xs
entries_stand file types at [] few stand all = tt
entries_stand file types at (x ∷ xs) few stand all =
    let word : x < 65536 = omega (arith, all.0) in (
      (u2_reads file at x word (stands_front file at (u2_bytes x) (flat_map u2_bytes xs) stand), all.0),
      entries_stand file types (at + 2) xs few (stands_back file at (u2_bytes x) (flat_map u2_bytes xs) stand) all.1,
    )

type_list_some : (x : ℕ) (xs : List ℕ) → type_list (x ∷ xs) ≡ u4_bytes (suc (length xs)) ++ flat_map u2_bytes (x ∷ xs) ++ padding_of (2 * (suc (length xs) % 2))
unfolding type_list
type_list_some x xs = let some : eqb (suc (length xs)) 0 ≡ false = eqb_above (suc (length xs)) (omega arith) in rw some refl

type_list_none : type_list [] ≡ []
unfolding type_list
type_list_none = refl

type_list_there : (x : ℕ) (xs : List ℕ) → 0 < length (type_list (x ∷ xs))
type_list_there x xs = rw (type_list_some x xs) (omega arith)

pub type_list_stands : (file : List ℕ) (types at : ℕ) (xs : List ℕ) → types ≤ 65536 → 0 < at → Stands file at (type_list xs) → AllByRecursion (λ x. x < types) xs → length xs ≤ 4000000
    → MaybeTypeList file types (offset_of at (type_list xs)) xs
type_list_stands file types at [] few some stand all short = rw type_list_none refl
type_list_stands file types at (x ∷ xs) few some stand all short =
    let n = suc (length xs) in
    let parts = stands_three file at (u4_bytes n) (flat_map u2_bytes (x ∷ xs)) (padding_of (2 * (n % 2))) (stands_as file at (type_list (x ∷ xs)) _ (type_list_some x xs) stand) in
    let word : n < 4294967296 = omega arith in
    rw (offset_some at (type_list (x ∷ xs)) (type_list_there x xs))
    (at_some at _ _ some (record { size = u4_reads file at n word parts.first; stand = entries_stand file types (at + 4) (x ∷ xs) few parts.second all }))

pub proto_length : (at : ℕ) (row : List ℕ) → length (proto_row_bytes at row) ≡ 12
unfolding proto_row_bytes
proto_length at row = refl

proto_stands : (file : List ℕ) (sizes : Sizes) (row_at at : ℕ) (row : List ℕ) → AreFew sizes → 0 < at → at < 4294967296 → Stands file row_at (proto_row_bytes at row) → Stands file at (params_bytes row)
    → ProtoStands sizes.strings sizes.types row → params_in row ≤ 4000000 → IsProto file sizes row_at (proto_value row)
unfolding proto_row_bytes
proto_stands file sizes row_at at row few some small row_stands list_stands fit short =
    let a = slice_index row 0 in
    let b = slice_index row 1 in
    let list = offset_of at (params_bytes row) in
    let parts = stands_three file row_at (u4_bytes a) (u4_bytes b) (u4_bytes list) row_stands in
    record {
      shorty = a;
      list = list;
      shorty_is = u4_reads file row_at a (omega (arith, fit.shorty, few.strings)) parts.first;
      shorty_below = fit.shorty;
      ret_is = u4_reads file (row_at + 4) b (omega (arith, fit.ret, few.types)) parts.second;
      ret_below = fit.ret;
      list_is = u4_reads file (row_at + 8) list (offset_small at (params_bytes row) small) (stands_moved file (row_at + 4 + 4) (row_at + 8) (u4_bytes list) (omega arith) parts.third);
      params = type_list_stands file sizes.types at (drop 2 row) few.types some list_stands fit.params short;
    }

-- the protos, whose lists stand one behind the other from an offset on
pub protos_stand : (file : List ℕ) (sizes : Sizes) (rows_at at : ℕ) (protos : List (List ℕ)) → AreFew sizes → 0 < at → Stands file rows_at (rows_of proto_row_bytes params_bytes at protos)
    → Stands file at (flat_map params_bytes protos) → at + length (flat_map params_bytes protos) < 4294967296 → AllByRecursion (ProtoStands sizes.strings sizes.types) protos → sum_by params_in protos ≤ 4000000
    → RowsStand (IsProto file sizes) 12 rows_at (map proto_value protos)
protos_stand file sizes rows_at at [] few some rows_stand lists_stand small fit within = tt
protos_stand file sizes rows_at at (p ∷ ps) few some rows_stand lists_stand small fit within =
    let list = params_bytes p in
    let next = at + length list in
    let row = proto_row_bytes at p in
    let later = flat_map params_bytes ps in
    let rows_later = rows_of proto_row_bytes params_bytes next ps in
    let sizes-of : at + length (list ++ later) ≡ next + length later = omega (arith, length-append list later) in
    let split : sum_by params_in (p ∷ ps) ≡ params_in p + sum_by params_in ps = sum_by-cons params_in p ps in
    let here : at < 4294967296 = omega (arith, sizes-of) in
    let later-small : next + length later < 4294967296 = omega (arith, sizes-of) in
    let moved : rows_at + length row ≡ rows_at + 12 = omega (arith, proto_length at p) in (
      proto_stands file sizes rows_at at p few some here (stands_front file rows_at row rows_later rows_stand) (stands_front file at list later lists_stand) fit.0 (omega arith),
      protos_stand file sizes (rows_at + 12) next ps few (omega arith) (stands_moved file (rows_at + length row) (rows_at + 12) rows_later moved (stands_back file rows_at row rows_later rows_stand))
          (stands_back file at list later lists_stand) later-small fit.1 (omega arith),
    )
