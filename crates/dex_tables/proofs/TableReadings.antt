-- The rows of the id tables that are read stand in their tables, and rows that stand there are read.
use Rattle.std.proofs.Common.{◌≡◌, ◌≢◌, ℕ, zero, suc, ◌+◌, ◌<◌, ◌≤◌, true, false, List, [], ◌∷◌, ◌++◌, length, drop, take, get_or, Some, Ok, refl, sym, ap, subst, ◌∙◌, arith, length-append}
use Rattle.std.proofs.lemmas.Bool.{ltb-true, lt-ltb, leb-true, le-leb, eqb-true, ne_eqb}
use Rattle.std.proofs.lemmas.Bool.Decides.{nat_tests}
use Rattle.std.proofs.lemmas.List.{length-take, get_or_append_left, get_or_at, get_or-take, get_or_default}
use Rattle.std.proofs.Math.Seq.{take-append_seam}
use Rattle.std.proofs.lemmas.List.Quantifiers.{position-Some}
use Rattle.std.proofs.lemmas.List.Sums.{position_or_len_is}
use Rattle.std.specs.Prelude.{nat_lt, nat_eq, sum_by, position, ◌==◌, All}
use Rattle.std.specs.List.{position_or_len}
use Rattle.vet_base.specs.Numbers.{u2, u4, uleb}
use Rattle.vet_base.specs.Script.{run, rows, repeat}
use Rattle.dex_tables.specs.declared.fault.Table.TheVariants as tables
use Rattle.dex_tables.specs.declared.dex.ProtoId.{ProtoId}
use Rattle.dex_tables.specs.declared.dex.FieldId.{FieldId}
use Rattle.dex_tables.specs.declared.dex.MethodRow.{MethodRow}
use Rattle.dex_tables.specs.declared.header.Section.{Section}
use Rattle.dex_tables.specs.declared.place.Place.{Place}
use Rattle.dex_tables.specs.declared.place.Sizes.{Sizes}
use Rattle.dex_tables.specs.Parts.{text_at}
use Rattle.dex_tables.specs.TypeLists.{place, type_list_at}
use Rattle.dex_tables.specs.Tables.{string_row, strings_at, type_row, types_at, proto_row, protos_at, field_row, fields_at, method_row, methods_at}
use Rattle.dex_tables.specs.Sequences.{RowsStand}
use Rattle.dex_tables.specs.TablesStand.{IsText, IsName, IsType, IsProto, IsField, IsMethod}
use Rattle.dex_tables.proofs.Readings.{there_ok, rows_stand, rows_again, follow_read, follow_again, repeat_read, repeat_again, OneRead}
use Rattle.dex_tables.proofs.Numbers.{u4_is, u4_behind, u2_is, u2_behind}
use Rattle.dex_tables.proofs.RunningTotals.{number_adds, rows_from_follow, follow_from_rows}
use Rattle.dex_tables.proofs.TypeListReadings.{maybe_list_is, maybe_list_again}
use Rattle.vet_base.proofs.Runs.{bind_ok, test_ok, bind_runs, value_is}

type_row_is : (file : List ℕ) (sizes : Sizes) (table i at x next : ℕ) → run (type_row file sizes table i at) ≡ Ok (x, next) → IsType file sizes at x × (next ≡ at + 4)
unfolding type_row
type_row_is file sizes table i at x next e =
    let a = there_ok (u4 file at) _ _ _ _ e in
    let b = test_ok _ _ _ _ a.2 in
    let here = u4_is file at a.0 a.1 in
    subst (λ (p : ℕ × ℕ). IsType file sizes at p.0 × (p.1 ≡ at + 4)) (value_is _ _ b.1) ((here.0, ltb-true _ _ b.0), here.1)

type_row_again : (file : List ℕ) (sizes : Sizes) (table i at x : ℕ) → IsType file sizes at x → run (type_row file sizes table i at) ≡ Ok (x, at + 4)
unfolding type_row
type_row_again file sizes table i at x is =
    let u : u4 file at ≡ Some (x, at + 4) = is.0 in
    rw (u, lt-ltb x sizes.strings is.1) refl

split_at : (bytes : List ℕ) (n : ℕ) → n < length bytes → get_or bytes n 0 ≡ 0 → bytes ≡ take n bytes ++ 0 ∷ drop (suc n) bytes
split_at [] n lt e = absurd (omega arith)
split_at (x ∷ bytes) zero lt e = ap (λ (y : ℕ). y ∷ bytes) e
split_at (x ∷ bytes) (suc n) lt e = ap (λ (ys : List ℕ). x ∷ ys) (split_at bytes n (omega arith) e)

not_zero : (bytes : List ℕ) (n : ℕ) → n < length bytes → ((k : ℕ) → k < n → nat_eq (get_or bytes k 0) 0 ≡ false) → All (λ b. b ≢ 0) (take n bytes)
not_zero bytes n lt before k d below same =
    let len : length (take n bytes) ≤ n = omega (arith, length-take n bytes) in
    let under : k < n = omega arith in
    let here : get_or (take n bytes) k d ≡ get_or bytes k 0 = get_or-take n bytes k d under ∙ get_or_default bytes k d 0 (omega arith) in
    let test : nat_eq (get_or bytes k 0) 0 ≡ false = before k under in
    let zero-is : get_or bytes k 0 ≡ 0 = sym here ∙ same in
    grind (arith, nat_tests)

position_at : (text behind : List ℕ) → All (λ b. b ≢ 0) text → position (λ b. b == 0) (text ++ 0 ∷ behind) ≡ Some (length text)
position_at text behind whole =
    let len : length (text ++ 0 ∷ behind) ≡ length text + suc (length behind) = length-append text (0 ∷ behind) in
    let at : position_or_len (λ b. b == 0) (text ++ 0 ∷ behind) ≡ length text = position_or_len_is (λ (b : ℕ). b == 0) (text ++ 0 ∷ behind) (length text) 0 (omega arith)
    (λ k under. let here : get_or (text ++ 0 ∷ behind) k 0 ≡ get_or text k 0 = get_or_append_left text (0 ∷ behind) 0 k under in
    let other : get_or text k 0 ≡ 0 → ⊥ = whole k 0 under in rw here (ne_eqb (get_or text k 0) 0 other))
    (λ lt. rw (get_or_at text 0 behind 0 (length text) refl) refl) in
    let below : nat_lt (length text) (length (text ++ 0 ∷ behind)) ≡ true = lt-ltb _ _ (omega arith) in
    rw (at, below) refl

-- the text at an offset
text_is : (file : List ℕ) (at : ℕ) (text : List ℕ) → run (text_at file at) ≡ Ok text → IsText file at text
unfolding text_at
text_is file at text e =
    let a = there_ok (position (λ b. b == 0) (drop at file)) _ _ _ _ e in
    let found = position-Some (λ b. b == 0) (drop at file) a.0 0 a.1 in
    subst (λ (name : List ℕ). IsText file at name) (value_is _ _ a.2)
    (record { behind = drop (suc a.0) (drop at file); bytes = split_at (drop at file) a.0 found.0 (eqb-true _ _ found.1); whole = not_zero (drop at file) a.0 found.0 found.2 })

text_again : (file : List ℕ) (at : ℕ) (text : List ℕ) → IsText file at text → run (text_at file at) ≡ Ok text
unfolding text_at
text_again file at text is =
    let bytes : drop at file ≡ text ++ 0 ∷ is.behind = is.bytes in
    let len : position (λ b. b == 0) (text ++ 0 ∷ is.behind) ≡ Some (length text) = position_at text is.behind is.whole in
    rw (bytes, len) (ap (λ (name : List ℕ). Ok name) (take-append_seam text (0 ∷ is.behind)))

Named : List ℕ → ℕ → List ℕ → ℕ → ℕ → Type 0
Named file at name adds to = IsName file at name × (adds ≡ length name) × (to ≡ at + 4)

string_row_is : (file : List ℕ) (table at t : ℕ) (x : List ℕ) (s : Place) → t ≤ 33554432 → run (string_row file table (place at t)) ≡ Ok (x, s)
    → OneRead (λ a b. a + b) (λ a. a ≤ 33554432) (Named file) place at t x s
unfolding string_row Named
string_row_is file table at t x s fit e =
    let a = there_ok (u4 file at) _ _ _ _ e in
    let b = there_ok (uleb file a.0.0) _ _ _ _ a.2 in
    let c = bind_ok (text_at file b.0.1) _ _ b.2 in
    let d = test_ok _ _ _ _ c.2 in
    let here = u4_is file at a.0 a.1 in
    subst (λ (p : List ℕ × Place). OneRead (λ a b. a + b) (λ a. a ≤ 33554432) (Named file) place at t p.0 p.1) (value_is _ _ d.1)
    (record {
      to = a.0.1;
      adds = length c.0;
      stands = (record { offset = a.0.0; units = b.0.0; begin = b.0.1; id = here.0; length_of = b.1; text = text_is file b.0.1 c.0 c.1 }, refl, here.1);
      is = refl;
      fits = leb-true _ _ d.0;
    })

string_row_again : (file : List ℕ) (table at t : ℕ) (x : List ℕ) (adds to : ℕ) → Named file at x adds to → t + adds ≤ 33554432 → run (string_row file table (place at t)) ≡ Ok (x, place to (t + adds))
unfolding string_row Named
string_row_again file table at t x adds to is fit =
    let id : u4 file at ≡ Some (is.0.offset, at + 4) = is.0.id in
    let len : uleb file is.0.offset ≡ Some (is.0.units, is.0.begin) = is.0.length_of in
    let same : adds ≡ length x = is.1 in
    let end : to ≡ at + 4 = is.2 in
    let below : t + length x ≤ 33554432 = omega arith in
    rw (id, len, same, end) (bind_runs (text_at file is.0.begin) x _ _ (text_again file is.0.begin x is.0.text) (rw (le-leb (t + length x) 33554432 below) refl))

Prototyped : List ℕ → Sizes → ℕ → ProtoId → ℕ → ℕ → Type 0
Prototyped file sizes at proto adds to = IsProto file sizes at proto × (adds ≡ length proto.params) × (to ≡ at + 12)

proto_row_is : (file : List ℕ) (sizes : Sizes) (table i at t : ℕ) (x : ProtoId) (s : Place) → t ≤ 4000000 → run (proto_row file sizes table i (place at t)) ≡ Ok (x, s)
    → OneRead (λ a b. a + b) (λ a. a ≤ 4000000) (Prototyped file sizes) place at t x s
unfolding proto_row Prototyped
proto_row_is file sizes table i at t x s fit e =
    let a = there_ok (u4 file at) _ _ _ _ e in
    let b = test_ok _ _ _ _ a.2 in
    let c = there_ok (u4 file a.0.1) _ _ _ _ b.1 in
    let d = test_ok _ _ _ _ c.2 in
    let f = there_ok (u4 file c.0.1) _ _ _ _ d.1 in
    let g = bind_ok (type_list_at file sizes.types tables.ProtoIds i f.0.0 t) _ _ f.2 in
    let shorty = u4_is file at a.0 a.1 in
    let ret = u4_behind file (at + 4) a.0.1 c.0 c.1 shorty.1 in
    let list = u4_behind file (at + 8) c.0.1 f.0 f.1 (let k : c.0.1 ≡ at + 4 + 4 = ret.1 in omega arith) in
    let end : f.0.1 ≡ at + 8 + 4 = list.1 in
    let params = maybe_list_is file sizes.types tables.ProtoIds i f.0.0 t g.0.0 g.0.1 fit g.1 in
    let total : g.0.1 ≡ t + length g.0.0 = params.1 in
    let fits : g.0.1 ≤ 4000000 = params.2 in
    subst (λ (p : ProtoId × Place). OneRead (λ a b. a + b) (λ a. a ≤ 4000000) (Prototyped file sizes) place at t p.0 p.1) (value_is _ _ g.2)
    (record {
      to = f.0.1;
      adds = length g.0.0;
      stands = (record { shorty = a.0.0; list = f.0.0; shorty_is = shorty.0; shorty_below = ltb-true _ _ b.0; ret_is = ret.0; ret_below = ltb-true _ _ d.0; list_is = list.0; params = params.0 }, refl, omega arith);
      is = ap (λ (u : ℕ). place f.0.1 u) total;
      fits = omega arith;
    })

proto_row_again : (file : List ℕ) (sizes : Sizes) (table i at t : ℕ) (x : ProtoId) (adds to : ℕ) → Prototyped file sizes at x adds to → t + adds ≤ 4000000
    → run (proto_row file sizes table i (place at t)) ≡ Ok (x, place to (t + adds))
unfolding proto_row Prototyped
proto_row_again file sizes table i at t x adds to is fit =
    let shorty : u4 file at ≡ Some (is.0.shorty, at + 4) = is.0.shorty_is in
    let ret : u4 file (at + 4) ≡ Some (x.ret, at + 8) = is.0.ret_is ∙ ap (λ (o : ℕ). Some (x.ret, o)) (omega arith) in
    let list : u4 file (at + 8) ≡ Some (is.0.list, at + 12) = is.0.list_is ∙ ap (λ (o : ℕ). Some (is.0.list, o)) (omega arith) in
    let same : adds ≡ length x.params = is.1 in
    let end : to ≡ at + 12 = is.2 in
    let params = maybe_list_again file sizes.types tables.ProtoIds i is.0.list t x.params is.0.params (omega arith) in
    rw (shorty, lt-ltb is.0.shorty sizes.strings is.0.shorty_below, ret, lt-ltb x.ret sizes.types is.0.ret_below, list, same, end)
    (bind_runs (type_list_at file sizes.types tables.ProtoIds i is.0.list t) (x.params, t + length x.params) _ _ params refl)

field_row_is : (file : List ℕ) (sizes : Sizes) (table i at : ℕ) (x : FieldId) (next : ℕ) → run (field_row file sizes table i at) ≡ Ok (x, next) → IsField file sizes at x × (next ≡ at + 8)
unfolding field_row
field_row_is file sizes table i at x next e =
    let a = there_ok (u2 file at) _ _ _ _ e in
    let b = test_ok _ _ _ _ a.2 in
    let c = there_ok (u2 file a.0.1) _ _ _ _ b.1 in
    let d = test_ok _ _ _ _ c.2 in
    let f = there_ok (u4 file c.0.1) _ _ _ _ d.1 in
    let g = test_ok _ _ _ _ f.2 in
    let class = u2_is file at a.0 a.1 in
    let kind = u2_behind file (at + 2) a.0.1 c.0 c.1 class.1 in
    let name = u4_behind file (at + 4) c.0.1 f.0 f.1 (let k : c.0.1 ≡ at + 2 + 2 = kind.1 in omega arith) in
    let end : f.0.1 ≡ at + 4 + 4 = name.1 in
    subst (λ (p : FieldId × ℕ). IsField file sizes at p.0 × (p.1 ≡ at + 8)) (value_is _ _ g.1)
    (record { class_is = class.0; class_below = ltb-true _ _ b.0; kind_is = kind.0; kind_below = ltb-true _ _ d.0; name_is = name.0; name_below = ltb-true _ _ g.0 }, omega arith)

field_row_again : (file : List ℕ) (sizes : Sizes) (table i at : ℕ) (x : FieldId) → IsField file sizes at x → run (field_row file sizes table i at) ≡ Ok (x, at + 8)
unfolding field_row
field_row_again file sizes table i at x is =
    let class : u2 file at ≡ Some (x.class, at + 2) = is.class_is in
    let kind : u2 file (at + 2) ≡ Some (x.kind, at + 4) = is.kind_is ∙ ap (λ (o : ℕ). Some (x.kind, o)) (omega arith) in
    let name : u4 file (at + 4) ≡ Some (x.name, at + 8) = is.name_is ∙ ap (λ (o : ℕ). Some (x.name, o)) (omega arith) in
    rw (class, lt-ltb x.class sizes.types is.class_below, kind, lt-ltb x.kind sizes.types is.kind_below, name, lt-ltb x.name sizes.strings is.name_below) refl

method_row_is : (file : List ℕ) (sizes : Sizes) (table i at : ℕ) (x : MethodRow) (next : ℕ) → run (method_row file sizes table i at) ≡ Ok (x, next) → IsMethod file sizes at x × (next ≡ at + 8)
unfolding method_row
method_row_is file sizes table i at x next e =
    let a = there_ok (u2 file at) _ _ _ _ e in
    let b = test_ok _ _ _ _ a.2 in
    let c = there_ok (u2 file a.0.1) _ _ _ _ b.1 in
    let d = test_ok _ _ _ _ c.2 in
    let f = there_ok (u4 file c.0.1) _ _ _ _ d.1 in
    let g = test_ok _ _ _ _ f.2 in
    let class = u2_is file at a.0 a.1 in
    let proto = u2_behind file (at + 2) a.0.1 c.0 c.1 class.1 in
    let name = u4_behind file (at + 4) c.0.1 f.0 f.1 (let k : c.0.1 ≡ at + 2 + 2 = proto.1 in omega arith) in
    let end : f.0.1 ≡ at + 4 + 4 = name.1 in
    subst (λ (p : MethodRow × ℕ). IsMethod file sizes at p.0 × (p.1 ≡ at + 8)) (value_is _ _ g.1)
    (record { class_is = class.0; class_below = ltb-true _ _ b.0; proto_is = proto.0; proto_below = ltb-true _ _ d.0; name_is = name.0; name_below = ltb-true _ _ g.0 }, omega arith)

method_row_again : (file : List ℕ) (sizes : Sizes) (table i at : ℕ) (x : MethodRow) → IsMethod file sizes at x → run (method_row file sizes table i at) ≡ Ok (x, at + 8)
unfolding method_row
method_row_again file sizes table i at x is =
    let class : u2 file at ≡ Some (x.class, at + 2) = is.class_is in
    let proto : u2 file (at + 2) ≡ Some (x.proto, at + 4) = is.proto_is ∙ ap (λ (o : ℕ). Some (x.proto, o)) (omega arith) in
    let name : u4 file (at + 4) ≡ Some (x.name, at + 8) = is.name_is ∙ ap (λ (o : ℕ). Some (x.name, o)) (omega arith) in
    rw (class, lt-ltb x.class sizes.types is.class_below, proto, lt-ltb x.proto sizes.protos is.proto_below, name, lt-ltb x.name sizes.strings is.name_below) refl

-- whole tables
pub record StringsRead (file : List ℕ) (table : Section) (xs : List (List ℕ)) : Type 0 where
  pub count : length xs ≡ table.size
  pub stand : RowsStand (IsName file) 4 table.at xs
  pub limit : sum_by length xs ≤ 33554432

pub strings_are : (file : List ℕ) (table : Section) (xs : List (List ℕ)) (s : Place) → run (strings_at file table) ≡ Ok (xs, s) → StringsRead file table xs
unfolding strings_at Named
strings_are file table xs s e =
    let read = repeat_read 0 (λ a b. a + b) (λ a. a ≤ 33554432) (λ at name adds to. IsName file at name × (adds ≡ length name) × (to ≡ at + 4)) place (string_row file table.at) (number_adds 33554432)
    (λ q t x s. string_row_is file table.at q t x s) table.size table.at 0 xs s (omega arith) e in
    let rows = rows_from_follow (IsName file) (λ (n : List ℕ). length n) 4 table.at xs read.adds read.to read.stand in
    let fits : 0 + read.adds ≤ 33554432 = read.fits in
    let adds : read.adds ≡ sum_by length xs = rows.1 in
    record { count = read.count; stand = rows.0; limit = omega arith }

pub strings_again : (file : List ℕ) (table : Section) (xs : List (List ℕ)) → StringsRead file table xs → (s : Place) × (run (strings_at file table) ≡ Ok (xs, s))
unfolding strings_at Named
strings_again file table xs is =
    let follow = follow_from_rows (IsName file) (λ (n : List ℕ). length n) 4 table.at xs is.stand in
    let limit : sum_by length xs ≤ 33554432 = is.limit in
    let fits : 0 + sum_by length xs ≤ 33554432 = omega arith in
    let read = repeat_again 0 (λ a b. a + b) (λ a. a ≤ 33554432) (λ at name adds to. IsName file at name × (adds ≡ length name) × (to ≡ at + 4)) place (string_row file table.at) (number_adds 33554432)
    (λ q t x adds to. string_row_again file table.at q t x adds to) table.at 0 xs (sum_by length xs) follow.0 follow.1 fits in
    (place follow.0 (0 + sum_by length xs), subst (λ (n : ℕ). run (repeat n (string_row file table.at) (place table.at 0)) ≡ Ok (xs, place follow.0 (0 + sum_by length xs))) is.count read)

pub record ProtosRead (file : List ℕ) (sizes : Sizes) (table : Section) (xs : List ProtoId) (u : ℕ) : Type 0 where
  pub count : length xs ≡ table.size
  pub stand : RowsStand (IsProto file sizes) 12 table.at xs
  pub is : u ≡ sum_by (λ (p : ProtoId). length p.params) xs
  pub limit : u ≤ 4000000

pub protos_are : (file : List ℕ) (sizes : Sizes) (table : Section) (xs : List ProtoId) (s : Place) → run (protos_at file sizes table 0) ≡ Ok (xs, s) → ProtosRead file sizes table xs s.total
unfolding protos_at Prototyped
protos_are file sizes table xs s e =
    let read = follow_read 0 (λ a b. a + b) (λ a. a ≤ 4000000) (λ at proto adds to. IsProto file sizes at proto × (adds ≡ length proto.params) × (to ≡ at + 12)) place (proto_row file sizes table.at) (number_adds 4000000)
    (λ i q t x s. proto_row_is file sizes table.at i q t x s) table.size 0 table.at 0 xs s (omega arith) e in
    let rows = rows_from_follow (IsProto file sizes) (λ (p : ProtoId). length p.params) 12 table.at xs read.adds read.to read.stand in
    let fits : 0 + read.adds ≤ 4000000 = read.fits in
    let total : s.total ≡ 0 + read.adds = ap (λ (p : Place). p.total) read.is in
    let adds : read.adds ≡ sum_by (λ (p : ProtoId). length p.params) xs = rows.1 in
    record { count = read.count; stand = rows.0; is = omega arith; limit = omega arith }

pub protos_again : (file : List ℕ) (sizes : Sizes) (table : Section) (xs : List ProtoId) (u : ℕ) → ProtosRead file sizes table xs u → (s : Place) × (run (protos_at file sizes table 0) ≡ Ok (xs, s)) × (s.total ≡ u)
unfolding protos_at Prototyped
protos_again file sizes table xs u is =
    let follow = follow_from_rows (IsProto file sizes) (λ (p : ProtoId). length p.params) 12 table.at xs is.stand in
    let same : u ≡ sum_by (λ (p : ProtoId). length p.params) xs = is.is in
    let limit : u ≤ 4000000 = is.limit in
    let fits : 0 + sum_by (λ (p : ProtoId). length p.params) xs ≤ 4000000 = omega arith in
    let total : 0 + sum_by (λ (p : ProtoId). length p.params) xs ≡ u = omega arith in
    let read = follow_again 0 (λ a b. a + b) (λ a. a ≤ 4000000) (λ at proto adds to. IsProto file sizes at proto × (adds ≡ length proto.params) × (to ≡ at + 12)) place (proto_row file sizes table.at) (number_adds 4000000)
    (λ i q t x adds to. proto_row_again file sizes table.at i q t x adds to) 0 table.at 0 xs (sum_by (λ (p : ProtoId). length p.params) xs) follow.0 follow.1 fits in
    (place follow.0 (0 + sum_by (λ (p : ProtoId). length p.params) xs), subst (λ (n : ℕ). run (rows n 0 (proto_row file sizes table.at) (place table.at 0)) ≡ Ok (xs, place follow.0 (0 + sum_by (λ (p : ProtoId). length p.params) xs))) is.count read, total)

pub types_are : (file : List ℕ) (sizes : Sizes) (table : Section) (xs : List ℕ) (end : ℕ) → run (types_at file sizes table) ≡ Ok (xs, end) → (length xs ≡ table.size) × RowsStand (IsType file sizes) 4 table.at xs
unfolding types_at
types_are file sizes table xs end e = rows_stand (IsType file sizes) 4 (type_row file sizes table.at) (type_row_is file sizes table.at) table.size 0 table.at xs end e

pub types_again : (file : List ℕ) (sizes : Sizes) (table : Section) (xs : List ℕ) → length xs ≡ table.size → RowsStand (IsType file sizes) 4 table.at xs → (end : ℕ) × (run (types_at file sizes table) ≡ Ok (xs, end))
unfolding types_at
types_again file sizes table xs count stand =
    let read = rows_again (IsType file sizes) 4 (type_row file sizes table.at) (type_row_again file sizes table.at) 0 table.at xs stand in
    (read.0, rw (← count) read.1)

pub fields_are : (file : List ℕ) (sizes : Sizes) (table : Section) (xs : List FieldId) (end : ℕ) → run (fields_at file sizes table) ≡ Ok (xs, end) → (length xs ≡ table.size) × RowsStand (IsField file sizes) 8 table.at xs
unfolding fields_at
fields_are file sizes table xs end e = rows_stand (IsField file sizes) 8 (field_row file sizes table.at) (field_row_is file sizes table.at) table.size 0 table.at xs end e

pub fields_again : (file : List ℕ) (sizes : Sizes) (table : Section) (xs : List FieldId) → length xs ≡ table.size → RowsStand (IsField file sizes) 8 table.at xs → (end : ℕ) × (run (fields_at file sizes table) ≡ Ok (xs, end))
unfolding fields_at
fields_again file sizes table xs count stand =
    let read = rows_again (IsField file sizes) 8 (field_row file sizes table.at) (field_row_again file sizes table.at) 0 table.at xs stand in
    (read.0, rw (← count) read.1)

pub methods_are : (file : List ℕ) (sizes : Sizes) (table : Section) (xs : List MethodRow) (end : ℕ) → run (methods_at file sizes table) ≡ Ok (xs, end) → (length xs ≡ table.size) × RowsStand (IsMethod file sizes) 8 table.at xs
unfolding methods_at
methods_are file sizes table xs end e = rows_stand (IsMethod file sizes) 8 (method_row file sizes table.at) (method_row_is file sizes table.at) table.size 0 table.at xs end e

pub methods_again : (file : List ℕ) (sizes : Sizes) (table : Section) (xs : List MethodRow) → length xs ≡ table.size → RowsStand (IsMethod file sizes) 8 table.at xs → (end : ℕ) × (run (methods_at file sizes table) ≡ Ok (xs, end))
unfolding methods_at
methods_again file sizes table xs count stand =
    let read = rows_again (IsMethod file sizes) 8 (method_row file sizes table.at) (method_row_again file sizes table.at) 0 table.at xs stand in
    (read.0, rw (← count) read.1)
