-- Class data stands where it was written.
use Rattle.std.proofs.Common.{◌≡◌, ℕ, ◌+◌, ◌-◌, ◌<◌, ◌≤◌, List, [], ◌∷◌, ◌++◌, length, refl, length-append, append_assoc, arith}
use Rattle.std.specs.Prelude.{sum_by}
use Rattle.std.specs.List.{flat_map}
use Rattle.std.proofs.lemmas.List.Sums.{sum_by-cons}
use Rattle.dex_tables.specs.declared.dex.Body.{Body}
use Rattle.dex_tables.specs.declared.dex.ClassDef.{ClassDef}
use Rattle.dex_tables.specs.declared.dex.Member.{Member}
use Rattle.dex_tables.specs.declared.place.Sizes.{Sizes}
use Rattle.dex_tables.specs.Sequences.{Follow}
use Rattle.dex_reader.specs.ClassesStand.{one_member, IsMember, IsBody, HasClassData, MaybeClassData}
use Rattle.dex_reader.specs.Sound.{body_units, class_members, class_units}
use Rattle.dex_tables.specs.Totals.{no_totals, plus}
use Rattle.dex_writer.specs.Bytes.{uleb_bytes, type_list, padding_of}
use Rattle.dex_writer.specs.Placed.{offset_of}
use Rattle.dex_writer.specs.ClassData.{members_bytes, body_code, bodies_bytes, virtuals_at, class_code, class_item, class_data, code_and_data, code_begin, data_begin, class_bytes}
use Rattle.dex_round_trip.proofs.Fits.{MembersRise, BodiesRise, DataFits, code_total, members_total, bodies_total, class_total}
use Rattle.dex_round_trip.proofs.Standing.{Stands, stands_front, stands_back, stands_as, stands_moved, stands_three, uleb_reads}
use Rattle.dex_round_trip.proofs.Texts.{offset_small, at_some}
use Rattle.dex_round_trip.proofs.CodeReads.{maybe_code_stands}

-- ---- fields

last_index : ℕ → List Member → ℕ
last_index before [] = before
last_index before (m ∷ ms) = last_index m.index ms

members_follow : (file : List ℕ) (fields at before : ℕ) (ms : List Member) → fields ≤ 65536 → Stands file at (members_bytes before ms) → MembersRise fields before ms
    → Follow no_totals plus (IsMember file fields) (at, before) ms (members_total ms) (at + length (members_bytes before ms), last_index before ms)
unfolding members_bytes last_index
members_follow file fields at before [] few stand fit = (let e : at ≡ at + 0 = omega arith in rw (← e) refl, refl)
members_follow file fields at before (m ∷ ms) few stand fit =
    let d = uleb_bytes (m.index - before) in
    let f = uleb_bytes m.flags in
    let rest = members_bytes m.index ms in
    let parts = stands_three file at d f rest stand in
    let small : m.index - before < 4294967296 = omega (arith, fit.1) in
    let end : at + length (d ++ f ++ rest) ≡ at + length d + length f + length rest = omega (arith, length-append (d ++ f) rest, length-append d f) in (
      (at + length d + length f, m.index),
      one_member,
      members_total ms,
      record {
        difference = m.index - before;
        mid = at + length d;
        difference_is = uleb_reads file at (m.index - before) small parts.first;
        index_is = omega (arith, fit.0);
        index_below = fit.1;
        flags_is = uleb_reads file (at + length d) m.flags fit.2 parts.second;
        sum = refl;
        one = refl;
      },
      rw end (members_follow file fields (at + length d + length f) m.index ms few parts.third fit.3),
      refl,
    )

-- ---- methods

last_body : ℕ → List Body → ℕ
last_body before [] = before
last_body before (b ∷ bs) = last_body b.index bs

bodies_follow : (file : List ℕ) (sizes : Sizes) (rows_at before at : ℕ) (bs : List Body) → sizes.types ≤ 65536 → sizes.methods ≤ 65536 → 0 < at
    → Stands file rows_at (bodies_bytes before at bs) → Stands file at (flat_map body_code bs) → at + length (flat_map body_code bs) < 4294967296
    → BodiesRise sizes before bs → sum_by body_units bs ≤ 8388608
    → Follow no_totals plus (IsBody file sizes) (rows_at, before) bs (bodies_total bs) (rows_at + length (bodies_bytes before at bs), last_body before bs)
unfolding bodies_bytes last_body
bodies_follow file sizes rows_at before at [] few_types few some rows_stand codes_stand small fit within = (let e : rows_at ≡ rows_at + 0 = omega arith in rw (← e) refl, refl)
bodies_follow file sizes rows_at before at (b ∷ bs) few_types few some rows_stand codes_stand small fit within =
    let code = body_code b in
    let place = offset_of at code in
    let d = uleb_bytes (b.index - before) in
    let f = uleb_bytes b.flags in
    let o = uleb_bytes place in
    let next = at + length code in
    let rest = bodies_bytes b.index next bs in
    let later = flat_map body_code bs in
    let front = stands_front file rows_at (d ++ f ++ o) rest rows_stand in
    let parts = stands_three file rows_at d f o front in
    let sizes-of : at + length (code ++ later) ≡ next + length later = omega (arith, length-append code later) in
    let here : at < 4294967296 = omega (arith, sizes-of) in
    let later-small : next + length later < 4294967296 = omega (arith, sizes-of) in
    let later-some : 0 < next = omega arith in
    let difference : b.index - before < 4294967296 = omega (arith, fit.1) in
    let split : body_units b + sum_by body_units bs ≤ 8388608 = omega (arith, sum_by-cons body_units b bs) in
    let within-here : body_units b < 4294967296 = omega arith in
    let end : rows_at + length (d ++ f ++ o ++ rest) ≡ rows_at + length d + length f + length o + length rest = omega (arith, length-append (d ++ f ++ o) rest, length-append (d ++ f) o, length-append d f) in
    let moved : rows_at + length (d ++ f ++ o) ≡ rows_at + length d + length f + length o = omega (arith, length-append (d ++ f) o, length-append d f) in (
      (rows_at + length d + length f + length o, b.index),
      plus one_member (code_total b.code),
      bodies_total bs,
      record {
        difference = b.index - before;
        mid = rows_at + length d;
        next = rows_at + length d + length f;
        offset = place;
        coded = code_total b.code;
        difference_is = uleb_reads file rows_at (b.index - before) difference parts.first;
        index_is = omega (arith, fit.0);
        index_below = fit.1;
        flags_is = uleb_reads file (rows_at + length d) b.flags fit.2 parts.second;
        offset_is = uleb_reads file (rows_at + length d + length f) place (offset_small at code here) parts.third;
        code = maybe_code_stands file sizes.types at b.code few_types some (stands_front file at code later codes_stand) fit.3 within-here;
        sum = refl;
        one_and_code = refl;
      },
      rw end (bodies_follow file sizes (rows_at + length d + length f + length o) b.index next bs few_types few later-some
          (stands_moved file (rows_at + length (d ++ f ++ o)) (rows_at + length d + length f + length o) rest moved (stands_back file rows_at (d ++ f ++ o) rest rows_stand))
          (stands_back file at code later codes_stand) later-small fit.4 (omega arith)),
      refl,
    )

-- ---- the four lists

item_parts : (class : ClassDef) (directs virtuals : List ℕ) → class_item class directs virtuals
    ≡ uleb_bytes (length class.statics) ++ (uleb_bytes (length class.instances) ++ (uleb_bytes (length class.directs) ++ (uleb_bytes (length class.virtuals) ++ (members_bytes 0 class.statics ++ (members_bytes 0 class.instances ++ (directs ++ virtuals))))))
unfolding class_item
item_parts class directs virtuals = simp append_assoc

data_stands : (file : List ℕ) (sizes : Sizes) (at code : ℕ) (class : ClassDef) → sizes.types ≤ 65536 → sizes.fields ≤ 65536 → sizes.methods ≤ 65536 → 0 < code
    → Stands file at (class_data code class) → Stands file code (class_code class) → code + length (class_code class) < 4294967296
    → DataFits sizes class → class_members class ≤ 400000 → class_units class ≤ 8388608
    → HasClassData file sizes at class (class_total class)
unfolding class_data class_code virtuals_at
data_stands file sizes at code class few_types few_fields few_methods some stand codes small fit members units =
    let ds = bodies_bytes 0 code class.directs in
    let dcodes = flat_map body_code class.directs in
    let vat = code + length dcodes in
    let vs = bodies_bytes 0 vat class.virtuals in
    let vcodes = flat_map body_code class.virtuals in
    let n1 = uleb_bytes (length class.statics) in
    let n2 = uleb_bytes (length class.instances) in
    let n3 = uleb_bytes (length class.directs) in
    let n4 = uleb_bytes (length class.virtuals) in
    let ss = members_bytes 0 class.statics in
    let is = members_bytes 0 class.instances in
    let s0 = stands_as file at (class_item class ds vs) (n1 ++ (n2 ++ (n3 ++ (n4 ++ (ss ++ (is ++ (ds ++ vs))))))) (item_parts class ds vs) stand in
    let s1 = stands_back file at n1 (n2 ++ (n3 ++ (n4 ++ (ss ++ (is ++ (ds ++ vs)))))) s0 in
    let a1 = at + length n1 in
    let s2 = stands_back file a1 n2 (n3 ++ (n4 ++ (ss ++ (is ++ (ds ++ vs))))) s1 in
    let a2 = a1 + length n2 in
    let s3 = stands_back file a2 n3 (n4 ++ (ss ++ (is ++ (ds ++ vs)))) s2 in
    let a3 = a2 + length n3 in
    let s4 = stands_back file a3 n4 (ss ++ (is ++ (ds ++ vs))) s3 in
    let a4 = a3 + length n4 in
    let s5 = stands_back file a4 ss (is ++ (ds ++ vs)) s4 in
    let a5 = a4 + length ss in
    let s6 = stands_back file a5 is (ds ++ vs) s5 in
    let a6 = a5 + length is in
    let a7 = a6 + length ds in
    let few1 : length class.statics < 4294967296 = omega arith in
    let few2 : length class.instances < 4294967296 = omega arith in
    let few3 : length class.directs < 4294967296 = omega arith in
    let few4 : length class.virtuals < 4294967296 = omega arith in
    let codes-all : code + length (dcodes ++ vcodes) ≡ vat + length vcodes = omega (arith, length-append dcodes vcodes) in
    let small-d : code + length dcodes < 4294967296 = omega (arith, codes-all) in
    let small-v : vat + length vcodes < 4294967296 = omega (arith, codes-all) in
    let some-v : 0 < vat = omega arith in
    let units-d : sum_by body_units class.directs ≤ 8388608 = omega arith in
    let units-v : sum_by body_units class.virtuals ≤ 8388608 = omega arith in
    record {
      counts = (a1, a2, a3, a4);
      statics_to = (a5, last_index 0 class.statics);
      instances_to = (a6, last_index 0 class.instances);
      directs_to = (a7, last_body 0 class.directs);
      virtuals_to = (a7 + length vs, last_body 0 class.virtuals);
      parts = (members_total class.statics, members_total class.instances, bodies_total class.directs, bodies_total class.virtuals);
      statics_count = uleb_reads file at (length class.statics) few1 (stands_front file at n1 (n2 ++ (n3 ++ (n4 ++ (ss ++ (is ++ (ds ++ vs)))))) s0);
      instances_count = uleb_reads file a1 (length class.instances) few2 (stands_front file a1 n2 (n3 ++ (n4 ++ (ss ++ (is ++ (ds ++ vs))))) s1);
      directs_count = uleb_reads file a2 (length class.directs) few3 (stands_front file a2 n3 (n4 ++ (ss ++ (is ++ (ds ++ vs)))) s2);
      virtuals_count = uleb_reads file a3 (length class.virtuals) few4 (stands_front file a3 n4 (ss ++ (is ++ (ds ++ vs))) s3);
      statics = members_follow file sizes.fields a4 0 class.statics few_fields (stands_front file a4 ss (is ++ (ds ++ vs)) s4) fit.statics;
      instances = members_follow file sizes.fields a5 0 class.instances few_fields (stands_front file a5 is (ds ++ vs) s5) fit.instances;
      directs = bodies_follow file sizes a6 0 code class.directs few_types few_methods some (stands_front file a6 ds vs s6) (stands_front file code dcodes vcodes codes) small-d fit.directs units-d;
      virtuals = bodies_follow file sizes a7 0 vat class.virtuals few_types few_methods some-v (stands_back file a6 ds vs s6) (stands_back file code dcodes vcodes codes) small-v fit.virtuals units-v;
      sum = refl;
    }

-- the class data of a class that stands at an offset
pub class_stands : (file : List ℕ) (sizes : Sizes) (at : ℕ) (class : ClassDef) → sizes.types ≤ 65536 → sizes.fields ≤ 65536 → sizes.methods ≤ 65536 → 0 < at
    → Stands file at (class_bytes at class) → at + length (class_bytes at class) < 4294967296 → DataFits sizes class → class_members class ≤ 400000 → class_units class ≤ 8388608
    → MaybeClassData file sizes (data_begin at class) class (class_total class)
unfolding class_bytes code_and_data code_begin data_begin
class_stands file sizes at class few_types few_fields few_methods some stand small fit members units =
    let list = type_list class.interfaces in
    let code = at + length list in
    let cc = class_code class in
    let cd = class_data code class in
    let pad = padding_of (length cd) in
    let parts = stands_three file code cc cd pad (stands_back file at list (cc ++ cd ++ pad) stand) in
    let whole : at + length (list ++ (cc ++ cd ++ pad)) ≡ code + length cc + length cd + length pad = omega (arith, length-append list (cc ++ cd ++ pad), length-append (cc ++ cd) pad, length-append cc cd) in
    let code-small : code + length cc < 4294967296 = omega (arith, whole) in
    let code-some : 0 < code = omega arith in
    at_some (code + length cc) _ _ (omega arith) (data_stands file sizes (code + length cc) code class few_types few_fields few_methods code-some parts.second parts.first code-small fit members units)
