-- A file within the limits is shorter than 4 GiB.
use Rattle.std.proofs.Common.{ℕ, ◌+◌, ◌*◌, ◌-◌, ◌%◌, ◌<◌, ◌≤◌, true, false, cond, eqb, List, [], ◌∷◌, ◌++◌, length, drop, Option, Some, None, length-append, arith}
use Rattle.std.specs.Prelude.{sum_by}
use Rattle.std.specs.List.{flat_map}
use Rattle.std.proofs.lemmas.List.{length-take}
use Rattle.std.proofs.lemmas.List.Sums.{sum_by-cons}
use Rattle.dex_tables.specs.declared.dex.Body.{Body}
use Rattle.dex_tables.specs.declared.dex.ClassDef.{ClassDef}
use Rattle.dex_tables.specs.declared.dex.Member.{Member}
use Rattle.dex_tables.specs.declared.dex.RawCode.{RawCode}
use Rattle.dex_tables.specs.declared.dex.RawTry.{RawTry}
use Rattle.dex_reader.specs.Dex.{interfaces_of}
use Rattle.dex_reader.specs.Sound.{code_units, body_units, class_members, class_units}
use Rattle.dex_writer.specs.declared.tables.Tables.{Tables}
use Rattle.dex_writer.specs.Bytes.{u2_bytes, u4_bytes, uleb_bytes, padding_of, string_item, type_list, text_len}
use Rattle.dex_writer.specs.Placed.{pieces, rows_of, offset_of}
use Rattle.dex_writer.specs.CodeItem.{handler_bytes, try_bytes, handlers_bytes, try_items, before_tries, tries_bytes, code_head, code_item, code_bytes}
use Rattle.dex_writer.specs.ClassData.{members_bytes, maybe_code, body_code, bodies_bytes, virtuals_at, class_code, class_item, class_data, code_and_data, code_begin, class_bytes}
use Rattle.dex_writer.specs.File.{params_bytes, data_at, params_data, class_begin, classes_data, strings_data, data_bytes, file_bytes, AreShort}
use Rattle.dex_round_trip.specs.Costs.{body_cost, class_cost, code_cost, try_cost}
use Rattle.dex_round_trip.proofs.CodeReads.{length_u2s}
use Rattle.dex_round_trip.proofs.TryReads.{groups_short, handler_short, items_bytes}
use Rattle.dex_round_trip.proofs.FileParts.{file_length}
use Rattle.dex_round_trip.proofs.IdTables.{params_in}

padding_short : (n : ℕ) → length (padding_of n) ≤ 3
unfolding padding_of
padding_short n = omega (arith, length-take {A = ℕ} ((4 - n % 4) % 4) (0 ∷ 0 ∷ 0 ∷ []))

list_short : (types : List ℕ) → length (type_list types) ≤ 7 + 2 * length types
unfolding type_list
list_short types =
    let u = flat_map u2_bytes types in
    let p = padding_of (2 * (length types % 2)) in
    elim (eqb (length types) 0) as (λ b. length (cond b [] (u4_bytes (length types) ++ u ++ p)) ≤ 7 + 2 * length types) [
      | true ↦ omega arith
      | false ↦ omega (arith, length-append (u4_bytes (length types) ++ u) p, length-append (u4_bytes (length types)) u, length_u2s types, padding_short (2 * (length types % 2)))
    ]

-- ---- tables

params_short : (protos : List (List ℕ)) → length (flat_map params_bytes protos) ≤ 7 * length protos + 2 * sum_by params_in protos
params_short [] = omega arith
params_short (p ∷ ps) =
    omega (arith, length-append (params_bytes p) (flat_map params_bytes ps), params_short ps, list_short (drop 2 p), sum_by-cons params_in p ps)

strings_short : (names : List (List ℕ)) → length (flat_map string_item names) ≤ 6 * length names + sum_by length names
strings_short [] = omega arith
strings_short (n ∷ ns) =
    let u = uleb_bytes (text_len n) in
    omega (arith, length-append (string_item n) (flat_map string_item ns), strings_short ns, length-append (u ++ n) (0 ∷ []), length-append u n, groups_short 4 (text_len n), sum_by-cons length n ns)

-- ---- code

tries_handlers : (tries : List RawTry) → 8 * length tries + length (flat_map handler_bytes tries) ≤ 7 * sum_by try_cost tries
tries_handlers [] = omega arith
tries_handlers (t ∷ ts) =
    omega (arith, length-append (handler_bytes t) (flat_map handler_bytes ts), tries_handlers ts, handler_short t, sum_by-cons try_cost t ts)

before_short : (units : ℕ) → length (before_tries units) ≤ 2
before_short units = elim (eqb (units % 2) 1) as (λ b. length (cond b (u2_bytes 0) []) ≤ 2) [ true ↦ omega arith | false ↦ omega arith ]

tries_short : (units : ℕ) (tries : List RawTry) → length (tries_bytes units tries) ≤ 7 + 7 * sum_by try_cost tries
unfolding tries_bytes try_items handlers_bytes
tries_short units tries =
    let n = uleb_bytes (length tries) in
    let b = before_tries units in
    let items = rows_of try_bytes handler_bytes (length n) tries in
    let list = flat_map handler_bytes tries in
    elim (eqb (length tries) 0) as (λ k. length (cond k [] (b ++ items ++ (n ++ list))) ≤ 7 + 7 * sum_by try_cost tries) [
      | true ↦ omega arith
      | false ↦ omega (arith, length-append (b ++ items) (n ++ list), length-append b items, length-append n list, before_short units, items_bytes (length n) tries, groups_short 4 (length tries), tries_handlers tries)
    ]

code_short : (code : RawCode) → length (code_bytes code) ≤ 26 + 2 * length code.units + 7 * sum_by try_cost code.tries
unfolding code_bytes code_item code_head
code_short code =
    let u = flat_map u2_bytes code.units in
    let t = tries_bytes (length code.units) code.tries in
    let item = code_item code in
    omega (arith, length-append item (padding_of (length item)), length-append (code_head code ++ u) t, length-append (code_head code) u, length_u2s code.units, tries_short (length code.units) code.tries, padding_short (length item))

maybe_short : (code : Option RawCode) → length (maybe_code code) ≤ 26 + 2 * code_units code + 7 * code_cost code
maybe_short None = omega arith
maybe_short (Some code) = code_short code

codes_short : (bs : List Body) → length (flat_map body_code bs) ≤ 26 * length bs + 2 * sum_by body_units bs + 7 * sum_by body_cost bs
codes_short [] = omega arith
codes_short (b ∷ bs) =
    omega (arith, length-append (body_code b) (flat_map body_code bs), codes_short bs, maybe_short b.code, sum_by-cons body_units b bs, sum_by-cons body_cost b bs)

-- ---- class data

members_short : (before : ℕ) (ms : List Member) → length (members_bytes before ms) ≤ 10 * length ms
unfolding members_bytes
members_short before [] = omega arith
members_short before (m ∷ ms) =
    let d = uleb_bytes (m.index - before) in
    let f = uleb_bytes m.flags in
    let rest = members_bytes m.index ms in
    omega (arith, length-append (d ++ f) rest, length-append d f, groups_short 4 (m.index - before), groups_short 4 m.flags, members_short m.index ms)

bodies_short : (before at : ℕ) (bs : List Body) → length (bodies_bytes before at bs) ≤ 15 * length bs
unfolding bodies_bytes
bodies_short before at [] = omega arith
bodies_short before at (b ∷ bs) =
    let d = uleb_bytes (b.index - before) in
    let f = uleb_bytes b.flags in
    let place = offset_of at (body_code b) in
    let o = uleb_bytes place in
    let next = at + length (body_code b) in
    let rest = bodies_bytes b.index next bs in
    omega (arith, length-append (d ++ f ++ o) rest, length-append (d ++ f) o, length-append d f, groups_short 4 (b.index - before), groups_short 4 b.flags, groups_short 4 place, bodies_short b.index next bs)

item_short : (c : ClassDef) (ds vs : List ℕ) → length (class_item c ds vs) ≤ 20 + 10 * length c.statics + 10 * length c.instances + length ds + length vs
unfolding class_item
item_short c ds vs =
    let a = uleb_bytes (length c.statics) in
    let b = uleb_bytes (length c.instances) in
    let d = uleb_bytes (length c.directs) in
    let e = uleb_bytes (length c.virtuals) in
    let ss = members_bytes 0 c.statics in
    let is = members_bytes 0 c.instances in
    omega (
      arith,
      length-append (a ++ b ++ d ++ e ++ ss ++ is ++ ds) vs,
      length-append (a ++ b ++ d ++ e ++ ss ++ is) ds,
      length-append (a ++ b ++ d ++ e ++ ss) is,
      length-append (a ++ b ++ d ++ e) ss,
      length-append (a ++ b ++ d) e,
      length-append (a ++ b) d,
      length-append a b,
      groups_short 4 (length c.statics),
      groups_short 4 (length c.instances),
      groups_short 4 (length c.directs),
      groups_short 4 (length c.virtuals),
      members_short 0 c.statics,
      members_short 0 c.instances,
    )

class_short : (at : ℕ) (c : ClassDef) → length (class_bytes at c) ≤ 30 + 2 * interfaces_of c + 41 * class_members c + 2 * class_units c + 7 * class_cost c
unfolding class_bytes code_and_data code_begin class_code class_data virtuals_at
class_short at c =
    let list = type_list c.interfaces in
    let code = at + length list in
    let dcodes = flat_map body_code c.directs in
    let vat = code + length dcodes in
    let vcodes = flat_map body_code c.virtuals in
    let ds = bodies_bytes 0 code c.directs in
    let vs = bodies_bytes 0 vat c.virtuals in
    let item = class_item c ds vs in
    let pad = padding_of (length item) in
    omega (
      arith,
      length-append list ((dcodes ++ vcodes) ++ item ++ pad),
      length-append ((dcodes ++ vcodes) ++ item) pad,
      length-append (dcodes ++ vcodes) item,
      length-append dcodes vcodes,
      list_short c.interfaces,
      codes_short c.directs,
      codes_short c.virtuals,
      item_short c ds vs,
      bodies_short 0 code c.directs,
      bodies_short 0 vat c.virtuals,
      padding_short (length item),
    )

classes_short : (at : ℕ) (cs : List ClassDef) → length (pieces class_bytes at cs) ≤ 30 * length cs + 2 * sum_by interfaces_of cs + 41 * sum_by class_members cs + 2 * sum_by class_units cs + 7 * sum_by class_cost cs
classes_short at [] = omega arith
classes_short at (c ∷ cs) =
    let b = class_bytes at c in
    omega (arith, length-append b (pieces class_bytes (at + length b) cs), classes_short (at + length b) cs, class_short at c, sum_by-cons interfaces_of c cs, sum_by-cons class_members c cs, sum_by-cons class_units c cs, sum_by-cons class_cost c cs)

-- ---- the file

data_short : (at : ℕ) (t : Tables) (cs : List ClassDef) → length (data_bytes at t cs) ≤ length (flat_map params_bytes t.protos) + length (pieces class_bytes (class_begin at t) cs) + length (flat_map string_item t.strings)
unfolding data_bytes params_data classes_data strings_data
data_short at t cs =
    let p = flat_map params_bytes t.protos in
    let c = pieces class_bytes (class_begin at t) cs in
    omega (arith, length-append (p ++ c) (flat_map string_item t.strings), length-append p c)

pub file_small : (t : Tables) (cs : List ClassDef) → AreShort t cs → sum_by length t.strings ≤ 33554432 → sum_by params_in t.protos + sum_by interfaces_of cs ≤ 4000000
    → sum_by class_members cs ≤ 400000 → sum_by class_units cs ≤ 8388608 → sum_by class_cost cs ≤ 1000000 → length (file_bytes t cs) < 4294967296
file_small t cs short names lists members units tries =
    let at = data_at t cs in
    omega (
      arith,
      file_length t cs,
      data_short at t cs,
      params_short t.protos,
      classes_short (class_begin at t) cs,
      strings_short t.strings,
      short.strings,
      short.types,
      short.protos,
      short.fields,
      short.methods,
      short.class_defs,
    )
