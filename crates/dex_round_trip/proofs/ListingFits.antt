-- What a listing's classes are in a file is what a reader asks of them.
use Rattle.std.proofs.Common.{◌≡◌, ℕ, suc, ◌+◌, ◌<◌, ◌≤◌, Bool, true, false, cond, List, [], ◌∷◌, length, map, Option, Some, None, refl, arith}
use Rattle.std.specs.Prelude.{IfSome, IfNone, sum_by, slice_index}
use Rattle.std.specs.Option.{option_map}
use Rattle.std.specs.List.{AllByRecursion}
use Rattle.std.proofs.lemmas.List.Sums.{sum_by-cons}
use Rattle.dex_tables.specs.declared.place.Sizes.{Sizes}
use Rattle.dex_reader.specs.Sound.{code_units, body_units, class_members, class_units}
use Rattle.dex_writer.specs.declared.tables.Tables.{Tables}
use Rattle.dex_maker.specs.declared.listing.ListedClass.{ListedClass}
use Rattle.dex_maker.specs.declared.listing.ListedField.{ListedField}
use Rattle.dex_maker.specs.declared.listing.ListedMethod.{ListedMethod}
use Rattle.dex_maker.specs.declared.listing.ListedCode.{ListedCode}
use Rattle.dex_maker.specs.declared.listing.ListedTry.{ListedTry}
use Rattle.dex_writer.specs.Tables.{type_index}
use Rattle.dex_maker.specs.Lines.{width_sum, starts_from}
use Rattle.dex_maker.specs.Codes.{handler_pair, raw_try, raw_code}
use Rattle.dex_maker.specs.Classes.{is_static, is_direct, is_of, member_of, members_from, body_of, bodies_from, class_def, class_defs_from, code_width, method_width, class_width, member_count}
use Rattle.dex_round_trip.proofs.ClassRows.{ClassRowFits}
use Rattle.dex_round_trip.proofs.Fits.{PairFits, TryFits, CodeFits, MembersRise, BodiesRise, DataFits}
use Rattle.dex_round_trip.specs.Listings.{FieldCanBeRead, TryCanBeRead, CodeCanBeRead, MethodCanBeRead, ClassCanBeRead}
use Rattle.dex_round_trip.proofs.TableGrowth.{type_below}
use Rattle.dex_round_trip.proofs.NamingGrowth.{fields_in, methods_in}
use Rattle.dex_round_trip.proofs.UnitFits.{units_short, units_width, outs_short, start_small}
use Rattle.std.proofs.lemmas.List.{length-map}

-- ---- tries and code

pairs_fit : (t : Tables) (code : ListedCode) (handlers : List (List ℕ × ℕ)) → 0 < length t.types → width_sum code.lines ≤ 8388608
    → AllByRecursion (PairFits (length t.types)) (map (handler_pair t (starts_from 0 code.lines)) handlers)
pairs_fit t code [] some le = tt
pairs_fit t code (h ∷ hs) some le = (record { kind = type_below t h.0 some; address = start_small code.lines h.1 le }, pairs_fit t code hs some le)

address_small : (code : ListedCode) (line : Option ℕ) → width_sum code.lines ≤ 8388608 → IfSome (option_map (slice_index (starts_from 0 code.lines)) line) (λ a. a < 4294967296)
address_small code None le = tt
address_small code (Some line) le = start_small code.lines line le

handles_still : (f : ℕ → ℕ) (o : Option ℕ) (n m : ℕ) → n ≡ m → IfNone o (0 < n) → IfNone (option_map f o) (0 < m)
handles_still f None n m e h = omega arith
handles_still f (Some x) n m e h = tt

try_fits : (t : Tables) (code : ListedCode) (item : ListedTry) → 0 < length t.types → width_sum code.lines ≤ 8388608 → TryCanBeRead item → TryFits (length t.types) (raw_try t (starts_from 0 code.lines) item)
unfolding raw_try
try_fits t code item some le is =
    let starts = starts_from 0 code.lines in
    let count : length (map (handler_pair t starts) item.handlers) ≡ length item.handlers = length-map item.handlers (handler_pair t starts) in
    record {
      start = start_small code.lines item.start le;
      count = omega arith;
      pairs = pairs_fit t code item.handlers some le;
      few = omega (arith, count, is.few);
      catch_all = address_small code item.catch_all le;
      handles = handles_still (slice_index starts) item.catch_all (length item.handlers) _ (omega (arith, count)) is.handles;
    }

tries_fit : (t : Tables) (code : ListedCode) (tries : List ListedTry) → 0 < length t.types → width_sum code.lines ≤ 8388608 → AllByRecursion TryCanBeRead tries
    → AllByRecursion (TryFits (length t.types)) (map (raw_try t (starts_from 0 code.lines)) tries)
tries_fit t code [] some le are = tt
tries_fit t code (x ∷ xs) some le are = (try_fits t code x some le are.0, tries_fit t code xs some le are.1)

code_fits : (t : Tables) (code : ListedCode) → 0 < length t.types → width_sum code.lines ≤ 8388608 → CodeCanBeRead code → CodeFits (length t.types) (raw_code t code)
unfolding raw_code
code_fits t code some le is = record {
  registers = is.registers;
  ins = is.ins;
  outs = outs_short code.lines;
  units = units_short t (starts_from 0 code.lines) 0 code.lines is.lines;
  tries = tries_fit t code code.tries some le is.tries;
  few = omega (arith, length-map code.tries (raw_try t (starts_from 0 code.lines)), is.few);
}

maybe_code_fits : (t : Tables) (code : Option ListedCode) → 0 < length t.types → code_width code ≤ 8388608 → IfSome code CodeCanBeRead → IfSome (option_map (raw_code t) code) (CodeFits (length t.types))
maybe_code_fits t None some le is = tt
maybe_code_fits t (Some code) some le is = code_fits t code some le is

-- ---- members

members_rise : (kind : Bool) (size before row : ℕ) (fs : List ListedField) → before ≤ row → row + length fs ≤ size → AllByRecursion FieldCanBeRead fs → MembersRise size before (members_from kind row fs)
members_rise kind size before row [] le within are = tt
members_rise kind size before row (f ∷ fs) le within are =
    let here : row < size = omega arith in
    let rest : row + 1 + length fs ≤ size = omega arith in
    elim (is_of kind (is_static f)) as (λ b. MembersRise size before (cond b (member_of row f ∷ members_from kind (row + 1) fs) (members_from kind (row + 1) fs))) [
      | true ↦ (le, here, are.0.flags, members_rise kind size row (row + 1) fs (omega arith) rest are.1)
      | false ↦ members_rise kind size before (row + 1) fs (omega arith) rest are.1
    ]

bodies_rise : (t : Tables) (sizes : Sizes) (kind : Bool) (before row : ℕ) (ms : List ListedMethod) → sizes.types ≡ length t.types → 0 < length t.types → before ≤ row → row + length ms ≤ sizes.methods
    → sum_by method_width ms ≤ 8388608 → AllByRecursion MethodCanBeRead ms → BodiesRise sizes before (bodies_from t kind row ms)
bodies_rise t sizes kind before row [] types some le within units are = tt
bodies_rise t sizes kind before row (m ∷ ms) types some le within units are =
    let here : row < sizes.methods = omega arith in
    let rest : row + 1 + length ms ≤ sizes.methods = omega arith in
    let split : sum_by method_width (m ∷ ms) ≡ method_width m + sum_by method_width ms = sum_by-cons method_width m ms in
    let later : sum_by method_width ms ≤ 8388608 = omega arith in
    let one : code_width m.code ≤ 8388608 = omega arith in
    let code : IfSome (option_map (raw_code t) m.code) (CodeFits sizes.types) = rw types (maybe_code_fits t m.code some one are.0.code) in
    elim (is_of kind (is_direct m)) as (λ b. BodiesRise sizes before (cond b (body_of t row m ∷ bodies_from t kind (row + 1) ms) (bodies_from t kind (row + 1) ms))) [
      | true ↦ (le, here, are.0.flags, code, bodies_rise t sizes kind row (row + 1) ms types some (omega arith) rest later are.1)
      | false ↦ bodies_rise t sizes kind before (row + 1) ms types some (omega arith) rest later are.1
    ]

-- ---- classes

data_fits : (t : Tables) (sizes : Sizes) (field method : ℕ) (c : ListedClass) → sizes.types ≡ length t.types → 0 < length t.types → field + length c.fields ≤ sizes.fields → method + length c.methods ≤ sizes.methods
    → class_width c ≤ 8388608 → ClassCanBeRead c → DataFits sizes (class_def t field method c)
unfolding class_def
data_fits t sizes field method c types some fields methods units is = record {
  statics = members_rise true sizes.fields 0 field c.fields (omega arith) fields is.fields;
  instances = members_rise false sizes.fields 0 field c.fields (omega arith) fields is.fields;
  directs = bodies_rise t sizes true 0 method c.methods types some (omega arith) methods units is.methods;
  virtuals = bodies_rise t sizes false 0 method c.methods types some (omega arith) methods units is.methods;
}

pub all_data_fit : (t : Tables) (sizes : Sizes) (field method : ℕ) (cs : List ListedClass) → sizes.types ≡ length t.types → 0 < length t.types → field + sum_by fields_in cs ≤ sizes.fields → method + sum_by methods_in cs ≤ sizes.methods
    → sum_by class_width cs ≤ 8388608 → AllByRecursion ClassCanBeRead cs → AllByRecursion (DataFits sizes) (class_defs_from t field method cs)
all_data_fit t sizes field method [] types some fields methods units are = tt
all_data_fit t sizes field method (c ∷ cs) types some fields methods units are =
    let f : sum_by fields_in (c ∷ cs) ≡ length c.fields + sum_by fields_in cs = sum_by-cons fields_in c cs in
    let m : sum_by methods_in (c ∷ cs) ≡ length c.methods + sum_by methods_in cs = sum_by-cons methods_in c cs in
    let w : sum_by class_width (c ∷ cs) ≡ class_width c + sum_by class_width cs = sum_by-cons class_width c cs in (
      data_fits t sizes field method c types some (omega arith) (omega arith) (omega arith) are.0,
      all_data_fit t sizes (field + length c.fields) (method + length c.methods) cs types some (omega arith) (omega arith) (omega arith) are.1,
    )

indices_below : (t : Tables) (names : List (List ℕ)) → 0 < length t.types → AllByRecursion (λ x. x < length t.types) (map (type_index t) names)
indices_below t [] some = tt
indices_below t (n ∷ ns) some = (type_below t n some, indices_below t ns some)

superclass_below : (t : Tables) (superclass : Option (List ℕ)) → 0 < length t.types → IfSome (option_map (type_index t) superclass) (λ s. s < length t.types)
superclass_below t None some = tt
superclass_below t (Some name) some = type_below t name some

row_fits : (t : Tables) (field method : ℕ) (c : ListedClass) → 0 < length t.types → ClassCanBeRead c → ClassRowFits (length t.types) (class_def t field method c)
unfolding class_def
row_fits t field method c some is = record {
  class_below = type_below t c.name some;
  flags_fit = is.flags;
  superclass_below = superclass_below t c.superclass some;
  interfaces_below = indices_below t c.interfaces some;
}

pub rows_fit : (t : Tables) (field method : ℕ) (cs : List ListedClass) → 0 < length t.types → AllByRecursion ClassCanBeRead cs → AllByRecursion (ClassRowFits (length t.types)) (class_defs_from t field method cs)
rows_fit t field method [] some are = tt
rows_fit t field method (c ∷ cs) some are = (row_fits t field method c some are.0, rows_fit t (field + length c.fields) (method + length c.methods) cs some are.1)

-- ---- how much they are

members_both : (row : ℕ) (fs : List ListedField) → length (members_from true row fs) + length (members_from false row fs) ≡ length fs
members_both row [] = refl
members_both row (f ∷ fs) =
    let rest = members_both (row + 1) fs in
    elim (is_static f) as (λ b. length (cond (is_of true b) (member_of row f ∷ members_from true (row + 1) fs) (members_from true (row + 1) fs)) + length (cond (is_of false b) (member_of row f ∷ members_from false (row + 1) fs) (members_from false (row + 1) fs)) ≡ suc (length fs)) [
      | true ↦ omega arith
      | false ↦ omega arith
    ]

bodies_both : (t : Tables) (row : ℕ) (ms : List ListedMethod) → length (bodies_from t true row ms) + length (bodies_from t false row ms) ≡ length ms
bodies_both t row [] = refl
bodies_both t row (m ∷ ms) =
    let rest = bodies_both t (row + 1) ms in
    elim (is_direct m) as (λ b. length (cond (is_of true b) (body_of t row m ∷ bodies_from t true (row + 1) ms) (bodies_from t true (row + 1) ms)) + length (cond (is_of false b) (body_of t row m ∷ bodies_from t false (row + 1) ms) (bodies_from t false (row + 1) ms)) ≡ suc (length ms)) [
      | true ↦ omega arith
      | false ↦ omega arith
    ]

members_are : (t : Tables) (field method : ℕ) (c : ListedClass) → class_members (class_def t field method c) ≡ member_count c
unfolding class_def
members_are t field method c = omega (arith, members_both field c.fields, bodies_both t method c.methods)

pub members_total : (t : Tables) (field method : ℕ) (cs : List ListedClass) → sum_by class_members (class_defs_from t field method cs) ≡ sum_by member_count cs
members_total t field method [] = refl
members_total t field method (c ∷ cs) =
    let d = class_def t field method c in
    let later = class_defs_from t (field + length c.fields) (method + length c.methods) cs in
    omega (arith, sum_by-cons class_members d later, sum_by-cons member_count c cs, members_are t field method c, members_total t (field + length c.fields) (method + length c.methods) cs)

maybe_units : (t : Tables) (code : Option ListedCode) → code_units (option_map (raw_code t) code) ≡ code_width code
unfolding raw_code
maybe_units t None = refl
maybe_units t (Some code) = units_width t (starts_from 0 code.lines) 0 code.lines

units_both : (t : Tables) (row : ℕ) (ms : List ListedMethod) → sum_by body_units (bodies_from t true row ms) + sum_by body_units (bodies_from t false row ms) ≡ sum_by method_width ms
units_both t row [] = refl
units_both t row (m ∷ ms) =
    let b = body_of t row m in
    let ds = bodies_from t true (row + 1) ms in
    let vs = bodies_from t false (row + 1) ms in
    let rest = units_both t (row + 1) ms in
    let one : body_units b ≡ method_width m = maybe_units t m.code in
    let direct = sum_by-cons body_units b ds in
    let virtual = sum_by-cons body_units b vs in
    let whole = sum_by-cons method_width m ms in
    elim (is_direct m) as (λ k. sum_by body_units (cond (is_of true k) (b ∷ ds) ds) + sum_by body_units (cond (is_of false k) (b ∷ vs) vs) ≡ sum_by method_width (m ∷ ms)) [
      | true ↦ omega (arith, rest, one, direct, whole)
      | false ↦ omega (arith, rest, one, virtual, whole)
    ]

units_are : (t : Tables) (field method : ℕ) (c : ListedClass) → class_units (class_def t field method c) ≡ class_width c
unfolding class_def
units_are t field method c = units_both t method c.methods

pub units_total : (t : Tables) (field method : ℕ) (cs : List ListedClass) → sum_by class_units (class_defs_from t field method cs) ≡ sum_by class_width cs
units_total t field method [] = refl
units_total t field method (c ∷ cs) =
    let d = class_def t field method c in
    let later = class_defs_from t (field + length c.fields) (method + length c.methods) cs in
    omega (arith, sum_by-cons class_units d later, sum_by-cons class_width c cs, units_are t field method c, units_total t (field + length c.fields) (method + length c.methods) cs)
