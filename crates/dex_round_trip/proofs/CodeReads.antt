-- A code item stands where it was written.
use Rattle.std.proofs.Common.{◌≡◌, ℕ, zero, suc, ◌+◌, ◌*◌, ◌%◌, ◌<◌, ◌≤◌, cond, eqb, List, [], ◌∷◌, ◌++◌, length, Option, Some, None, refl, ap, append_assoc, length-append, arith}
use Rattle.std.specs.Prelude.{IfSome, sum_by}
use Rattle.std.specs.List.{AllByRecursion, flat_map}
use Rattle.dex_tables.specs.declared.dex.RawCode.{RawCode}
use Rattle.dex_tables.specs.declared.dex.RawTry.{RawTry}
use Rattle.dex_tables.specs.Sequences.{Is2, Is4, RowsStand}
use Rattle.dex_bodies.specs.CodeStands.{MaybeTries, padded, IsCode, MaybeCode}
use Rattle.dex_reader.specs.Sound.{code_units}
use Rattle.dex_writer.specs.Bytes.{u2_bytes, u4_bytes, padding_of}
use Rattle.dex_writer.specs.Placed.{offset_of}
use Rattle.dex_writer.specs.CodeItem.{before_tries, try_items, handlers_bytes, tries_bytes, code_head, code_item, code_bytes}
use Rattle.dex_writer.specs.ClassData.{maybe_code}
use Rattle.dex_round_trip.specs.Costs.{try_cost}
use Rattle.dex_round_trip.proofs.Fits.{TryFits, CodeFits, code_total}
use Rattle.dex_round_trip.proofs.Standing.{Stands, stands_front, stands_back, stands_as, stands_moved, stands_three, u2_reads, u4_reads}
use Rattle.dex_round_trip.proofs.Texts.{eqb_above, offset_some, at_some}
use Rattle.dex_round_trip.proofs.TryReads.{tries_stand}

pub units_stand : (file : List ℕ) (at : ℕ) (units : List ℕ) → Stands file at (flat_map u2_bytes units) → AllByRecursion (λ u. u < 65536) units → RowsStand (Is2 file) 2 at units
units_stand file at [] stand all = tt
units_stand file at (u ∷ us) stand all = (
  u2_reads file at u all.0 (stands_front file at (u2_bytes u) (flat_map u2_bytes us) stand),
  units_stand file (at + 2) us (stands_back file at (u2_bytes u) (flat_map u2_bytes us) stand) all.1,
)

pad_is : (r : ℕ) → r < 2 → length (cond (eqb r 1) (u2_bytes 0) []) ≡ cond (eqb r 0) 0 2
pad_is zero lt = refl
pad_is (suc zero) lt = refl
pad_is (suc (suc r)) lt = absurd (omega arith)

tries_some : (units : ℕ) (t : RawTry) (ts : List RawTry) → tries_bytes units (t ∷ ts) ≡ before_tries units ++ (try_items (t ∷ ts) ++ handlers_bytes (t ∷ ts))
unfolding tries_bytes
tries_some units t ts = rw (eqb_above (suc (length ts)) (omega arith)) (append_assoc (before_tries units) (try_items (t ∷ ts)) (handlers_bytes (t ∷ ts)))

maybe_tries_stand : (file : List ℕ) (types at units : ℕ) (tries : List RawTry) → types ≤ 65536 → Stands file (at + 2 * units) (tries_bytes units tries) → AllByRecursion (TryFits types) tries → length tries ≤ 500
    → MaybeTries file types (padded at units) tries (sum_by try_cost tries)
maybe_tries_stand file types at units [] few stand fit short = refl
maybe_tries_stand file types at units (t ∷ ts) few stand fit short =
    let b = before_tries units in
    let rest = try_items (t ∷ ts) ++ handlers_bytes (t ∷ ts) in
    let split = stands_as file (at + 2 * units) (tries_bytes units (t ∷ ts)) (b ++ rest) (tries_some units t ts) stand in
    let place : at + 2 * units + length b ≡ padded at units = ap (λ (n : ℕ). at + 2 * units + n) (pad_is (units % 2) (omega arith)) in
    tries_stand file types (padded at units) (t ∷ ts) few (stands_moved file (at + 2 * units + length b) (padded at units) rest place (stands_back file (at + 2 * units) b rest split)) fit short

head_parts : (code : RawCode) → code_head code ≡ u2_bytes code.registers ++ (u2_bytes code.ins ++ (u2_bytes code.outs ++ (u2_bytes (length code.tries) ++ (u4_bytes 0 ++ u4_bytes (length code.units)))))
unfolding code_head
head_parts code = refl

record Head (file : List ℕ) (at : ℕ) (code : RawCode) : Type 0 where
  pub registers : Is2 file at code.registers
  pub ins : Is2 file (at + 2) code.ins
  pub outs : Is2 file (at + 4) code.outs
  pub tries : Is2 file (at + 6) (length code.tries)
  pub units : Is4 file (at + 12) (length code.units)

head_stands : (file : List ℕ) (types at : ℕ) (code : RawCode) → CodeFits types code → length code.units < 4294967296 → Stands file at (code_head code) → Head file at code
head_stands file types at code fit many stand =
    let r = u2_bytes code.registers in
    let i = u2_bytes code.ins in
    let o = u2_bytes code.outs in
    let t = u2_bytes (length code.tries) in
    let d = u4_bytes 0 in
    let n = u4_bytes (length code.units) in
    let s0 = stands_as file at (code_head code) (r ++ (i ++ (o ++ (t ++ (d ++ n))))) (head_parts code) stand in
    let s1 = stands_back file at r (i ++ (o ++ (t ++ (d ++ n)))) s0 in
    let s2 = stands_moved file (at + 2 + 2) (at + 4) (o ++ (t ++ (d ++ n))) (omega arith) (stands_back file (at + 2) i (o ++ (t ++ (d ++ n))) s1) in
    let s3 = stands_moved file (at + 4 + 2) (at + 6) (t ++ (d ++ n)) (omega arith) (stands_back file (at + 4) o (t ++ (d ++ n)) s2) in
    let s4 = stands_moved file (at + 6 + 2) (at + 8) (d ++ n) (omega arith) (stands_back file (at + 6) t (d ++ n) s3) in
    let s5 = stands_moved file (at + 8 + 4) (at + 12) n (omega arith) (stands_back file (at + 8) d n s4) in
    let few : length code.tries < 65536 = omega (arith, fit.few) in
    record {
      registers = u2_reads file at code.registers fit.registers (stands_front file at r (i ++ (o ++ (t ++ (d ++ n)))) s0);
      ins = u2_reads file (at + 2) code.ins fit.ins (stands_front file (at + 2) i (o ++ (t ++ (d ++ n))) s1);
      outs = u2_reads file (at + 4) code.outs fit.outs (stands_front file (at + 4) o (t ++ (d ++ n)) s2);
      tries = u2_reads file (at + 6) (length code.tries) few (stands_front file (at + 6) t (d ++ n) s3);
      units = u4_reads file (at + 12) (length code.units) many s5;
    }

head_length : (code : RawCode) → length (code_head code) ≡ 16
unfolding code_head
head_length code = refl

pub length_u2s : (xs : List ℕ) → length (flat_map u2_bytes xs) ≡ 2 * length xs
length_u2s [] = omega arith
length_u2s (x ∷ xs) = let rest = length_u2s xs in omega arith

pub code_stands : (file : List ℕ) (types at : ℕ) (code : RawCode) → types ≤ 65536 → Stands file at (code_bytes code) → CodeFits types code → length code.units < 4294967296
    → IsCode file types at code (code_total (Some code))
unfolding code_bytes code_item
code_stands file types at code few stand fit many =
    let h = code_head code in
    let u = flat_map u2_bytes code.units in
    let t = tries_bytes (length code.units) code.tries in
    let parts = stands_three file at h u t (stands_front file at (code_item code) (padding_of (length (code_item code))) stand) in
    let head = head_stands file types at code fit many parts.first in
    let here : at + length h ≡ at + 16 = omega (arith, head_length code) in
    let behind : at + length h + length u ≡ at + 16 + 2 * length code.units = omega (arith, head_length code, length_u2s code.units) in
    record {
      tried = sum_by try_cost code.tries;
      registers_is = head.registers;
      ins_is = head.ins;
      outs_is = head.outs;
      tries_is = head.tries;
      units_is = head.units;
      units = units_stand file (at + 16) code.units (stands_moved file (at + length h) (at + 16) u here parts.second) fit.units;
      tries = maybe_tries_stand file types (at + 16) (length code.units) code.tries few (stands_moved file (at + length h + length u) (at + 16 + 2 * length code.units) t behind parts.third) fit.tries fit.few;
      adds_is = refl;
    }

code_some : (code : RawCode) → 0 < length (code_bytes code)
unfolding code_bytes code_item
code_some code =
    let u = flat_map u2_bytes code.units in
    let t = tries_bytes (length code.units) code.tries in
    omega (arith, length-append (code_head code ++ u ++ t) (padding_of (length (code_item code))), length-append (code_head code ++ u) t, length-append (code_head code) u, head_length code)

pub maybe_code_stands : (file : List ℕ) (types at : ℕ) (code : Option RawCode) → types ≤ 65536 → 0 < at → Stands file at (maybe_code code) → IfSome code (CodeFits types) → code_units code < 4294967296
    → MaybeCode file types (offset_of at (maybe_code code)) code (code_total code)
maybe_code_stands file types at None few some stand fit many = (refl, refl)
maybe_code_stands file types at (Some code) few some stand fit many =
    rw (offset_some at (code_bytes code) (code_some code))
    (at_some at _ _ some (record { item = code; is = refl; stands = code_stands file types at code few stand fit many }))
