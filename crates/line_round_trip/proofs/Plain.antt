-- Instructions are read as they were written, format by format.
use Rattle.std.proofs.Common.{◌≡◌, ℕ, zero, suc, ltb, ◌+◌, ◌*◌, ◌/◌, ◌%◌, ◌<◌, ◌≤◌, Bool, true, false, List, [], ◌∷◌, ◌++◌, length, take, drop, Option, Some, None, refl, sym, ap, true≢false, ◌∙◌, arith}
use Rattle.std.specs.Prelude.{ℤ, pos, ◌-ℤ◌, slice_index, nat_lt, nat_le, ◌==◌, ◌&&◌, IsTrue}
use Rattle.std.specs.Int.{w64, cast_unsigned}
use Rattle.std.specs.Int.RustNames.{FitsSigned}
use Rattle.std.specs.List.{AllByRecursion, list_all}
use Rattle.std.proofs.lemmas.Bool.{and_parts, ltb-true, leb-true}
use Rattle.vet_base.proofs.Lists.{list_all-get_or}
use Rattle.dalvik_formats.specs.declared.format.Format.{Format}
use Rattle.dalvik_formats.specs.declared.format.Format.TheVariants.{Unused, F10x, F12x, F11n, F11x, F10t, F20t, F22x, F21t, F21s, F21h, F21c, F23x, F22b, F22t, F22s, F22c, F32x, F30t, F31t, F31i, F31c, F35c, F3rc, F51l}
use Rattle.dalvik_formats.specs.Layouts.{row_of, layout_of, units_of}
use Rattle.dex_maker.specs.Codes.{target_bits}
use Rattle.dex_maker.specs.Fits.{all_below, registers_fit, literal_fits, reach_of, target_fits, is_line, reaches}
use Rattle.dex_maker.specs.Payloads.{distance_bits}
use Rattle.dex_maker.specs.Spelling.{unit_of, with_byte, with_halves, two_units, four_units, four_halves, plain_units}
use Rattle.dex_code.specs.declared.insn.Insn.{Insn}
use Rattle.dex_code.specs.declared.shape.Shape.TheVariants as shapes
use Rattle.dex_code.specs.Units.{third_nibble, fourth_nibble, signed, int_at, target_of}
use Rattle.dex_code.specs.Insns.{shape_of, said_with, is_used, five}
use Rattle.line_round_trip.specs.Said.{plain_insn, target_pc}
use Rattle.line_round_trip.proofs.Numbers.{Halves, halves_back, low_half_back, Bytes, bytes_back, byte_back, low_byte_back, under_back, four_back, unit_back, nibble_back, short_back, sixteen_back, fits_word, target_back}
use Rattle.line_round_trip.proofs.Units.{unit_in, behind, two_at, long_read, int_read, wide_read, shape_by, Passes, passes_by}

-- opcode 0 is a nop
abbrev is_10x : Format → Bool
is_10x F10x = true
is_10x format = false

not_nop : (op : ℕ) (format : Format) → layout_of op ≡ format → is_10x format ≡ false → op ≡ 0 → ⊥
unfolding layout_of row_of
not_nop op format e other first =
    let nop : true ≡ is_10x (layout_of op) = ap (λ (n : ℕ). is_10x (layout_of n)) (sym first) in
    let same : is_10x (layout_of op) ≡ is_10x format = ap is_10x e in
    true≢false (nop ∙ same ∙ other)

-- each of the registers is below the limit, and a register that is not there reads as 0
register : (limit k : ℕ) (r : List ℕ) → ltb 0 limit ≡ true → IsTrue (all_below limit r) → slice_index r k < limit
register limit k r some all = ltb-true (slice_index r k) limit (list_all-get_or (λ (x : ℕ). nat_lt x limit) r k 0 all some)

counted : (limit n k : ℕ) (r : List ℕ) → ltb 0 limit ≡ true → IsTrue ((length r == n) && all_below limit r) → slice_index r k < limit
counted limit n k r some h = register limit k r some (and_parts (length r == n) (all_below limit r) h).1

-- the one register of two that shares a unit with the opcode
of_two : (k : ℕ) (r : List ℕ) → IsTrue ((length r == 2) && nat_lt (slice_index r k) 256) → slice_index r k < 256
of_two k r h = ltb-true (slice_index r k) 256 (and_parts (length r == 2) (nat_lt (slice_index r k) 256) h).1

of_unit : (k : ℕ) (r : List ℕ) → AllByRecursion (λ x. x < 65536) r → slice_index r k < 65536
of_unit k [] all = omega arith
of_unit zero (x ∷ r) all = all.0
of_unit (suc k) (x ∷ r) all = of_unit k r all.1

-- up to five registers
front_five : (r : List ℕ) → length r ≤ 5 → take (length r) (slice_index r 0 ∷ slice_index r 1 ∷ slice_index r 2 ∷ slice_index r 3 ∷ slice_index r 4 ∷ []) ≡ r
front_five [] le = refl
front_five (a ∷ []) le = refl
front_five (a ∷ b ∷ []) le = refl
front_five (a ∷ b ∷ c ∷ []) le = refl
front_five (a ∷ b ∷ c ∷ d ∷ []) le = refl
front_five (a ∷ b ∷ c ∷ d ∷ e ∷ []) le = refl
front_five (a ∷ b ∷ c ∷ d ∷ e ∷ f ∷ r) le = absurd (omega (arith, le))

arguments_back : (u w op : ℕ) (r : List ℕ) → u ≡ with_halves op (slice_index r 4) (length r) → w ≡ four_halves (slice_index r 0) (slice_index r 1) (slice_index r 2) (slice_index r 3) → op < 256
    → IsTrue (nat_le (length r) 5 && all_below 16 r) → (u % 256 ≡ op) × (take (fourth_nibble u) (five u w) ≡ r)
arguments_back u w op r u-is w-is o h =
    let parts = and_parts (nat_le (length r) 5) (all_below 16 r) h in
    let few : length r ≤ 5 = leb-true (length r) 5 parts.0 in
    let below = λ (k : ℕ). register 16 k r refl parts.1 in
    let a = halves_back u op (slice_index r 4) (length r) u-is o (below 4) (omega (arith, few)) in
    let f = four_back w (slice_index r 0) (slice_index r 1) (slice_index r 2) (slice_index r 3) w-is (below 0) (below 1) (below 2) (below 3) in
    (a.opcode, rw (a.fourth, a.third, f.first, f.second, f.third, f.fourth) (front_five r few))

-- where targets lead, for a method whose lines begin at these starts
module _ (starts : List ℕ) (count at : ℕ) (small : (k : ℕ) → slice_index starts k < 4294967296) where
  abbrev far : ℕ → ℤ
  far line = pos (slice_index starts line) -ℤ pos at

  reached : (half line : ℕ) → IsTrue (target_fits (Some half) count starts at (Some line)) → IsTrue (reaches half starts at line)
  reached half line h = (and_parts (is_line count line) (reaches half starts at line) h).1

  byte_target : (target : Option ℕ) → IsTrue (target_fits (Some 128) count starts at target) → target_of at (signed 128 (target_bits starts at target % 256)) ≡ target_pc starts target
  unfolding distance_bits
  byte_target None h = absurd cc
  byte_target (Some line) h = target_back (slice_index starts line) at _ (small line) (short_back (far line) (reached 128 line h))

  unit_target : (target : Option ℕ) → IsTrue (target_fits (Some 32768) count starts at target) → target_of at (signed 32768 (unit_of (target_bits starts at target) 1)) ≡ target_pc starts target
  unfolding distance_bits
  unit_target None h = absurd cc
  unit_target (Some line) h = target_back (slice_index starts line) at _ (small line) (sixteen_back (far line) (reached 32768 line h))

  two_target : (units rest : List ℕ) (target : Option ℕ) → IsTrue (target_fits (Some 2147483648) count starts at target) → drop (at + 1) units ≡ two_units (target_bits starts at target) ++ rest
      → target_of at (int_at units (at + 1)) ≡ target_pc starts target
  unfolding distance_bits
  two_target units rest None h here = absurd cc
  two_target units rest (Some line) h here =
      target_back (slice_index starts line) at _ (small line) (int_read units (at + 1) (far line) (fits_word (far line) (reached 2147483648 line h)) (two_at units (at + 1) (cast_unsigned w64 (far line)) rest here))

-- the numbers of an instruction are in their ranges, and lines begin at numbers of 32 bits
pub record InRange (starts r : List ℕ) (op index : ℕ) (z : ℤ) : Type 0 where
  pub small : (k : ℕ) → slice_index starts k < 4294967296
  pub opcode : op < 256
  pub registers : AllByRecursion (λ x. x < 65536) r
  pub literal : FitsSigned w64 z
  pub index_fits : index < 65536

-- what stands at a place is read as this instruction of the format, and the piece has as many units
record Reads (units piece : List ℕ) (at : ℕ) (format : Format) (insn : Insn) : Type 0 where
  shape : shape_of (slice_index units at) ≡ shapes.Instruction format
  says : said_with (slice_index units at) (slice_index units (at + 1)) format units at ≡ insn
  width : length piece ≡ units_of format
  used : IsTrue (is_used (shapes.Instruction format) && nat_lt 0 (units_of format))

module _ (units rest starts r : List ℕ) (at op index count : ℕ) (z : ℤ) (target : Option ℕ) (given : InRange starts r op index z) where
  abbrev piece : Format → List ℕ
  piece format = plain_units format op r (cast_unsigned w64 z) index (target_bits starts at target)

  first : (format : Format) → drop at units ≡ piece format ++ rest → slice_index units at ≡ slice_index (piece format ++ rest) 0
  first format here = unit_in units at 0 at (piece format ++ rest) (omega arith) here

  second : (format : Format) → drop at units ≡ piece format ++ rest → slice_index units (at + 1) ≡ slice_index (piece format ++ rest) 1
  second format here = unit_in units at 1 (at + 1) (piece format ++ rest) refl here

  third : (format : Format) → drop at units ≡ piece format ++ rest → slice_index units (at + 2) ≡ slice_index (piece format ++ rest) 2
  third format here = unit_in units at 2 (at + 2) (piece format ++ rest) refl here

  -- the shape, where the opcode is not that of a nop
  shaped : (format : Format) → layout_of op ≡ format → is_10x format ≡ false → slice_index units at % 256 ≡ op → shape_of (slice_index units at) ≡ shapes.Instruction format
  shaped format e other low = shape_by (slice_index units at) op format e low (λ nop. absurd (not_nop op format e other nop))

  alone : slice_index units at ≡ op → slice_index units at % 256 ≡ op
  alone e = omega (arith, e, given.opcode)

  -- a byte with the opcode, or two halves of one
  with_high : (n k : ℕ) → slice_index units at ≡ with_byte op (slice_index r k) → IsTrue ((length r == n) && all_below 256 r) → Bytes (slice_index units at) op (slice_index r k)
  with_high n k e h = byte_back (slice_index units at) op (slice_index r k) e given.opcode (counted 256 n k r refl h)

  with_both : slice_index units at ≡ with_halves op (slice_index r 0) (slice_index r 1) → IsTrue ((length r == 2) && all_below 16 r) → Halves (slice_index units at) op (slice_index r 0) (slice_index r 1)
  with_both e h = halves_back (slice_index units at) op (slice_index r 0) (slice_index r 1) e given.opcode (counted 16 2 0 r refl h) (counted 16 2 1 r refl h)

  plain_reads : (format : Format) → layout_of op ≡ format → IsTrue (registers_fit format r) → IsTrue (literal_fits format z) → IsTrue (target_fits (reach_of format) count starts at target)
      → drop at units ≡ piece format ++ rest → Reads units (piece format) at format (plain_insn format op r z index (target_pc starts target))
  unfolding plain_units
  plain_reads Unused e g l t here = absurd cc
  plain_reads F10x e g l t here =
      let u = first F10x here in
      record { shape = shape_by (slice_index units at) op F10x e (alone u) (λ nop. u ∙ nop); says = rw (alone u) refl; width = refl; used = refl }
  plain_reads F12x e g l t here =
      let h = with_both (first F12x here) g in
      record { shape = shaped F12x e refl h.opcode; says = rw (h.opcode, h.third, h.fourth) refl; width = refl; used = refl }
  plain_reads F11n e g l t here =
      let h = low_half_back (slice_index units at) op (slice_index r 0) (cast_unsigned w64 z) (first F11n here) given.opcode (counted 16 1 0 r refl g) in
      record { shape = shaped F11n e refl h.opcode; says = rw (h.opcode, h.third, h.fourth, nibble_back z l) refl; width = refl; used = refl }
  plain_reads F11x e g l t here =
      let b = with_high 1 0 (first F11x here) g in
      record { shape = shaped F11x e refl b.low; says = rw (b.low, b.high) refl; width = refl; used = refl }
  plain_reads F10t e g l t here =
      let b = low_byte_back (slice_index units at) op (target_bits starts at target) (first F10t here) given.opcode in
      record { shape = shaped F10t e refl b.low; says = rw (b.low, b.high, byte_target starts count at given.small target t) refl; width = refl; used = refl }
  plain_reads F20t e g l t here =
      let low = alone (first F20t here) in
      record { shape = shaped F20t e refl low; says = rw (low, second F20t here, unit_target starts count at given.small target t) refl; width = refl; used = refl }
  plain_reads F22x e g l t here =
      let b = byte_back (slice_index units at) op (slice_index r 0) (first F22x here) given.opcode (of_two 0 r g) in
      record { shape = shaped F22x e refl b.low; says = rw (b.low, b.high, second F22x here, unit_back (slice_index r 1) (of_unit 1 r given.registers)) refl; width = refl; used = refl }
  plain_reads F21t e g l t here =
      let b = with_high 1 0 (first F21t here) g in
      record { shape = shaped F21t e refl b.low; says = rw (b.low, b.high, second F21t here, unit_target starts count at given.small target t) refl; width = refl; used = refl }
  plain_reads F21s e g l t here =
      let b = with_high 1 0 (first F21s here) g in
      record { shape = shaped F21s e refl b.low; says = rw (b.low, b.high, second F21s here, sixteen_back z l) refl; width = refl; used = refl }
  plain_reads F21h e g l t here =
      let b = with_high 1 0 (first F21h here) g in
      record { shape = shaped F21h e refl b.low; says = rw (b.low, b.high, second F21h here, sixteen_back z l) refl; width = refl; used = refl }
  plain_reads (F21c pool) e g l t here =
      let b = with_high 1 0 (first (F21c pool) here) g in
      record { shape = shaped (F21c pool) e refl b.low; says = rw (b.low, b.high, second (F21c pool) here, unit_back index given.index_fits) refl; width = refl; used = refl }
  plain_reads F23x e g l t here =
      let b = with_high 3 0 (first F23x here) g in
      let c = bytes_back (slice_index units (at + 1)) (slice_index r 1) (slice_index r 2) (second F23x here) (counted 256 3 1 r refl g) (counted 256 3 2 r refl g) in
      record { shape = shaped F23x e refl b.low; says = rw (b.low, b.high, c.low, c.high) refl; width = refl; used = refl }
  plain_reads F22b e g l t here =
      let b = with_high 2 0 (first F22b here) g in
      let c = under_back (slice_index units (at + 1)) (slice_index r 1) (cast_unsigned w64 z) (second F22b here) (counted 256 2 1 r refl g) in
      record { shape = shaped F22b e refl b.low; says = rw (b.low, b.high, c.low, c.high, short_back z l) refl; width = refl; used = refl }
  plain_reads F22t e g l t here =
      let h = with_both (first F22t here) g in
      record { shape = shaped F22t e refl h.opcode; says = rw (h.opcode, h.third, h.fourth, second F22t here, unit_target starts count at given.small target t) refl; width = refl; used = refl }
  plain_reads F22s e g l t here =
      let h = with_both (first F22s here) g in
      record { shape = shaped F22s e refl h.opcode; says = rw (h.opcode, h.third, h.fourth, second F22s here, sixteen_back z l) refl; width = refl; used = refl }
  plain_reads (F22c pool) e g l t here =
      let h = with_both (first (F22c pool) here) g in
      record { shape = shaped (F22c pool) e refl h.opcode; says = rw (h.opcode, h.third, h.fourth, second (F22c pool) here, unit_back index given.index_fits) refl; width = refl; used = refl }
  plain_reads F32x e g l t here =
      let low = alone (first F32x here) in
      let a = second F32x here ∙ unit_back (slice_index r 0) (of_unit 0 r given.registers) in
      let b = third F32x here ∙ unit_back (slice_index r 1) (of_unit 1 r given.registers) in
      record { shape = shaped F32x e refl low; says = rw (low, a, b) refl; width = refl; used = refl }
  plain_reads F30t e g l t here =
      let low = alone (first F30t here) in
      let next = behind units at 1 (op ∷ []) (two_units (target_bits starts at target) ++ rest) refl here in
      record { shape = shaped F30t e refl low; says = rw (low, two_target starts count at given.small units rest target t next) refl; width = refl; used = refl }
  plain_reads F31t e g l t here =
      let b = with_high 1 0 (first F31t here) g in
      let next = behind units at 1 (with_byte op (slice_index r 0) ∷ []) (two_units (target_bits starts at target) ++ rest) refl here in
      record { shape = shaped F31t e refl b.low; says = rw (b.low, b.high, two_target starts count at given.small units rest target t next) refl; width = refl; used = refl }
  plain_reads F31i e g l t here =
      let b = with_high 1 0 (first F31i here) g in
      let next = behind units at 1 (with_byte op (slice_index r 0) ∷ []) (two_units (cast_unsigned w64 z) ++ rest) refl here in
      let literal = int_read units (at + 1) z (fits_word z l) (two_at units (at + 1) (cast_unsigned w64 z) rest next) in
      record { shape = shaped F31i e refl b.low; says = rw (b.low, b.high, literal) refl; width = refl; used = refl }
  plain_reads F31c e g l t here =
      let b = with_high 1 0 (first F31c here) g in
      let next = behind units at 1 (with_byte op (slice_index r 0) ∷ []) (two_units index ++ rest) refl here in
      let number = long_read units (at + 1) index (omega (arith, given.index_fits)) (two_at units (at + 1) index rest next) in
      record { shape = shaped F31c e refl b.low; says = rw (b.low, b.high, number) refl; width = refl; used = refl }
  plain_reads (F35c pool) e g l t here =
      let args = arguments_back (slice_index units at) (slice_index units (at + 2)) op r (first (F35c pool) here) (third (F35c pool) here) given.opcode g in
      record { shape = shaped (F35c pool) e refl args.0; says = rw (args.0, second (F35c pool) here, unit_back index given.index_fits, args.1) refl; width = refl; used = refl }
  plain_reads (F3rc pool) e g l t here =
      let b = byte_back (slice_index units at) op (slice_index r 1) (first (F3rc pool) here) given.opcode (of_two 1 r g) in
      let from = third (F3rc pool) here ∙ unit_back (slice_index r 0) (of_unit 0 r given.registers) in
      record { shape = shaped (F3rc pool) e refl b.low; says = rw (b.low, b.high, second (F3rc pool) here, unit_back index given.index_fits, from) refl; width = refl; used = refl }
  plain_reads F51l e g l t here =
      let b = with_high 1 0 (first F51l here) g in
      let next = behind units at 1 (with_byte op (slice_index r 0) ∷ []) (four_units (cast_unsigned w64 z) ++ rest) refl here in
      record { shape = shaped F51l e refl b.low; says = rw (b.low, b.high, wide_read units (at + 1) z rest given.literal next) refl; width = refl; used = refl }

  -- so it stands there
  pub plain_passes : (format : Format) → layout_of op ≡ format → IsTrue (registers_fit format r) → IsTrue (literal_fits format z) → IsTrue (target_fits (reach_of format) count starts at target)
      → drop at units ≡ plain_units format op r (cast_unsigned w64 z) index (target_bits starts at target) ++ rest → Passes units at (units_of format) (plain_insn format op r z index (target_pc starts target)) rest
  plain_passes format e g l t here =
      let reads = plain_reads format e g l t here in
      let parts = and_parts (is_used (shapes.Instruction format)) (nat_lt 0 (units_of format)) reads.used in
      passes_by units at (units_of format) (shapes.Instruction format) (plain_insn format op r z index (target_pc starts target)) (piece format) rest here reads.width (ltb-true 0 (units_of format) parts.1)
      reads.shape parts.0 refl reads.says
