-- Numbers in units are read as they were written.
use Rattle.std.proofs.Common.{◌≡◌, ℕ, suc, ◌+◌, ◌-◌, ◌*◌, ◌/◌, ◌%◌, ◌<◌, ◌≤◌, refl, ap, ◌∙◌, arith}
use Rattle.std.specs.Prelude.{ℤ, pos, negsuc, ◌+ℤ◌, ◌-ℤ◌, IsTrue}
use Rattle.std.specs.Int.{w32, w64, cast_unsigned, cast_signed}
use Rattle.std.specs.Int.RustNames.{FitsSigned}
use Rattle.std.proofs.lemmas.Bool.{ltb-true, lt-ltb, le-ltb}
use Rattle.std.proofs.lemmas.Int.{ints, to_z-of_z}
use Rattle.dex_maker.specs.Fits.{is_within}
use Rattle.dex_maker.specs.Spelling.{unit_of, with_byte, with_halves, four_halves}
use Rattle.dex_code.specs.Units.{third_nibble, fourth_nibble, signed, pc_of, target_of}

-- an opcode with two halves of a byte above it, or with a byte
pub record Halves (u op a b : ℕ) : Type 0 where
  pub opcode : u % 256 ≡ op
  pub third : third_nibble u ≡ a
  pub fourth : fourth_nibble u ≡ b

pub halves_back : (u op a b : ℕ) → u ≡ with_halves op a b → op < 256 → a < 16 → b < 16 → Halves u op a b
halves_back u op a b e o x y = record { opcode = omega (arith, e, o, x, y); third = omega (arith, e, o, x, y); fourth = omega (arith, e, o, x, y) }

-- the same with the low bits of a number
pub low_half_back : (u op a n : ℕ) → u ≡ with_halves op a n → op < 256 → a < 16 → Halves u op a (n % 16)
low_half_back u op a n e o x = record { opcode = omega (arith, e, o, x); third = omega (arith, e, o, x); fourth = omega (arith, e, o, x) }

pub record Bytes (u low_byte high_byte : ℕ) : Type 0 where
  pub low : u % 256 ≡ low_byte
  pub high : u / 256 ≡ high_byte

pub byte_back : (u op a : ℕ) → u ≡ with_byte op a → op < 256 → a < 256 → Bytes u op a
byte_back u op a e o x = record { low = omega (arith, e, o, x); high = omega (arith, e, o, x) }

pub low_byte_back : (u op n : ℕ) → u ≡ with_byte op n → op < 256 → Bytes u op (n % 256)
low_byte_back u op n e o = record { low = omega (arith, e, o); high = omega (arith, e, o) }

-- two bytes, and a byte below the low bits of a number
pub bytes_back : (v b c : ℕ) → v ≡ with_byte (b % 256) c → b < 256 → c < 256 → Bytes v b c
bytes_back v b c e x y = record { low = omega (arith, e, x, y); high = omega (arith, e, x, y) }

pub under_back : (v b n : ℕ) → v ≡ with_byte (b % 256) n → b < 256 → Bytes v b (n % 256)
under_back v b n e x = record { low = omega (arith, e, x); high = omega (arith, e, x) }

pub record Four (w a b c d : ℕ) : Type 0 where
  pub first : w % 16 ≡ a
  pub second : (w / 16) % 16 ≡ b
  pub third : (w / 256) % 16 ≡ c
  pub fourth : w / 4096 ≡ d

pub four_back : (u a b c d : ℕ) → u ≡ four_halves a b c d → a < 16 → b < 16 → c < 16 → d < 16 → Four u a b c d
four_back u a b c d e x y z w = record { first = omega (arith, e, x, y, z, w); second = omega (arith, e, x, y, z, w); third = omega (arith, e, x, y, z, w); fourth = omega (arith, e, x, y, z, w) }

-- a number of one unit, and one of two
pub unit_back : (n : ℕ) → n < 65536 → unit_of n 1 ≡ n
unit_back n lt = omega (arith, lt)

pub two_back : (n : ℕ) → n < 4294967296 → unit_of n 1 + 65536 * unit_of n 65536 ≡ n
two_back n lt = omega (arith, lt)

-- a number with a sign, by the weight of the sign
signed_pos : (half n : ℕ) → n < half → signed half n ≡ pos n
unfolding signed
signed_pos half n lt = rw (lt-ltb n half lt) refl

signed_neg : (half v n : ℕ) → half ≤ v → v + suc n ≡ 2 * half → signed half v ≡ negsuc n
unfolding signed
signed_neg half v n le e = rw (le-ltb v half le) (omega (arith, ints, e))

pub nibble_back : (z : ℤ) → IsTrue (is_within 8 z) → signed 8 (cast_unsigned w64 z % 16) ≡ z
nibble_back (pos n) h =
    let lt : n < 8 = ltb-true n 8 h in
    let same : n % 16 ≡ n = omega (arith, lt) in
    rw same (signed_pos 8 n lt)
nibble_back (negsuc n) h =
    let lt : n < 8 = ltb-true n 8 h in
    signed_neg 8 (cast_unsigned w64 (negsuc n) % 16) n (omega (arith, lt)) (omega (arith, lt))

pub short_back : (z : ℤ) → IsTrue (is_within 128 z) → signed 128 (cast_unsigned w64 z % 256) ≡ z
short_back (pos n) h =
    let lt : n < 128 = ltb-true n 128 h in
    let same : n % 256 ≡ n = omega (arith, lt) in
    rw same (signed_pos 128 n lt)
short_back (negsuc n) h =
    let lt : n < 128 = ltb-true n 128 h in
    signed_neg 128 (cast_unsigned w64 (negsuc n) % 256) n (omega (arith, lt)) (omega (arith, lt))

pub sixteen_back : (z : ℤ) → IsTrue (is_within 32768 z) → signed 32768 (unit_of (cast_unsigned w64 z) 1) ≡ z
sixteen_back (pos n) h =
    let lt : n < 32768 = ltb-true n 32768 h in
    let same : unit_of n 1 ≡ n = omega (arith, lt) in
    rw same (signed_pos 32768 n lt)
sixteen_back (negsuc n) h =
    let lt : n < 32768 = ltb-true n 32768 h in
    signed_neg 32768 (unit_of (cast_unsigned w64 (negsuc n)) 1) n (omega (arith, lt)) (omega (arith, lt))

pub fits_word : (z : ℤ) → IsTrue (is_within 2147483648 z) → FitsSigned w32 z
fits_word (pos n) h = record { sfits = ltb-true n 2147483648 h }
fits_word (negsuc n) h = record { sfits = ltb-true n 2147483648 h }

-- the low 32 bits
low_word : (z : ℤ) → FitsSigned w32 z → unit_of (cast_unsigned w64 z) 1 + 65536 * unit_of (cast_unsigned w64 z) 65536 ≡ cast_unsigned w32 z
low_word (pos n) fits = let lt : n < 2147483648 = fits.sfits in omega (arith, lt)
low_word (negsuc n) fits = let lt : n < 2147483648 = fits.sfits in omega (arith, lt)

pub word_back : (z : ℤ) → FitsSigned w32 z → cast_signed w32 (unit_of (cast_unsigned w64 z) 1 + 65536 * unit_of (cast_unsigned w64 z) 65536) ≡ z
word_back z fits = ap (cast_signed w32) (low_word z fits) ∙ to_z-of_z w32 z fits

-- all 64 bits
four_units_back : (n : ℕ) → n < 18446744073709551616 → (unit_of n 1 + 65536 * unit_of n 65536) + 4294967296 * (unit_of n 4294967296 + 65536 * unit_of n 281474976710656) ≡ n
four_units_back n lt = omega (arith, lt)

wide_small : (z : ℤ) → FitsSigned w64 z → cast_unsigned w64 z < 18446744073709551616
wide_small (pos n) fits = let lt : n < 9223372036854775808 = fits.sfits in omega (arith, lt)
wide_small (negsuc n) fits = omega arith

pub long_back : (z : ℤ) → FitsSigned w64 z
    → cast_signed w64 ((unit_of (cast_unsigned w64 z) 1 + 65536 * unit_of (cast_unsigned w64 z) 65536) + 4294967296 * (unit_of (cast_unsigned w64 z) 4294967296 + 65536 * unit_of (cast_unsigned w64 z) 281474976710656)) ≡ z
long_back z fits = ap (cast_signed w64) (four_units_back (cast_unsigned w64 z) (wide_small z fits)) ∙ to_z-of_z w64 z fits

-- a distance leads to where it was taken
pc_pos : (s : ℕ) → s < 4294967296 → pc_of (pos s) ≡ s
unfolding pc_of
pc_pos s lt = rw (lt-ltb s 4294967296 lt) refl

pub target_back : (s at : ℕ) (d : ℤ) → s < 4294967296 → d ≡ pos s -ℤ pos at → target_of at d ≡ s
unfolding target_of
target_back s at d lt e =
    let there : pos at +ℤ d ≡ pos s = omega (arith, ints, e) in
    ap pc_of there ∙ pc_pos s lt
