-- What is read of units at a place where some of them stand.
use Rattle.std.proofs.Common.{◌≡◌, ℕ, ◌+◌, ◌-◌, ◌*◌, ◌%◌, ◌<◌, ◌≤◌, false, List, ◌++◌, length, get_or, drop, refl, sym, ap, ◌∙◌, length-append, arith}
use Rattle.std.specs.Prelude.{ℤ, slice_index, ◌==◌, IsTrue}
use Rattle.std.specs.Int.{w32, w64, cast_unsigned}
use Rattle.std.specs.Int.RustNames.{FitsSigned}
use Rattle.std.proofs.lemmas.List.{get_or-drop, drop-drop, drop_at, get_or_past, length-drop}
use Rattle.std.proofs.lemmas.Bool.{ne_eqb}
use Rattle.dalvik_formats.specs.declared.format.Format.{Format}
use Rattle.dalvik_formats.specs.Layouts.{row_of, layout_of}
use Rattle.dex_maker.specs.Spelling.{unit_of, two_units, four_units}
use Rattle.dex_code.specs.declared.shape.Shape.{Shape}
use Rattle.dex_code.specs.declared.shape.Shape.TheVariants as shapes
use Rattle.dex_code.specs.declared.insn.Insn.{Insn}
use Rattle.dex_code.specs.Units.{long_at, int_at, wide_at}
use Rattle.dex_code.specs.Insns.{shape_of, shape_at, width_of, width_at, said_by, insn_at, is_used}
use Rattle.line_round_trip.specs.Decoding.{StandsAt}
use Rattle.line_round_trip.proofs.Numbers.{two_back, word_back, long_back}

-- a unit of a piece that begins there
pub unit_in : (units : List ℕ) (at k p : ℕ) (piece : List ℕ) → p ≡ at + k → drop at units ≡ piece → slice_index units p ≡ slice_index piece k
unit_in units at k p piece place here = ap (λ (i : ℕ). get_or units i 0) place ∙ sym (get_or-drop at units k 0) ∙ ap (λ (xs : List ℕ). get_or xs k 0) here

-- what stands behind a piece
pub behind : (units : List ℕ) (at n : ℕ) (piece rest : List ℕ) → length piece ≡ n → drop at units ≡ piece ++ rest → drop (at + n) units ≡ rest
behind units at n piece rest len here = sym (drop-drop n at units) ∙ ap (drop n) here ∙ drop_at piece rest n len

-- a number in two units
pub record TwoAt (units : List ℕ) (at n : ℕ) : Type 0 where
  pub low : slice_index units at ≡ unit_of n 1
  pub high : slice_index units (at + 1) ≡ unit_of n 65536

pub two_at : (units : List ℕ) (at n : ℕ) (rest : List ℕ) → drop at units ≡ two_units n ++ rest → TwoAt units at n
two_at units at n rest here = record {
  low = unit_in units at 0 at (two_units n ++ rest) (omega arith) here;
  high = unit_in units at 1 (at + 1) (two_units n ++ rest) refl here;
}

pub long_read : (units : List ℕ) (at n : ℕ) → n < 4294967296 → TwoAt units at n → long_at units at ≡ n
unfolding long_at
long_read units at n lt two = rw (two.low, two.high) (two_back n lt)

pub int_read : (units : List ℕ) (at : ℕ) (z : ℤ) → FitsSigned w32 z → TwoAt units at (cast_unsigned w64 z) → int_at units at ≡ z
unfolding int_at long_at
int_read units at z fits two = rw (two.low, two.high) (word_back z fits)

pub wide_read : (units : List ℕ) (at : ℕ) (z : ℤ) (rest : List ℕ) → FitsSigned w64 z → drop at units ≡ four_units (cast_unsigned w64 z) ++ rest → wide_at units at ≡ z
unfolding wide_at long_at
wide_read units at z rest fits here =
    let four : List ℕ = four_units (cast_unsigned w64 z) ++ rest in
    let a = unit_in units at 0 at four (omega arith) here in
    let b = unit_in units at 1 (at + 1) four refl here in
    let c = unit_in units at 2 (at + 2) four refl here in
    let d = unit_in units at 3 (at + 2 + 1) four (omega arith) here in
    rw (a, b, c, d) (long_back z fits)

-- a unit is not that of a payload where its low byte is an opcode other than 0, or where it is 0
not_payload : (u op k : ℕ) → u % 256 ≡ op → (op ≡ 0 → u ≡ 0) → k % 256 ≡ 0 → 0 < k → (u == k) ≡ false
not_payload u op k low nop round some = ne_eqb u k (λ e.
    let low_zero : op ≡ 0 = sym low ∙ ap (λ (n : ℕ). n % 256) e ∙ round in
    let all_zero : u ≡ 0 = nop low_zero in
    absurd (omega (arith, e, all_zero, some)))

-- it begins an instruction of that opcode's format
pub shape_by : (u op : ℕ) (format : Format) → layout_of op ≡ format → u % 256 ≡ op → (op ≡ 0 → u ≡ 0) → shape_of u ≡ shapes.Instruction format
unfolding shape_of
shape_by u op format e low nop =
    let packed = not_payload u op 256 low nop refl (omega arith) in
    let sparse = not_payload u op 512 low nop refl (omega arith) in
    let filled = not_payload u op 768 low nop refl (omega arith) in
    rw (packed, sparse, filled, low, e) refl

-- What stands at a place where a piece begins, and that the rest stands behind it.
pub record Passes (units : List ℕ) (at width : ℕ) (insn : Insn) (rest : List ℕ) : Type 0 where
  pub stands : StandsAt units at width insn
  pub next : drop (at + width) units ≡ rest

pub passes_by : (units : List ℕ) (at width : ℕ) (shape : Shape) (insn : Insn) (piece rest : List ℕ) → drop at units ≡ piece ++ rest → length piece ≡ width → 0 < width
    → shape_of (slice_index units at) ≡ shape → IsTrue (is_used shape) → width_of shape units at ≡ width → said_by shape units at ≡ insn → Passes units at width insn rest
unfolding shape_at width_at insn_at
passes_by units at width shape insn piece rest here len some is used wide says =
    let all : length units - at ≡ width + length rest = sym (length-drop at units) ∙ ap length here ∙ length-append piece rest ∙ ap (λ (n : ℕ). n + length rest) len in
    record {
      stands = record { some = some; used = rw is used; wide = rw is wide; whole = omega (arith, all, some); says = rw is says };
      next = behind units at width piece rest len here;
    }

-- Whatever is read of a unit, it is one unit wide at least, and behind the last unit a nop of one is read.
pub one_behind : (units : List ℕ) (at : ℕ) → length units ≤ at → width_at units at ≡ 1
unfolding width_at shape_at shape_of layout_of row_of
one_behind units at le = rw (get_or_past units at 0 le) refl
