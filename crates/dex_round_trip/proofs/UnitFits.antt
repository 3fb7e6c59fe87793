-- The units of a listing's code: each is a number of two bytes, and a line takes as many as its width says.
use Rattle.std.proofs.Common.{◌≡◌, ℕ, zero, suc, ◌+◌, ◌*◌, ◌/◌, ◌%◌, ◌<◌, ◌≤◌, List, [], ◌∷◌, ◌++◌, length, get_or, refl, length-append, arith}
use Rattle.std.specs.Prelude.{ℤ, slice_index}
use Rattle.std.specs.Int.{w64, cast_unsigned}
use Rattle.std.specs.List.{AllByRecursion, flat_map}
use Rattle.std.proofs.lemmas.List.Sums.{sum_by-cons}
use Rattle.dalvik_formats.specs.declared.format.Format.{Format}
use Rattle.dalvik_formats.specs.declared.format.Format.TheVariants.{Unused, F10x, F12x, F11n, F11x, F10t, F20t, F22x, F21t, F21s, F21h, F21c, F23x, F22b, F22t, F22s, F22c, F32x, F30t, F31t, F31i, F31c, F35c, F3rc, F51l}
use Rattle.dalvik_formats.specs.declared.format.Pool.TheVariants.{Methods}
use Rattle.dalvik_formats.specs.Layouts.{layout_of, units_of}
use Rattle.dex_writer.specs.declared.tables.Tables.{Tables}
use Rattle.dex_maker.specs.declared.listing.ListedLine.{ListedLine}
use Rattle.dex_maker.specs.declared.listing.ListedLine.TheVariants.{Plain, Packed, Sparse, Filled}
use Rattle.dex_maker.specs.Spelling.{unit_of, with_byte, with_halves, two_units, four_halves, plain_units}
use Rattle.dex_maker.specs.Payloads.{distance_bits, packed_units, pair_key, pair_target, sparse_units, byte_units, element_count, filled_units}
use Rattle.dex_maker.specs.Lines.{width_of, width_sum, starts_from}
use Rattle.dex_maker.specs.Codes.{index_for, target_bits, line_units, units_from, call_arguments, arguments_of, outs_of}
use Rattle.dex_round_trip.specs.Listings.{LineCanBeRead}

abbrev pub Short : List ℕ → Type 0
Short units = AllByRecursion (λ u. u < 65536) units

short_append : (xs ys : List ℕ) → Short xs → Short ys → Short (xs ++ ys)
short_append [] ys a b = b
short_append (x ∷ xs) ys a b = (a.0, short_append xs ys a.1 b)

unit_short : (n v : ℕ) → unit_of n v < 65536
unit_short n v = omega arith

byte_short : (op a : ℕ) → op < 256 → with_byte op a < 65536
byte_short op a lt = omega arith

halves_short : (op a b : ℕ) → op < 256 → with_halves op a b < 65536
halves_short op a b lt = omega arith

four_short : (a b c d : ℕ) → four_halves a b c d < 65536
four_short a b c d = omega arith

two_short : (n : ℕ) → Short (two_units n)
two_short n = (unit_short n 1, (unit_short n 65536, tt))

plain_short : (format : Format) (op : ℕ) (r : List ℕ) (literal index distance : ℕ) → op < 256 → Short (plain_units format op r literal index distance)
unfolding plain_units
plain_short Unused op r literal index distance lt = (omega arith, tt)
plain_short F10x op r literal index distance lt = (omega arith, tt)
plain_short F12x op r literal index distance lt = (halves_short op (slice_index r 0) (slice_index r 1) lt, tt)
plain_short F11n op r literal index distance lt = (halves_short op (slice_index r 0) literal lt, tt)
plain_short F11x op r literal index distance lt = (byte_short op (slice_index r 0) lt, tt)
plain_short F10t op r literal index distance lt = (byte_short op distance lt, tt)
plain_short F20t op r literal index distance lt = (omega arith, (unit_short distance 1, tt))
plain_short F22x op r literal index distance lt = (byte_short op (slice_index r 0) lt, (unit_short (slice_index r 1) 1, tt))
plain_short F21t op r literal index distance lt = (byte_short op (slice_index r 0) lt, (unit_short distance 1, tt))
plain_short F21s op r literal index distance lt = (byte_short op (slice_index r 0) lt, (unit_short literal 1, tt))
plain_short F21h op r literal index distance lt = (byte_short op (slice_index r 0) lt, (unit_short literal 1, tt))
plain_short (F21c pool) op r literal index distance lt = (byte_short op (slice_index r 0) lt, (unit_short index 1, tt))
plain_short F23x op r literal index distance lt = (byte_short op (slice_index r 0) lt, (byte_short (slice_index r 1 % 256) (slice_index r 2) (omega arith), tt))
plain_short F22b op r literal index distance lt = (byte_short op (slice_index r 0) lt, (byte_short (slice_index r 1 % 256) literal (omega arith), tt))
plain_short F22t op r literal index distance lt = (halves_short op (slice_index r 0) (slice_index r 1) lt, (unit_short distance 1, tt))
plain_short F22s op r literal index distance lt = (halves_short op (slice_index r 0) (slice_index r 1) lt, (unit_short literal 1, tt))
plain_short (F22c pool) op r literal index distance lt = (halves_short op (slice_index r 0) (slice_index r 1) lt, (unit_short index 1, tt))
plain_short F32x op r literal index distance lt = (omega arith, (unit_short (slice_index r 0) 1, (unit_short (slice_index r 1) 1, tt)))
plain_short F30t op r literal index distance lt = (omega arith, two_short distance)
plain_short F31t op r literal index distance lt = (byte_short op (slice_index r 0) lt, two_short distance)
plain_short F31i op r literal index distance lt = (byte_short op (slice_index r 0) lt, two_short literal)
plain_short F31c op r literal index distance lt = (byte_short op (slice_index r 0) lt, two_short index)
plain_short (F35c pool) op r literal index distance lt = (halves_short op (slice_index r 4) (length r) lt, (unit_short index 1, (four_short (slice_index r 0) (slice_index r 1) (slice_index r 2) (slice_index r 3), tt)))
plain_short (F3rc pool) op r literal index distance lt = (byte_short op (slice_index r 1) lt, (unit_short index 1, (unit_short (slice_index r 0) 1, tt)))
plain_short F51l op r literal index distance lt = (byte_short op (slice_index r 0) lt, (unit_short literal 1, (unit_short literal 65536, (unit_short literal 4294967296, (unit_short literal 281474976710656, tt)))))

plain_width : (format : Format) (op : ℕ) (r : List ℕ) (literal index distance : ℕ) → length (plain_units format op r literal index distance) ≡ units_of format
unfolding plain_units
plain_width Unused op r literal index distance = refl
plain_width F10x op r literal index distance = refl
plain_width F12x op r literal index distance = refl
plain_width F11n op r literal index distance = refl
plain_width F11x op r literal index distance = refl
plain_width F10t op r literal index distance = refl
plain_width F20t op r literal index distance = refl
plain_width F22x op r literal index distance = refl
plain_width F21t op r literal index distance = refl
plain_width F21s op r literal index distance = refl
plain_width F21h op r literal index distance = refl
plain_width (F21c pool) op r literal index distance = refl
plain_width F23x op r literal index distance = refl
plain_width F22b op r literal index distance = refl
plain_width F22t op r literal index distance = refl
plain_width F22s op r literal index distance = refl
plain_width (F22c pool) op r literal index distance = refl
plain_width F32x op r literal index distance = refl
plain_width F30t op r literal index distance = refl
plain_width F31t op r literal index distance = refl
plain_width F31i op r literal index distance = refl
plain_width F31c op r literal index distance = refl
plain_width (F35c pool) op r literal index distance = refl
plain_width (F3rc pool) op r literal index distance = refl
plain_width F51l op r literal index distance = refl

twos_short : {X : Type 0} (f : X → ℕ) (xs : List X) → Short (flat_map (λ x. two_units (f x)) xs)
twos_short f [] = tt
twos_short f (x ∷ xs) = (unit_short (f x) 1, (unit_short (f x) 65536, twos_short f xs))

twos_width : {X : Type 0} (f : X → ℕ) (xs : List X) → length (flat_map (λ x. two_units (f x)) xs) ≡ 2 * length xs
twos_width f [] = omega arith
twos_width f (x ∷ xs) = let rest = twos_width f xs in omega arith

bytes_short : (bytes : List ℕ) → AllByRecursion (λ b. b < 256) bytes → Short (byte_units bytes)
bytes_short [] all = tt
bytes_short (a ∷ []) all = (omega (arith, all.0), tt)
bytes_short (a ∷ b ∷ bytes) all = (omega (arith, all.0, all.1.0), bytes_short bytes all.1.1)

bytes_width : (bytes : List ℕ) → length (byte_units bytes) ≡ (length bytes + 1) / 2
bytes_width [] = omega arith
bytes_width (a ∷ []) = omega arith
bytes_width (a ∷ b ∷ bytes) = let rest = bytes_width bytes in omega arith

packed_short : (starts : List ℕ) (at : ℕ) (key : ℤ) (targets : List ℕ) → Short (packed_units starts at key targets)
unfolding packed_units
packed_short starts at key targets = (omega arith, (unit_short (length targets) 1, (unit_short (cast_unsigned w64 key) 1, (unit_short (cast_unsigned w64 key) 65536, twos_short (distance_bits starts at) targets))))

packed_width : (starts : List ℕ) (at : ℕ) (key : ℤ) (targets : List ℕ) → length (packed_units starts at key targets) ≡ 4 + 2 * length targets
unfolding packed_units
packed_width starts at key targets = omega (arith, twos_width (distance_bits starts at) targets)

key_of : ℤ × ℕ → ℕ
key_of pair = cast_unsigned w64 pair.0

target_of : List ℕ → ℕ → ℤ × ℕ → ℕ
target_of starts at pair = distance_bits starts at pair.1

sparse_short : (starts : List ℕ) (at : ℕ) (pairs : List (ℤ × ℕ)) → Short (sparse_units starts at pairs)
unfolding sparse_units key_of target_of
sparse_short starts at pairs = (omega arith, (unit_short (length pairs) 1, short_append (flat_map pair_key pairs) (flat_map (pair_target starts at) pairs) (twos_short key_of pairs) (twos_short (target_of starts at) pairs)))

sparse_width : (starts : List ℕ) (at : ℕ) (pairs : List (ℤ × ℕ)) → length (sparse_units starts at pairs) ≡ 2 + 4 * length pairs
unfolding sparse_units key_of target_of
sparse_width starts at pairs =
    let keys : length (flat_map pair_key pairs) ≡ 2 * length pairs = twos_width key_of pairs in
    let targets : length (flat_map (pair_target starts at) pairs) ≡ 2 * length pairs = twos_width (target_of starts at) pairs in
    omega (arith, length-append (flat_map pair_key pairs) (flat_map (pair_target starts at) pairs))

filled_short : (width : ℕ) (bytes : List ℕ) → width < 65536 → AllByRecursion (λ b. b < 256) bytes → Short (filled_units width bytes)
unfolding filled_units
filled_short width bytes lt all = (omega arith, (lt, (unit_short (element_count width bytes) 1, (unit_short (element_count width bytes) 65536, bytes_short bytes all))))

filled_width : (width : ℕ) (bytes : List ℕ) → length (filled_units width bytes) ≡ 4 + (length bytes + 1) / 2
unfolding filled_units
filled_width width bytes = omega (arith, bytes_width bytes)

line_short : (t : Tables) (starts : List ℕ) (at : ℕ) (line : ListedLine) → LineCanBeRead line → Short (line_units t starts at line)
line_short t starts at (Plain opcode registers literal operand target) is = plain_short (layout_of opcode) opcode registers (cast_unsigned w64 literal) (index_for t operand) (target_bits starts at target) is.0
line_short t starts at (Packed switch first_key targets) is = packed_short starts (slice_index starts switch) first_key targets
line_short t starts at (Sparse switch pairs) is = sparse_short starts (slice_index starts switch) pairs
line_short t starts at (Filled width bytes) is = filled_short width bytes is.0 is.1

line_width : (t : Tables) (starts : List ℕ) (at : ℕ) (line : ListedLine) → length (line_units t starts at line) ≡ width_of line
line_width t starts at (Plain opcode registers literal operand target) = plain_width (layout_of opcode) opcode registers (cast_unsigned w64 literal) (index_for t operand) (target_bits starts at target)
line_width t starts at (Packed switch first_key targets) = packed_width starts (slice_index starts switch) first_key targets
line_width t starts at (Sparse switch pairs) = sparse_width starts (slice_index starts switch) pairs
line_width t starts at (Filled width bytes) = filled_width width bytes

pub units_short : (t : Tables) (starts : List ℕ) (at : ℕ) (lines : List ListedLine) → AllByRecursion LineCanBeRead lines → Short (units_from t starts at lines)
units_short t starts at [] are = tt
units_short t starts at (line ∷ lines) are = short_append (line_units t starts at line) (units_from t starts (at + width_of line) lines) (line_short t starts at line are.0) (units_short t starts (at + width_of line) lines are.1)

pub units_width : (t : Tables) (starts : List ℕ) (at : ℕ) (lines : List ListedLine) → length (units_from t starts at lines) ≡ width_sum lines
unfolding width_sum
units_width t starts at [] = refl
units_width t starts at (line ∷ lines) =
    omega (arith, length-append (line_units t starts at line) (units_from t starts (at + width_of line) lines), line_width t starts at line, units_width t starts (at + width_of line) lines, sum_by-cons width_of line lines)

-- ---- outs

arguments_short : (format : Format) (registers : List ℕ) → call_arguments format registers < 65536
arguments_short (F35c Methods) registers = unit_short (length registers) 1
arguments_short (F3rc Methods) registers = unit_short (slice_index registers 1) 1
arguments_short format registers = omega arith

line_arguments : (line : ListedLine) → arguments_of line < 65536
line_arguments (Plain opcode registers literal operand target) = arguments_short (layout_of opcode) registers
line_arguments (Packed switch first_key targets) = omega arith
line_arguments (Sparse switch pairs) = omega arith
line_arguments (Filled width bytes) = omega arith

pub outs_short : (lines : List ListedLine) → outs_of lines < 65536
outs_short [] = omega arith
outs_short (line ∷ lines) = omega (arith, line_arguments line, outs_short lines)

-- ---- where lines begin

starts_below : (at : ℕ) (lines : List ListedLine) (k : ℕ) → get_or (starts_from at lines) k 0 ≤ at + width_sum lines
unfolding width_sum
starts_below at [] zero = omega arith
starts_below at [] (suc k) = omega arith
starts_below at (line ∷ lines) zero = omega arith
starts_below at (line ∷ lines) (suc k) = omega (arith, starts_below (at + width_of line) lines k, sum_by-cons width_of line lines)

pub start_small : (lines : List ListedLine) (k : ℕ) → width_sum lines ≤ 8388608 → slice_index (starts_from 0 lines) k < 4294967296
start_small lines k le = omega (arith, starts_below 0 lines k)
