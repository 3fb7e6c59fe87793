-- Whether a line fits its instruction's format ("Dalvik executable instruction format", "Dalvik bytecode").
use Rattle.std.specs.Prelude.{ℕ, ℤ, pos, negsuc, ◌-ℤ◌, ◌+◌, ◌%◌, List, [], ◌∷◌, length, slice_index, Bool, true, false, ◌==◌, ◌&&◌, nat_lt, nat_le, Option, Some, None, if◌then◌else◌}
use Rattle.std.specs.List.{list_all}
use Rattle.std.specs.Ordering.{int_eq}
use Rattle.dalvik_formats.specs.declared.format.Format.{Format}
use Rattle.dalvik_formats.specs.declared.format.Format.TheVariants.{Unused, F10x, F12x, F11n, F11x, F10t, F20t, F22x, F21t, F21s, F21h, F21c, F23x, F22b, F22t, F22s, F22c, F32x, F30t, F31t, F31i, F31c, F35c, F3rc, F51l}
use Rattle.dalvik_formats.specs.declared.format.Pool.{Pool}
use Rattle.dalvik_formats.specs.declared.format.Pool.TheVariants as pools
use Rattle.dalvik_formats.specs.Layouts.{layout_of}
use Rattle.dex_maker.specs.declared.listing.ListedLine.{ListedLine}
use Rattle.dex_maker.specs.declared.listing.ListedLine.TheVariants.{Plain, Packed, Sparse, Filled}
use Rattle.dex_maker.specs.declared.listing.ListedClass.{ListedClass}
use Rattle.dex_maker.specs.declared.listing.ListedMethod.{ListedMethod}
use Rattle.dex_maker.specs.declared.listing.ListedCode.{ListedCode}
use Rattle.dex_maker.specs.declared.listing.Operand.{Operand}
use Rattle.dex_maker.specs.declared.listing.Operand.TheVariants.{Nothing, Text, Class, Field, Method}
use Rattle.dex_maker.specs.Lines.{width_of, starts_from}

-- a number from - half to half - 1
abbrev pub is_within : ℕ → ℤ → Bool
is_within half (pos n) = nat_lt n half
is_within half (negsuc n) = nat_lt n half

abbrev pub all_below : ℕ → List ℕ → Bool
all_below limit registers = list_all (λ r. nat_lt r limit) registers

-- so many registers, and each below a limit
abbrev pub registers_fit : Format → List ℕ → Bool
registers_fit Unused r = false
registers_fit F10x r = length r == 0
registers_fit F10t r = length r == 0
registers_fit F20t r = length r == 0
registers_fit F30t r = length r == 0
registers_fit F11n r = length r == 1 && all_below 16 r
registers_fit F11x r = length r == 1 && all_below 256 r
registers_fit F21t r = length r == 1 && all_below 256 r
registers_fit F21s r = length r == 1 && all_below 256 r
registers_fit F21h r = length r == 1 && all_below 256 r
registers_fit (F21c pool) r = length r == 1 && all_below 256 r
registers_fit F31t r = length r == 1 && all_below 256 r
registers_fit F31i r = length r == 1 && all_below 256 r
registers_fit F31c r = length r == 1 && all_below 256 r
registers_fit F51l r = length r == 1 && all_below 256 r
registers_fit F12x r = length r == 2 && all_below 16 r
registers_fit F22t r = length r == 2 && all_below 16 r
registers_fit F22s r = length r == 2 && all_below 16 r
registers_fit (F22c pool) r = length r == 2 && all_below 16 r
registers_fit F22b r = length r == 2 && all_below 256 r
registers_fit F22x r = length r == 2 && nat_lt (slice_index r 0) 256
registers_fit F32x r = length r == 2
registers_fit F23x r = length r == 3 && all_below 256 r
registers_fit (F35c pool) r = nat_le (length r) 5 && all_below 16 r
registers_fit (F3rc pool) r = length r == 2 && nat_lt (slice_index r 1) 256

-- the range of the literal; a format without one has 0 in its place
abbrev pub literal_fits : Format → ℤ → Bool
literal_fits F11n z = is_within 8 z
literal_fits F22b z = is_within 128 z
literal_fits F21s z = is_within 32768 z
literal_fits F21h z = is_within 32768 z
literal_fits F22s z = is_within 32768 z
literal_fits F31i z = is_within 2147483648 z
literal_fits F51l z = true
literal_fits format z = int_eq z (pos 0)

-- what the index names
abbrev pub is_text : Operand → Bool
is_text (Text text) = true
is_text operand = false

abbrev pub is_class : Operand → Bool
is_class (Class class) = true
is_class operand = false

abbrev pub is_field : Operand → Bool
is_field (Field class name kind) = true
is_field operand = false

abbrev pub is_method : Operand → Bool
is_method (Method class name params ret) = true
is_method operand = false

abbrev pub is_nothing : Operand → Bool
is_nothing Nothing = true
is_nothing operand = false

abbrev pub names_in : Pool → Operand → Bool
names_in pools.Strings operand = is_text operand
names_in pools.Types operand = is_class operand
names_in pools.Fields operand = is_field operand
names_in pools.Methods operand = is_method operand

abbrev pub operand_fits : Format → Operand → Bool
operand_fits (F21c pool) operand = names_in pool operand
operand_fits (F22c pool) operand = names_in pool operand
operand_fits (F35c pool) operand = names_in pool operand
operand_fits (F3rc pool) operand = names_in pool operand
operand_fits F31c operand = is_text operand
operand_fits format operand = is_nothing operand

-- how far a branch reaches, as for is_within
abbrev pub reach_of : Format → Option ℕ
reach_of F10t = Some 128
reach_of F20t = Some 32768
reach_of F21t = Some 32768
reach_of F22t = Some 32768
reach_of F30t = Some 2147483648
reach_of F31t = Some 2147483648
reach_of format = None

-- One of so many lines, which begin at these starts, and how far it is there from a unit.
abbrev pub is_line : ℕ → ℕ → Bool
is_line count line = nat_lt line count

abbrev pub reaches : ℕ → List ℕ → ℕ → ℕ → Bool
reaches half starts at line = is_within half (pos (slice_index starts line) -ℤ pos at)

abbrev pub target_fits : Option ℕ → ℕ → List ℕ → ℕ → Option ℕ → Bool
target_fits None count starts at None = true
target_fits None count starts at (Some line) = false
target_fits (Some half) count starts at None = false
target_fits (Some half) count starts at (Some line) = is_line count line && reaches half starts at line

abbrev pub pair_stands : ℕ → ℤ × ℕ → Bool
pair_stands count pair = is_line count pair.1

abbrev pub elements_fit : ℕ → ℕ → Bool
elements_fit width len = if width == 0 then len == 0 else len % width == 0

-- a line of so many, which begins at that unit
unfoldable pub line_fits : ℕ → List ℕ → ℕ → ListedLine → Bool
line_fits count starts at (Plain opcode registers literal operand target) = registers_fit (layout_of opcode) registers && literal_fits (layout_of opcode) literal
    && operand_fits (layout_of opcode) operand && target_fits (reach_of (layout_of opcode)) count starts at target
line_fits count starts at (Packed switch first_key targets) = is_line count switch && nat_lt (length targets) 65536 && list_all (is_line count) targets
line_fits count starts at (Sparse switch pairs) = is_line count switch && nat_lt (length pairs) 65536 && list_all (pair_stands count) pairs
line_fits count starts at (Filled width bytes) = elements_fit width (length bytes)

-- the number of the first line that does not fit, where the first of these has the number i
abbrev pub misfit_from : ℕ → List ℕ → ℕ → ℕ → List ListedLine → Option ℕ
misfit_from count starts at i [] = None
misfit_from count starts at i (line ∷ lines) = if line_fits count starts at line then misfit_from count starts (at + width_of line) (i + 1) lines else Some i

abbrev pub code_misfit : Option ListedCode → Option ℕ
code_misfit None = None
code_misfit (Some code) = misfit_from (length code.lines) (starts_from 0 code.lines) 0 0 code.lines

-- the first method with such a line, where the first of these has the number n, and the line
abbrev pub at_line : ℕ → Option ℕ → Option (ℕ × ℕ) → Option (ℕ × ℕ)
at_line method (Some line) later = Some (method, line)
at_line method None later = later

abbrev pub misfit_in : ℕ → List ListedMethod → Option (ℕ × ℕ)
misfit_in n [] = None
misfit_in n (m ∷ ms) = at_line n (code_misfit m.code) (misfit_in (n + 1) ms)

abbrev pub first_of_two : Option (ℕ × ℕ) → Option (ℕ × ℕ) → Option (ℕ × ℕ)
first_of_two (Some x) later = Some x
first_of_two None later = later

abbrev pub first_misfit : ℕ → List ListedClass → Option (ℕ × ℕ)
first_misfit n [] = None
first_misfit n (c ∷ cs) = first_of_two (misfit_in n c.methods) (first_misfit (n + length c.methods) cs)
