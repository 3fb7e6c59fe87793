-- The registers, pairs and indices that an instruction names must be there.
use Rattle.std.specs.Prelude.{ℕ, ◌+◌, ◌==◌, Bool, true, List, slice_index, nat_lt, nat_le, ◌&&◌, ◌||◌}
use Rattle.std.specs.List.{list_all}
use Rattle.dalvik_formats.specs.declared.format.Format.TheVariants as formats
use Rattle.dalvik_formats.specs.declared.format.Pool.{Pool}
use Rattle.dalvik_formats.specs.declared.format.Pool.TheVariants.{Strings, Types, Fields, Methods}
use Rattle.dalvik_formats.specs.declared.pairs.Pairs.{Pairs}
use Rattle.dalvik_formats.specs.declared.pairs.Pairs.TheVariants.{NoPair, First, Second, FirstTwo, LastTwo, All}
use Rattle.dalvik_formats.specs.Layouts.{pairing_of}
use Rattle.dex_code.specs.declared.decoder.Counts.{Counts}
use Rattle.dex_code.specs.declared.shape.Shape.{Shape}
use Rattle.dex_code.specs.declared.shape.Shape.TheVariants as shapes
use Rattle.dex_code.specs.declared.insn.Insn.{Insn}
use Rattle.dex_code.specs.declared.insn.Insn.TheVariants.{F10x, F12x, F11n, F11x, F10t, F20t, F22x, F21t, F21s, F21h, F21c, F23x, F22b, F22t, F22s, F22c, F32x, F30t, F31t, F31i, F31c, F35c, F3rc, F51l, Packed, Sparse, Filled}
use Rattle.dex_code.specs.Units.{fourth_nibble, long_at}

-- the last register of each operand counts from its first
abbrev pub first_more : Pairs → ℕ
first_more NoPair = 0
first_more First = 1
first_more Second = 0
first_more FirstTwo = 1
first_more LastTwo = 0
first_more All = 1

abbrev pub second_more : Pairs → ℕ
second_more NoPair = 0
second_more First = 0
second_more Second = 1
second_more FirstTwo = 1
second_more LastTwo = 1
second_more All = 1

abbrev pub third_more : Pairs → ℕ
third_more NoPair = 0
third_more First = 0
third_more Second = 0
third_more FirstTwo = 0
third_more LastTwo = 1
third_more All = 1

-- one, two or three operands of such an opcode have their registers below the limit
unfoldable pub one_fits : ℕ → ℕ → ℕ → Bool
one_fits limit op a = nat_lt (a + first_more (pairing_of op)) limit

unfoldable pub two_fit : ℕ → ℕ → ℕ → ℕ → Bool
two_fit limit op a b = nat_lt (a + first_more (pairing_of op)) limit && nat_lt (b + second_more (pairing_of op)) limit

unfoldable pub three_fit : ℕ → ℕ → ℕ → ℕ → ℕ → Bool
three_fit limit op a b c = nat_lt (a + first_more (pairing_of op)) limit && nat_lt (b + second_more (pairing_of op)) limit && nat_lt (c + third_more (pairing_of op)) limit

unfoldable pub all_below : ℕ → List ℕ → Bool
all_below limit registers = list_all (λ r. nat_lt r limit) registers

-- Every register of the instruction is below the limit. The arguments of a call are told one by one, a long's two registers
-- too, so that no pair is left to test there. A range of no registers names none.
abbrev pub registers_fit : ℕ → Insn → Bool
registers_fit limit (F10x op) = true
registers_fit limit (F12x op a b) = two_fit limit op a b
registers_fit limit (F11n op a n) = one_fits limit op a
registers_fit limit (F11x op a) = one_fits limit op a
registers_fit limit (F10t op t) = true
registers_fit limit (F20t op t) = true
registers_fit limit (F22x op a b) = two_fit limit op a b
registers_fit limit (F21t op a t) = one_fits limit op a
registers_fit limit (F21s op a n) = one_fits limit op a
registers_fit limit (F21h op a n) = one_fits limit op a
registers_fit limit (F21c op a i) = one_fits limit op a
registers_fit limit (F23x op a b c) = three_fit limit op a b c
registers_fit limit (F22b op a b n) = two_fit limit op a b
registers_fit limit (F22t op a b t) = two_fit limit op a b
registers_fit limit (F22s op a b n) = two_fit limit op a b
registers_fit limit (F22c op a b i) = two_fit limit op a b
registers_fit limit (F32x op a b) = two_fit limit op a b
registers_fit limit (F30t op t) = true
registers_fit limit (F31t op a t) = one_fits limit op a
registers_fit limit (F31i op a n) = one_fits limit op a
registers_fit limit (F31c op a i) = one_fits limit op a
registers_fit limit (F35c op i registers) = all_below limit registers
registers_fit limit (F3rc op i first count) = (count == 0) || nat_le (first + count) limit
registers_fit limit (F51l op a n) = one_fits limit op a
registers_fit limit (Packed first distances) = true
registers_fit limit (Sparse pairs) = true
registers_fit limit (Filled width count) = true

-- outside a range a call has at most five arguments
abbrev pub count_fits : Shape → ℕ → Bool
count_fits (shapes.Instruction (formats.F35c pool)) unit = nat_le (fourth_nibble unit) 5
count_fits shape unit = true

abbrev pub count_of : Counts → Pool → ℕ
count_of counts Strings = counts.strings
count_of counts Types = counts.types
count_of counts Fields = counts.fields
count_of counts Methods = counts.methods

-- what the instruction names by an index is there
abbrev pub index_fits : Counts → Shape → List ℕ → ℕ → Bool
index_fits counts (shapes.Instruction (formats.F21c pool)) units pc = nat_lt (slice_index units (pc + 1)) (count_of counts pool)
index_fits counts (shapes.Instruction (formats.F22c pool)) units pc = nat_lt (slice_index units (pc + 1)) (count_of counts pool)
index_fits counts (shapes.Instruction (formats.F35c pool)) units pc = nat_lt (slice_index units (pc + 1)) (count_of counts pool)
index_fits counts (shapes.Instruction (formats.F3rc pool)) units pc = nat_lt (slice_index units (pc + 1)) (count_of counts pool)
index_fits counts (shapes.Instruction formats.F31c) units pc = nat_lt (long_at units (pc + 1)) counts.strings
index_fits counts shape units pc = true
