-- What begins at a unit of code, how many units it takes, and what it says ("Dalvik executable instruction formats", and
-- "Dalvik bytecode", the formats of the three payloads).
use Rattle.std.specs.Prelude.{ℕ, ℤ, ◌+◌, ◌*◌, ◌/◌, ◌%◌, ◌==◌, Bool, true, false, List, [], ◌∷◌, slice_index, take, if◌then◌else◌, zero, suc, Option, Some, None}
use Rattle.dalvik_formats.specs.declared.format.Format.{Format}
use Rattle.dalvik_formats.specs.declared.format.Format.TheVariants as formats
use Rattle.dalvik_formats.specs.declared.kind.Kind.{Kind}
use Rattle.dalvik_formats.specs.declared.kind.Kind.TheVariants.{NoInstruction}
use Rattle.dalvik_formats.specs.Layouts.{layout_of, units_of, group_of}
use Rattle.dex_code.specs.declared.shape.Shape.{Shape}
use Rattle.dex_code.specs.declared.shape.Shape.TheVariants as shapes
use Rattle.dex_code.specs.declared.insn.Insn.{Insn}
use Rattle.dex_code.specs.declared.insn.Insn.TheVariants.{F10x, F12x, F11n, F11x, F10t, F20t, F22x, F21t, F21s, F21h, F21c, F23x, F22b, F22t, F22s, F22c, F32x, F30t, F31t, F31i, F31c, F35c, F3rc, F51l, Packed, Sparse, Filled}
use Rattle.dex_code.specs.Units.{third_nibble, fourth_nibble, long_at, int_at, wide_at, signed, target_of}

-- A payload begins with the unit 0x0100, 0x0200 or 0x0300. The low byte of any other unit is an opcode.
unfoldable pub shape_of : ℕ → Shape
shape_of unit = if unit == 256 then shapes.Packed else if unit == 512 then shapes.Sparse else if unit == 768 then shapes.Filled else shapes.Instruction (layout_of (unit % 256))

-- it is a payload, or an instruction of a used opcode
abbrev pub is_used : Shape → Bool
is_used (shapes.Instruction formats.Unused) = false
is_used shape = true

-- how many units it takes
abbrev pub width_of : Shape → List ℕ → ℕ → ℕ
width_of (shapes.Instruction format) units pc = units_of format
width_of shapes.Packed units pc = 4 + 2 * slice_index units (pc + 1)
width_of shapes.Sparse units pc = 2 + 4 * slice_index units (pc + 1)
width_of shapes.Filled units pc = 4 + (slice_index units (pc + 1) * long_at units (pc + 2) + 1) / 2

-- The registers of a format `35c`: four in the third unit, lowest bits first, and a fifth in the first unit.
abbrev pub five : ℕ → ℕ → List ℕ
five first third = third % 16 ∷ (third / 16) % 16 ∷ (third / 256) % 16 ∷ third / 4096 ∷ third_nibble first ∷ []

-- so many signed numbers, each in two units
unfoldable pub ints_at : List ℕ → ℕ → ℕ → List ℤ
ints_at units at zero = []
ints_at units at (suc n) = int_at units at ∷ ints_at units (at + 2) n

-- so many pairs of them, the second parts behind all first parts
unfoldable pub int_pairs_at : List ℕ → ℕ → ℕ → ℕ → List (ℤ × ℤ)
int_pairs_at units keys values zero = []
int_pairs_at units keys values (suc n) = (int_at units keys, int_at units values) ∷ int_pairs_at units (keys + 2) (values + 2) n

-- What an instruction says, by the first unit u, the second v and the place. In the documentation's charts A is the nibble
-- above the opcode and B the highest, AA the byte above the opcode, BBBB or CCCC the second unit.
abbrev pub said_with : ℕ → ℕ → Format → List ℕ → ℕ → Insn
said_with u v formats.Unused units pc = F10x (u % 256)
said_with u v formats.F10x units pc = F10x (u % 256)
said_with u v formats.F12x units pc = F12x (u % 256) (third_nibble u) (fourth_nibble u)
said_with u v formats.F11n units pc = F11n (u % 256) (third_nibble u) (signed 8 (fourth_nibble u))
said_with u v formats.F11x units pc = F11x (u % 256) (u / 256)
said_with u v formats.F10t units pc = F10t (u % 256) (target_of pc (signed 128 (u / 256)))
said_with u v formats.F20t units pc = F20t (u % 256) (target_of pc (signed 32768 v))
said_with u v formats.F22x units pc = F22x (u % 256) (u / 256) v
said_with u v formats.F21t units pc = F21t (u % 256) (u / 256) (target_of pc (signed 32768 v))
said_with u v formats.F21s units pc = F21s (u % 256) (u / 256) (signed 32768 v)
said_with u v formats.F21h units pc = F21h (u % 256) (u / 256) (signed 32768 v)
said_with u v (formats.F21c pool) units pc = F21c (u % 256) (u / 256) v
said_with u v formats.F23x units pc = F23x (u % 256) (u / 256) (v % 256) (v / 256)
said_with u v formats.F22b units pc = F22b (u % 256) (u / 256) (v % 256) (signed 128 (v / 256))
said_with u v formats.F22t units pc = F22t (u % 256) (third_nibble u) (fourth_nibble u) (target_of pc (signed 32768 v))
said_with u v formats.F22s units pc = F22s (u % 256) (third_nibble u) (fourth_nibble u) (signed 32768 v)
said_with u v (formats.F22c pool) units pc = F22c (u % 256) (third_nibble u) (fourth_nibble u) v
said_with u v formats.F32x units pc = F32x (u % 256) v (slice_index units (pc + 2))
said_with u v formats.F30t units pc = F30t (u % 256) (target_of pc (int_at units (pc + 1)))
said_with u v formats.F31t units pc = F31t (u % 256) (u / 256) (target_of pc (int_at units (pc + 1)))
said_with u v formats.F31i units pc = F31i (u % 256) (u / 256) (int_at units (pc + 1))
said_with u v formats.F31c units pc = F31c (u % 256) (u / 256) (long_at units (pc + 1))
said_with u v (formats.F35c pool) units pc = F35c (u % 256) v (take (fourth_nibble u) (five u (slice_index units (pc + 2))))
said_with u v (formats.F3rc pool) units pc = F3rc (u % 256) v (slice_index units (pc + 2)) (u / 256)
said_with u v formats.F51l units pc = F51l (u % 256) (u / 256) (wide_at units (pc + 1))

abbrev pub said_by : Shape → List ℕ → ℕ → Insn
said_by (shapes.Instruction format) units pc = said_with (slice_index units pc) (slice_index units (pc + 1)) format units pc
said_by shapes.Packed units pc = Packed (int_at units (pc + 2)) (ints_at units (pc + 4) (slice_index units (pc + 1)))
said_by shapes.Sparse units pc = Sparse (int_pairs_at units (pc + 2) (pc + 2 + 2 * slice_index units (pc + 1)) (slice_index units (pc + 1)))
said_by shapes.Filled units pc = Filled (slice_index units (pc + 1)) (long_at units (pc + 2))

-- what begins at a place, how many units it takes, and what it says
unfoldable pub shape_at : List ℕ → ℕ → Shape
shape_at units pc = shape_of (slice_index units pc)

unfoldable pub width_at : List ℕ → ℕ → ℕ
width_at units pc = width_of (shape_at units pc) units pc

unfoldable pub insn_at : List ℕ → ℕ → Insn
insn_at units pc = said_by (shape_at units pc) units pc

-- it is a table or data, and no instruction
abbrev pub is_payload : Insn → Bool
is_payload (Packed first distances) = true
is_payload (Sparse pairs) = true
is_payload (Filled width count) = true
is_payload insn = false

-- the opcode; a payload has none
abbrev pub opcode_of : Insn → Option ℕ
opcode_of (F10x op) = Some op
opcode_of (F12x op a b) = Some op
opcode_of (F11n op a n) = Some op
opcode_of (F11x op a) = Some op
opcode_of (F10t op t) = Some op
opcode_of (F20t op t) = Some op
opcode_of (F22x op a b) = Some op
opcode_of (F21t op a t) = Some op
opcode_of (F21s op a n) = Some op
opcode_of (F21h op a n) = Some op
opcode_of (F21c op a i) = Some op
opcode_of (F23x op a b c) = Some op
opcode_of (F22b op a b n) = Some op
opcode_of (F22t op a b t) = Some op
opcode_of (F22s op a b n) = Some op
opcode_of (F22c op a b i) = Some op
opcode_of (F32x op a b) = Some op
opcode_of (F30t op t) = Some op
opcode_of (F31t op a t) = Some op
opcode_of (F31i op a n) = Some op
opcode_of (F31c op a i) = Some op
opcode_of (F35c op i registers) = Some op
opcode_of (F3rc op i first count) = Some op
opcode_of (F51l op a n) = Some op
opcode_of (Packed first distances) = None
opcode_of (Sparse pairs) = None
opcode_of (Filled width count) = None

-- what an instruction does; a payload does nothing
abbrev pub kind_with : Option ℕ → Kind
kind_with None = NoInstruction
kind_with (Some op) = group_of op

abbrev pub kind_of : Insn → Kind
kind_of insn = kind_with (opcode_of insn)
