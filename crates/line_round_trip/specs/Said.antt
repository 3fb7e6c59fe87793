-- What the lines of a listing say: each is an instruction with its opcode, and with the registers, the literal, the index and the
-- target of the line in the places of its format, or a payload ("Dalvik executable instruction format", "Dalvik bytecode").
use Rattle.std.specs.Prelude.{ℕ, ℤ, pos, ◌-ℤ◌, ◌/◌, List, length, map, slice_index, Option, Some, None, ◌==◌, if◌then◌else◌}
use Rattle.dalvik_formats.specs.declared.format.Format.{Format}
use Rattle.dalvik_formats.specs.declared.format.Format.TheVariants as formats
use Rattle.dalvik_formats.specs.Layouts.{layout_of}
use Rattle.dex_maker.specs.declared.listing.ListedLine.{ListedLine}
use Rattle.dex_maker.specs.declared.listing.ListedLine.TheVariants as listed
use Rattle.dex_code.specs.declared.insn.Insn.{Insn}
use Rattle.dex_code.specs.declared.insn.Insn.TheVariants.{F10x, F12x, F11n, F11x, F10t, F20t, F22x, F21t, F21s, F21h, F21c, F23x, F22b, F22t, F22s, F22c, F32x, F30t, F31t, F31i, F31c, F35c, F3rc, F51l, Packed, Sparse, Filled}

-- An instruction of a format by its opcode, its registers, its literal, its index and the pc of its target. A format says only the
-- parts that it has. A line of format 3rc has its first register and the count in place of the registers.
abbrev pub plain_insn : Format → ℕ → List ℕ → ℤ → ℕ → ℕ → Insn
plain_insn formats.Unused op r literal index target = F10x op
plain_insn formats.F10x op r literal index target = F10x op
plain_insn formats.F12x op r literal index target = F12x op (slice_index r 0) (slice_index r 1)
plain_insn formats.F11n op r literal index target = F11n op (slice_index r 0) literal
plain_insn formats.F11x op r literal index target = F11x op (slice_index r 0)
plain_insn formats.F10t op r literal index target = F10t op target
plain_insn formats.F20t op r literal index target = F20t op target
plain_insn formats.F22x op r literal index target = F22x op (slice_index r 0) (slice_index r 1)
plain_insn formats.F21t op r literal index target = F21t op (slice_index r 0) target
plain_insn formats.F21s op r literal index target = F21s op (slice_index r 0) literal
plain_insn formats.F21h op r literal index target = F21h op (slice_index r 0) literal
plain_insn (formats.F21c pool) op r literal index target = F21c op (slice_index r 0) index
plain_insn formats.F23x op r literal index target = F23x op (slice_index r 0) (slice_index r 1) (slice_index r 2)
plain_insn formats.F22b op r literal index target = F22b op (slice_index r 0) (slice_index r 1) literal
plain_insn formats.F22t op r literal index target = F22t op (slice_index r 0) (slice_index r 1) target
plain_insn formats.F22s op r literal index target = F22s op (slice_index r 0) (slice_index r 1) literal
plain_insn (formats.F22c pool) op r literal index target = F22c op (slice_index r 0) (slice_index r 1) index
plain_insn formats.F32x op r literal index target = F32x op (slice_index r 0) (slice_index r 1)
plain_insn formats.F30t op r literal index target = F30t op target
plain_insn formats.F31t op r literal index target = F31t op (slice_index r 0) target
plain_insn formats.F31i op r literal index target = F31i op (slice_index r 0) literal
plain_insn formats.F31c op r literal index target = F31c op (slice_index r 0) index
plain_insn (formats.F35c pool) op r literal index target = F35c op index r
plain_insn (formats.F3rc pool) op r literal index target = F3rc op index (slice_index r 0) (slice_index r 1)
plain_insn formats.F51l op r literal index target = F51l op (slice_index r 0) literal

-- where the target begins, for lines that begin at these starts
abbrev pub target_pc : List ℕ → Option ℕ → ℕ
target_pc starts None = 0
target_pc starts (Some line) = slice_index starts line

-- how many units it is from a place to where a line begins
abbrev pub distance_to : List ℕ → ℕ → ℕ → ℤ
distance_to starts at line = pos (slice_index starts line) -ℤ pos at

-- a key, and how far its target is from the switch
abbrev pub entry_of : List ℕ → ℕ → ℤ × ℕ → ℤ × ℤ
entry_of starts at pair = (pair.0, distance_to starts at pair.1)

-- how many elements of so many bytes there are
abbrev pub elements : ℕ → List ℕ → ℕ
elements width bytes = if width == 0 then 0 else length bytes / width

-- what a line says whose index is that one
abbrev pub insn_of : ℕ → List ℕ → ListedLine → Insn
insn_of index starts (listed.Plain opcode registers literal operand target) = plain_insn (layout_of opcode) opcode registers literal index (target_pc starts target)
insn_of index starts (listed.Packed switch first_key targets) = Packed first_key (map (distance_to starts (slice_index starts switch)) targets)
insn_of index starts (listed.Sparse switch pairs) = Sparse (map (entry_of starts (slice_index starts switch)) pairs)
insn_of index starts (listed.Filled width bytes) = Filled width (elements width bytes)
