-- The lines of a method's code: one sweep over its units.
use Rattle.std.specs.Prelude.{◌≡◌, ◌≤◌, ℕ, ◌+◌, Bool, List, [], ◌∷◌, length, slice_index, nat_lt, nat_le, ◌&&◌, ◌||◌, IsTrue}
use Rattle.dex_tables.specs.declared.dex.RawCode.{RawCode}
use Rattle.dex_code.specs.declared.decoder.Counts.{Counts}
use Rattle.dex_code.specs.declared.insn.Insn.{Insn}
use Rattle.dex_code.specs.declared.fault.CodeFault.{CodeFault}
use Rattle.dex_code.specs.declared.fault.CodeFault.TheVariants.{Opcode, Cut, Register, Index}
use Rattle.dex_code.specs.Insns.{shape_at, width_at, insn_at, is_used}
use Rattle.dex_code.specs.Registers.{registers_fit, count_fits, index_fits}
use Rattle.vet_base.specs.Script.{Script, Value, ◌>>=◌, test, sweep}

abbrev pub Line : Type 0
Line = ℕ × Insn

-- At the first pc the method's own numbers are tested too: its arguments stand in its registers.
abbrev pub ins_fit : RawCode → ℕ → Bool
ins_fit code pc = nat_lt 0 pc || nat_le code.ins code.registers

abbrev pub registers_stand : RawCode → ℕ → Bool
registers_stand code pc = count_fits (shape_at code.units pc) (slice_index code.units pc) && registers_fit code.registers (insn_at code.units pc) && ins_fit code pc

abbrev pub index_stands : Counts → List ℕ → ℕ → Bool
index_stands counts units pc = index_fits counts (shape_at units pc) units pc

-- the line at a place, and the place behind it
unfoldable pub line_at : RawCode → Counts → ℕ → Script CodeFault (Line × ℕ)
line_at code counts pc = do
  _ ← test (is_used (shape_at code.units pc)) (Opcode pc)
  _ ← test (nat_le (pc + width_at code.units pc) (length code.units)) (Cut pc)
  _ ← test (registers_stand code pc) (Register pc)
  _ ← test (index_stands counts code.units pc) (Index pc)
  Value ((pc, insn_at code.units pc), pc + width_at code.units pc)

-- all lines, from the first unit on
unfoldable pub lines_at : RawCode → Counts → Script CodeFault (List Line × ℕ)
lines_at code counts = sweep (length code.units) (λ pc. nat_lt pc (length code.units)) (line_at code counts) 0

-- In words: a line is what stands at its pc, and stands whole.
pub record IsLine (code : RawCode) (counts : Counts) (line : Line) : Type 0 where
  pub used : IsTrue (is_used (shape_at code.units line.0))
  pub whole : line.0 + width_at code.units line.0 ≤ length code.units
  pub registers : IsTrue (registers_stand code line.0)
  pub index : IsTrue (index_stands counts code.units line.0)
  pub says : line.1 ≡ insn_at code.units line.0

-- In words: the lines stand end to end from a place to the end of the units.
abbrev pub StandFrom : RawCode → Counts → ℕ → List Line → Type 0
StandFrom code counts at [] = at ≡ length code.units
StandFrom code counts at (line ∷ lines) = (line.0 ≡ at) × IsLine code counts line × StandFrom code counts (at + width_at code.units at) lines
