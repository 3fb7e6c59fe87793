-- The lines of a method's code can be lifted to steps.
use Rattle.std.proofs.Common.{◌≡◌, ℕ, ◌+◌, ◌<◌, ◌≤◌, Bool, true, false, cond, ◌&&◌, ◌||◌, List, [], ◌∷◌, ◌++◌, length, slice_index, nat_lt, nat_le, IsTrue, refl, sym, subst, arith, inl, inr}
use Rattle.std.proofs.lemmas.Bool.Decides.{nat_tests}
use Rattle.dex_tables.specs.declared.dex.RawCode.{RawCode}
use Rattle.vet_base.specs.Members.{In}
use Rattle.app_machine.specs.Sound.{registers_of}
use Rattle.dex_code.specs.declared.decoder.Counts.{Counts}
use Rattle.dex_code.specs.declared.decoder.Decoded.{Decoded}
use Rattle.dex_code.specs.declared.insn.Insn.{Insn}
use Rattle.dex_code.specs.Acts.{act_of}
use Rattle.dex_code.specs.Code.{IsCode}
use Rattle.dex_code.specs.CodeLaws.{starts_of, BeginsAtZero, AreSound, CodeLaws}
use Rattle.dex_code.specs.Flow.{Flows, AllFlow}
use Rattle.dex_code.specs.Insns.{shape_at, width_at, insn_at, is_payload}
use Rattle.dex_code.specs.Lines.{Line, ins_fit, IsLine, StandFrom}
use Rattle.dex_code.specs.Registers.{registers_fit, count_fits}
use Rattle.dex_code.proofs.ActNames.{key_below, static_below, takes_its_registers}
use Rattle.dex_code.proofs.Operands.{registers_below}
use Rattle.dex_code.proofs.Standing.{some_at, ascend}
use Rattle.dex_code.proofs.Starts.{further, next_there, catches_there}
use Rattle.dex_code.proofs.Whole.{is_code, decodes}
use Rattle.std.proofs.lemmas.Bool.{and_parts}

module _ (code : RawCode) (counts : Counts) where
  few_lines : (at : ℕ) (lines : List Line) → StandFrom code counts at lines → at + length lines ≤ length code.units
  few_lines at [] stand = omega (arith, stand)
  few_lines at (line ∷ lines) stand =
      let h : at + width_at code.units at + length lines ≤ length code.units = few_lines (at + width_at code.units at) lines stand.2 in
      let w : 1 ≤ width_at code.units at = some_at code.units at in
      omega (arith, h, w)

  line_in : (at : ℕ) (lines : List Line) (line : Line) → StandFrom code counts at lines → In line lines → IsLine code counts line
  line_in at [] line stand k = absurd k
  line_in at (l ∷ ls) line stand (inl e) = subst (IsLine code counts) (sym e) stand.1
  line_in at (l ∷ ls) line stand (inr k) = line_in (at + width_at code.units at) ls line stand.2 k

  line_fits : (line : Line) → IsLine code counts line → IsTrue (registers_fit code.registers (insn_at code.units line.0)) × IsTrue (ins_fit code line.0)
  line_fits line is =
      let all = and_parts (count_fits (shape_at code.units line.0) (slice_index code.units line.0) && registers_fit code.registers (insn_at code.units line.0)) (ins_fit code line.0) is.registers in
      let both = and_parts (count_fits (shape_at code.units line.0) (slice_index code.units line.0)) (registers_fit code.registers (insn_at code.units line.0)) all.0 in
      (both.1, all.1)

  ins_from : (pc : ℕ) → pc ≡ 0 → IsTrue (ins_fit code pc) → code.ins ≤ code.registers
  ins_from pc e h = by_tests (nat_lt 0 pc) (nat_le code.ins code.registers) refl refl h
    where
      by_tests : (a b : Bool) → nat_lt 0 pc ≡ a → nat_le code.ins code.registers ≡ b → IsTrue (a || b) → code.ins ≤ code.registers
      by_tests true b i j h = absurd (let none : nat_lt 0 pc ≡ true = i in let lt : 0 < pc = grind (arith, nat_tests) in omega (arith, e, lt))
      by_tests false true i j h = let le : nat_le code.ins code.registers ≡ true = j in grind (arith, nat_tests)
      by_tests false false i j h = absurd cc

  -- the arguments stand in the registers
  within : (lines : List Line) → 0 < length code.units → StandFrom code counts 0 lines → code.ins ≤ code.registers
  within [] some stand = absurd (let e : 0 ≡ length code.units = stand in omega (arith, e, some))
  within (line ∷ lines) some stand = ins_from line.0 stand.0 (line_fits line stand.1).1

  no_payload : (b other : Bool) (pc : ℕ) → pc ≡ 0 → IsTrue (cond b (nat_lt 0 pc) other) → b ≡ false
  no_payload true other pc e h = absurd (let none : nat_lt 0 pc ≡ true = h in let lt : 0 < pc = grind (arith, nat_tests) in omega (arith, e, lt))
  no_payload false other pc e h = refl

  begins : (lines rest : List Line) → 0 < length code.units → StandFrom code counts 0 rest → AllFlow lines rest → BeginsAtZero rest
  begins lines [] some stand flow = absurd (let e : 0 ≡ length code.units = stand in omega (arith, e, some))
  begins lines (line ∷ rest) some stand flow = (stand.0, no_payload (is_payload line.1) _ line.0 stand.0 flow.0.stays_within)

flow_behind : (lines front : List Line) (line : Line) (rest : List Line) → AllFlow lines (front ++ line ∷ rest) → Flows lines line rest
flow_behind lines [] line rest all = all.0
flow_behind lines (l ∷ front) line rest all = flow_behind lines front line rest all.1

starts_behind : (front : List Line) (line : Line) (rest : List Line) (n : ℕ) → In n (starts_of rest) → In n (starts_of (front ++ line ∷ rest))
starts_behind [] line rest n k = further (is_payload line.1) line.0 n (starts_of rest) k
starts_behind (l ∷ front) line rest n k = further (is_payload l.1) l.0 n (starts_of (front ++ line ∷ rest)) (starts_behind front line rest n k)

pub are_sound : (code : RawCode) (counts : Counts) (decoded : Decoded) → IsCode code counts decoded → AreSound code decoded
are_sound code counts decoded is =
    let lines : List Line = decoded.lines in
    let count : 0 + length lines ≤ length code.units = few_lines code counts 0 lines is.lines in
    record {
      order = ascend code counts 0 lines is.lines;
      few = omega (arith, count);
      first = begins code counts lines lines is.begins is.lines is.flow;
      ins = within code counts lines is.begins is.lines;
      next = λ front line rest e pc k. next_there lines rest line pc (flow_behind lines front line rest (subst (AllFlow lines) e is.flow)).targets
          (λ n j. subst (λ (ls : List Line). In n (starts_of ls)) (sym e) (starts_behind front line rest n j)) k;
      catches = λ at pc k. catches_there lines (length code.units) decoded.tries at pc is.handlers k;
      registers = λ line k name r j.
          let one : IsLine code counts line = line_in code counts 0 lines line is.lines k in
          registers_below code.units line.0 code.registers name r (line_fits code counts line one).0 (subst (λ (insn : Insn). In r (registers_of (act_of insn name))) one.says j);
    }

pub laws : CodeLaws
laws = record {
  decoding = λ code counts decoded. (is_code code counts decoded, decodes code counts decoded);
  lines = are_sound;
  keys = key_below;
  statics = static_below;
  call = takes_its_registers;
}
