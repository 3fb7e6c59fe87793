-- One sweep over the units gives the lines that stand end to end, and gives them wherever they stand so.
use Rattle.std.proofs.Common.{◌≡◌, ℕ, zero, suc, ◌+◌, ◌<◌, ◌≤◌, Bool, true, false, Result, Ok, List, [], ◌∷◌, length, refl, sym, ap, subst, ◌∙◌, arith}
use Rattle.std.specs.Prelude.{nat_lt}
use Rattle.std.proofs.lemmas.Bool.Decides.{nat_tests}
use Rattle.dalvik_formats.specs.declared.format.Format.{Format}
use Rattle.dalvik_formats.specs.declared.format.Format.TheVariants as formats
use Rattle.dalvik_formats.specs.Layouts.{units_of}
use Rattle.dex_tables.specs.declared.dex.RawCode.{RawCode}
use Rattle.vet_base.specs.Script.{Script, Value, ◌>>=◌, run, sweep}
use Rattle.vet_base.proofs.Scripts.{run_bind}
use Rattle.dex_code.specs.declared.decoder.Counts.{Counts}
use Rattle.dex_code.specs.declared.shape.Shape.{Shape}
use Rattle.dex_code.specs.declared.shape.Shape.TheVariants as shapes
use Rattle.dex_code.specs.declared.fault.CodeFault.{CodeFault}
use Rattle.dex_code.specs.Insns.{shape_at, width_of, width_at, insn_at}
use Rattle.dex_code.specs.Lines.{Line, line_at, lines_at, IsLine, StandFrom}
use Rattle.dex_code.specs.Find.{AllBehind, Ascend}
use Rattle.vet_base.proofs.Runs.{test_ok, test_passes, bind_ok}
use Rattle.vet_base.proofs.Results.{ok_parts}
use Rattle.std.proofs.lemmas.Bool.{leb-true, le-leb, lt-ltb, le-ltb}

some_units : (format : Format) → 1 ≤ units_of format
some_units formats.Unused = omega arith
some_units formats.F10x = omega arith
some_units formats.F12x = omega arith
some_units formats.F11n = omega arith
some_units formats.F11x = omega arith
some_units formats.F10t = omega arith
some_units formats.F20t = omega arith
some_units formats.F22x = omega arith
some_units formats.F21t = omega arith
some_units formats.F21s = omega arith
some_units formats.F21h = omega arith
some_units (formats.F21c pool) = omega arith
some_units formats.F23x = omega arith
some_units formats.F22b = omega arith
some_units formats.F22t = omega arith
some_units formats.F22s = omega arith
some_units (formats.F22c pool) = omega arith
some_units formats.F32x = omega arith
some_units formats.F30t = omega arith
some_units formats.F31t = omega arith
some_units formats.F31i = omega arith
some_units formats.F31c = omega arith
some_units (formats.F35c pool) = omega arith
some_units (formats.F3rc pool) = omega arith
some_units formats.F51l = omega arith

some_width : (shape : Shape) (units : List ℕ) (pc : ℕ) → 1 ≤ width_of shape units pc
some_width (shapes.Instruction format) units pc = some_units format
some_width shapes.Packed units pc = omega arith
some_width shapes.Sparse units pc = omega arith
some_width shapes.Filled units pc = omega arith

-- a line takes at least one unit
pub some_at : (units : List ℕ) (pc : ℕ) → 1 ≤ width_at units pc
unfolding width_at
some_at units pc = some_width (shape_at units pc) units pc

module _ (code : RawCode) (counts : Counts) where
  abbrev size : ℕ
  size = length code.units

  abbrev Reading : Type 0
  Reading = Result (List Line × ℕ) CodeFault

  abbrev from : ℕ → ℕ → Script CodeFault (List Line × ℕ)
  from n at = sweep n (λ pc. nat_lt pc (length code.units)) (line_at code counts) at

  line_stands : (pc next : ℕ) (line : Line) → run (line_at code counts pc) ≡ Ok (line, next) → (line.0 ≡ pc) × IsLine code counts line × (next ≡ pc + width_at code.units pc)
  unfolding line_at
  line_stands pc next line e =
      let a = test_ok _ _ _ _ e in
      let b = test_ok _ _ _ _ a.1 in
      let c = test_ok _ _ _ _ b.1 in
      let d = test_ok _ _ _ _ c.1 in
      let parts = ok_parts (pc, insn_at code.units pc) line (pc + width_at code.units pc) next _ refl d.1 in
      let there : (pc, insn_at code.units pc) ≡ line = parts.0 in
      let is_line : IsLine code counts (pc, insn_at code.units pc) = record { used = a.0; whole = leb-true _ _ b.0; registers = c.0; index = d.0; says = refl } in
      (ap (λ (l : Line). l.0) (sym there), subst (IsLine code counts) there is_line, sym parts.1)

  line_runs : (line : Line) → IsLine code counts line → run (line_at code counts line.0) ≡ Ok (line, line.0 + width_at code.units line.0)
  unfolding line_at
  line_runs line is =
      let same : (line.0, insn_at code.units line.0) ≡ line = ap (λ i. (line.0, i)) (sym is.says) in
      test_passes _ _ _ is.used ∙ test_passes _ _ _ (le-leb _ _ is.whole) ∙ test_passes _ _ _ is.registers ∙ test_passes _ _ _ is.index ∙ ap (λ (l : Line). Ok (l, line.0 + width_at code.units line.0)) same

  abbrev Later : ℕ → Type 0
  Later n = (at : ℕ) (lines : List Line) (end : ℕ) → run (from n at) ≡ Ok (lines, end) → at ≤ size → size ≤ at + n → StandFrom code counts at lines

  abbrev more_lines : ℕ → ℕ → Script CodeFault (List Line × ℕ)
  more_lines n at = do
    first ← line_at code counts at
    others ← from n first.1
    Value (first.0 ∷ others.0, others.1)

  -- a first line and those that stand behind it
  stand_with : (n at : ℕ) (lines : List Line) (end : ℕ) → Later n → size ≤ at + suc n
      → run (more_lines n at) ≡ Ok (lines, end) → StandFrom code counts at lines
  stand_with n at lines end later more e =
      let first = bind_ok (line_at code counts at) _ _ e in
      let others = bind_ok (from n first.0.1) _ _ first.2 in
      let is = line_stands at first.0.1 first.0.0 first.1 in
      let whole : first.0.1 ≤ size = omega (arith, is.0, is.1.whole, is.2, ap (width_at code.units) is.0) in
      let further : at + 1 ≤ first.0.1 = omega (arith, is.2, some_at code.units at) in
      let rest : StandFrom code counts first.0.1 others.0.0 = later first.0.1 others.0.0 others.0.1 others.1 whole (omega arith) in
      let same : first.0.0 ∷ others.0.0 ≡ lines = (ok_parts (first.0.0 ∷ others.0.0) lines others.0.1 end _ refl others.2).0 in
      subst (StandFrom code counts at) same (is.0, is.1, subst (λ next. StandFrom code counts next others.0.0) is.2 rest)

  stand_step : (n at : ℕ) (b : Bool) → nat_lt at size ≡ b → (lines : List Line) (end : ℕ) → Later n → run (from (suc n) at) ≡ Ok (lines, end) → at ≤ size → size ≤ at + suc n → StandFrom code counts at lines
  unfolding sweep
  stand_step n at true b lines end later e le more = stand_with n at lines end later more (rw b at e)
  stand_step n at false b lines end later e le more =
      let none : [] ≡ lines = (ok_parts [] lines at end (Ok ([], at)) refl (rw b at e)).0 in
      let at_end : at ≡ size = let h : nat_lt at size ≡ false = b in grind (arith, nat_tests) in
      subst (StandFrom code counts at) none at_end

  pub stand_from : (n : ℕ) → Later n
  unfolding sweep
  stand_from zero at lines end e le more =
      let none : [] ≡ lines = (ok_parts [] lines at end (Ok ([], at)) refl e).0 in
      let at_end : at ≡ size = omega arith in
      subst (StandFrom code counts at) none at_end
  stand_from (suc n) at lines end e le more = stand_step n at (nat_lt at size) refl lines end (stand_from n) e le more

  -- and they are given wherever they stand so
  run_step : (n at : ℕ) (line : Line) (lines : List Line) → line.0 ≡ at → IsLine code counts line
      → run (from n (at + width_at code.units at)) ≡ Ok (lines, size) → run (from (suc n) at) ≡ Ok (line ∷ lines, size)
  unfolding sweep
  run_step n at line lines same is others =
      let one : run (line_at code counts at) ≡ Ok (line, at + width_at code.units at) = subst (λ pc. run (line_at code counts pc) ≡ Ok (line, pc + width_at code.units pc)) same (line_runs line is) in
      let lt : nat_lt at size ≡ true = lt-ltb at size (omega (arith, is.whole, same, some_at code.units line.0)) in
      rw (lt, run_bind, one, run_bind, others) refl

  pub run_from : (n at : ℕ) (lines : List Line) → StandFrom code counts at lines → size ≤ at + n → run (from n at) ≡ Ok (lines, size)
  unfolding sweep
  run_from zero at [] stand more = ap (λ end. Ok ([], end)) stand
  run_from (suc n) at [] stand more = rw (le-ltb at size (omega (arith, stand))) (ap (λ end. Ok ([], end)) stand)
  run_from zero at (line ∷ lines) stand more = absurd (omega (arith, stand.0, stand.1.whole, some_at code.units line.0))
  run_from (suc n) at (line ∷ lines) stand more = run_step n at line lines stand.0 stand.1 (run_from n (at + width_at code.units at) lines stand.2 (omega (arith, some_at code.units at)))

  -- lines that stand end to end ascend
  stand_behind : (pc at : ℕ) (lines : List Line) → pc < at → StandFrom code counts at lines → AllBehind pc lines
  unfolding AllBehind
  stand_behind pc at [] lt stand = tt
  stand_behind pc at (line ∷ lines) lt stand = (omega (arith, stand.0), stand_behind pc (at + width_at code.units at) lines (omega arith) stand.2)

  pub ascend : (at : ℕ) (lines : List Line) → StandFrom code counts at lines → Ascend lines
  unfolding Ascend
  ascend at [] stand = tt
  ascend at (line ∷ lines) stand =
      (stand_behind line.0 (at + width_at code.units at) lines (omega (arith, stand.0, some_at code.units at)) stand.2, ascend (at + width_at code.units at) lines stand.2)

  pub lines_stand : (lines : List Line) (end : ℕ) → run (lines_at code counts) ≡ Ok (lines, end) → StandFrom code counts 0 lines
  unfolding lines_at
  lines_stand lines end e = stand_from size 0 lines end e (omega arith) (omega arith)

  pub lines_run : (lines : List Line) → StandFrom code counts 0 lines → run (lines_at code counts) ≡ Ok (lines, size)
  unfolding lines_at
  lines_run lines stand = run_from size 0 lines stand (omega arith)
