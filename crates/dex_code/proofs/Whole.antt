-- The tests of a method's code all hold exactly where the relation in words does.
use Rattle.std.proofs.Common.{◌≡◌, ℕ, ◌+◌, ◌<◌, Bool, Result, Ok, Err, List, [], ◌∷◌, length, refl, sym, ap, subst, ◌∙◌, ◌⊎◌, inl}
use Rattle.std.specs.Prelude.{IsTrue, nat_lt, nat_le, ◌||◌}
use Rattle.dex_tables.specs.declared.dex.RawCode.{RawCode}
use Rattle.dex_tables.specs.declared.dex.RawTry.{RawTry}
use Rattle.vet_base.specs.Script.{Script, Value, ◌>>=◌, test, run}
use Rattle.vet_base.proofs.Scripts.{run_bind, is_first}
use Rattle.dex_code.specs.declared.decoder.Counts.{Counts}
use Rattle.dex_code.specs.declared.decoder.Decoded.{Decoded}
use Rattle.dex_code.specs.declared.fault.CodeFault.{CodeFault}
use Rattle.dex_code.specs.declared.fault.CodeFault.TheVariants as faults
use Rattle.dex_code.specs.Lines.{Line, lines_at}
use Rattle.dex_code.specs.Flow.{flow_at, flows_at, Flows, AllFlow}
use Rattle.dex_code.specs.Tries.{tries_at, AllTriesStand}
use Rattle.dex_code.specs.Code.{decoding, IsCode, FirstFault}
use Rattle.dex_code.proofs.Standing.{lines_stand, lines_run}
use Rattle.vet_base.proofs.Runs.{test_ok, test_passes, bind_ok, fails_first}
use Rattle.std.proofs.lemmas.Bool.{ltb-true, lt-ltb}

flow_from : (lines : List Line) (line : Line) (rest : List Line) → run (flow_at lines line rest) ≡ Ok tt → Flows lines line rest
unfolding flow_at
flow_from lines line rest e =
    let a = test_ok _ _ _ _ e in
    let b = test_ok _ _ _ _ a.1 in
    let c = test_ok _ _ _ _ b.1 in
    record { targets = a.0; payload = b.0; stays_within = c.0 }

flow_to : (lines : List Line) (line : Line) (rest : List Line) → Flows lines line rest → run (flow_at lines line rest) ≡ Ok tt
unfolding flow_at
flow_to lines line rest flows = test_passes _ _ _ flows.targets ∙ test_passes _ _ _ flows.payload ∙ test_passes _ _ _ flows.stays_within

flows_from : (lines rest : List Line) → run (flows_at lines rest) ≡ Ok tt → AllFlow lines rest
unfolding flows_at
flows_from lines [] e = tt
flows_from lines (line ∷ rest) e =
    let first = bind_ok (flow_at lines line rest) _ _ e in
    (flow_from lines line rest first.1, flows_from lines rest first.2)

flows_to : (lines rest : List Line) → AllFlow lines rest → run (flows_at lines rest) ≡ Ok tt
unfolding flows_at
flows_to lines [] all = refl
flows_to lines (line ∷ rest) all = rw (run_bind, flow_to lines line rest all.0) (flows_to lines rest all.1)

tries_from : (size : ℕ) (lines : List Line) (n : ℕ) (tries : List RawTry) → run (tries_at size lines n tries) ≡ Ok tt → AllTriesStand size lines tries
unfolding tries_at
tries_from size lines n [] e = tt
tries_from size lines n (t ∷ ts) e = let a = test_ok _ _ _ _ e in (a.0, tries_from size lines (n + 1) ts a.1)

tries_to : (size : ℕ) (lines : List Line) (n : ℕ) (tries : List RawTry) → AllTriesStand size lines tries → run (tries_at size lines n tries) ≡ Ok tt
unfolding tries_at
tries_to size lines n [] all = refl
tries_to size lines n (t ∷ ts) all = test_passes _ _ _ all.0 ∙ tries_to size lines (n + 1) ts all.1

either : (n : ℕ) (b : Bool) → 0 < n → IsTrue (nat_lt 0 n || b)
either n b h = rw (lt-ltb 0 n h) refl

-- the script from each of its parts on
abbrev from_tries : RawCode → List Line → Script CodeFault Decoded
from_tries code lines = do
  _ ← tries_at (length code.units) lines 0 code.tries
  Value (record { lines = lines; tries = code.tries })

abbrev from_flow : RawCode → List Line → Script CodeFault Decoded
from_flow code lines = do
  _ ← flows_at lines lines
  from_tries code lines

abbrev from_units : RawCode → List Line → Script CodeFault Decoded
from_units code lines = do
  _ ← test (nat_lt 0 (length code.units)) (faults.FallsOff 0)
  from_flow code lines

abbrev from_lines : RawCode → Counts → Script CodeFault Decoded
from_lines code counts = do
  lines ← lines_at code counts
  from_units code lines.0

pub is_code : (code : RawCode) (counts : Counts) (decoded : Decoded) → run (decoding code counts) ≡ Ok decoded → IsCode code counts decoded
unfolding decoding
is_code code counts decoded e =
    let ins = test_ok (nat_lt 0 (length code.units) || nat_le code.ins code.registers) (faults.Register 0) (from_lines code counts) decoded e in
    let read = bind_ok (lines_at code counts) (λ lines. from_units code lines.0) decoded ins.1 in
    let lines : List Line = read.0.0 in
    let some = test_ok (nat_lt 0 (length code.units)) (faults.FallsOff 0) (from_flow code lines) decoded read.2 in
    let flow = bind_ok (flows_at lines lines) (λ _. from_tries code lines) decoded some.1 in
    let tries = bind_ok (tries_at (length code.units) lines 0 code.tries) (λ _. Value (record { lines = lines; tries = code.tries })) decoded flow.2 in
    let value : record { lines = lines; tries = code.tries } ≡ decoded = cc in
    let is : IsCode code counts (record { lines = lines; tries = code.tries }) = record {
      begins = ltb-true 0 (length code.units) some.0;
      lines = lines_stand code counts lines read.0.1 read.1;
      flow = flows_from lines lines flow.1;
      handlers = tries_from (length code.units) lines 0 code.tries tries.1;
      tries = refl;
    } in
    subst (IsCode code counts) value is

pub decodes : (code : RawCode) (counts : Counts) (decoded : Decoded) → IsCode code counts decoded → run (decoding code counts) ≡ Ok decoded
unfolding decoding
decodes code counts decoded is =
    let lines : List Line = decoded.lines in
    let value : record { lines = lines; tries = code.tries } ≡ decoded = ap (λ (ts : List RawTry). record { lines = lines; tries = ts }) (sym is.tries) in
    let tries : run (tries_at (length code.units) lines 0 code.tries) ≡ Ok tt = tries_to (length code.units) lines 0 code.tries (rw is.tries at is.handlers) in
    let behind_flow : run (from_tries code lines) ≡ Ok decoded = rw (run_bind, tries) (ap (λ (d : Decoded). Ok d) value) in
    let behind_units : run (from_flow code lines) ≡ Ok decoded = rw (run_bind, flows_to lines lines is.flow) behind_flow in
    let behind_lines : run (from_units code lines) ≡ Ok decoded = test_passes _ (faults.FallsOff 0) (from_flow code lines) (lt-ltb 0 (length code.units) is.begins) ∙ behind_units in
    let whole : run (from_lines code counts) ≡ Ok decoded = rw (run_bind, lines_run code counts lines is.lines) behind_lines in
    test_passes _ (faults.Register 0) (from_lines code counts) (either (length code.units) (nat_le code.ins code.registers) is.begins) ∙ whole

module _ (code : RawCode) (counts : Counts) (r : Result Decoded CodeFault) (e : run (decoding code counts) ≡ r) where
  -- what is the code is answered, and what is the first fault
  pub code_answered : (d : Decoded) → IsCode code counts d → (r ≡ Ok d) ⊎ (r ≡ Err faults.Memory)
  code_answered d is = inl (sym e ∙ decodes code counts d is)

  pub fault_answered : (f : CodeFault) → FirstFault code counts f → (r ≡ Err f) ⊎ (r ≡ Err faults.Memory)
  unfolding FirstFault
  fault_answered f first = inl (sym e ∙ fails_first (decoding code counts) f first)

pub first_fault : (code : RawCode) (counts : Counts) (f : CodeFault) → run (decoding code counts) ≡ Err f → FirstFault code counts f
unfolding FirstFault
first_fault code counts f e = is_first (decoding code counts) f e
