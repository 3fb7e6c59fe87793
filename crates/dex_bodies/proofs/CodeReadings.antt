-- A code item that is read stands there, and one that stands there is read.
use Rattle.std.proofs.Common.{◌≡◌, ℕ, zero, suc, ◌+◌, ◌*◌, ◌≤◌, true, List, [], ◌∷◌, length, Option, Some, None, Ok, refl, sym, ap, subst, ◌∙◌, arith}
use Rattle.std.proofs.lemmas.Bool.{leb-true, le-leb}
use Rattle.std.specs.Prelude.{nat_le, slice_index}
use Rattle.vet_base.specs.Numbers.{u2, u4}
use Rattle.vet_base.specs.Script.{run}
use Rattle.dex_tables.specs.declared.dex.RawCode.{RawCode}
use Rattle.dex_bodies.specs.declared.tries.CodeHead.{CodeHead}
use Rattle.dex_tables.specs.declared.place.Totals.{Totals}
use Rattle.dex_bodies.specs.Tries.{padding_of, tries_begin, tries_at}
use Rattle.dex_bodies.specs.Code.{code_head_at, units_from, units_at, raw_code, coded, code_at, maybe_code_at}
use Rattle.dex_tables.specs.Sequences.{Is2, Is4, RowsStand}
use Rattle.dex_bodies.specs.CodeStands.{MaybeTries, padded, IsCode, MaybeCode}
use Rattle.dex_tables.specs.Totals.{no_totals, plus}
use Rattle.dex_tables.proofs.Readings.{there_ok}
use Rattle.dex_tables.proofs.Numbers.{u2_within, u2_is, u2_behind, u4_behind, four_there, u4_within, suc_not_zero}
use Rattle.dex_tables.proofs.RunningTotals.{WithinTotals, same_totals, totals_add}
use Rattle.dex_bodies.proofs.TryReadings.{tries_are, tries_again}
use Rattle.std.proofs.lemmas.Option.{same_Some}
use Rattle.vet_base.proofs.Runs.{bind_ok, test_ok, bind_runs, value_is}

value_of_u2 : (file : List ℕ) (at x : ℕ) → Is2 file at x → at + 2 ≤ length file → slice_index file at + 256 * slice_index file (at + 1) ≡ x
value_of_u2 file at x is le =
    let below : nat_le (at + 2) (length file) ≡ true = le-leb _ _ le in
    let same = (rw below at is) in
    ap (λ (p : ℕ × ℕ). p.0) (same_Some _ _ same)

-- the units
units_stand : (file : List ℕ) (at n : ℕ) → at + 2 * n ≤ length file → RowsStand (Is2 file) 2 at (units_from file at n) × (length (units_from file at n) ≡ n)
unfolding units_from
units_stand file at zero le = (tt, refl)
units_stand file at (suc n) le =
    let rest = units_stand file (at + 2) n (omega arith) in
    let below : nat_le (at + 2) (length file) ≡ true = le-leb _ _ (omega arith) in
    ((rw below refl, rest.0), ap (λ (k : ℕ). suc k) rest.1)

pub units_again : (file : List ℕ) (at : ℕ) (xs : List ℕ) → RowsStand (Is2 file) 2 at xs → at ≤ length file → (units_from file at (length xs) ≡ xs) × (at + 2 * length xs ≤ length file)
unfolding units_from
units_again file at [] stand le = (refl, omega arith)
units_again file at (x ∷ xs) stand le =
    let within : at + 2 ≤ length file = u2_within file at x stand.0 in
    let rest = units_again file (at + 2) xs stand.1 within in
    let more : at + 2 + 2 * length xs ≤ length file = rest.1 in
    let here : slice_index file at + 256 * slice_index file (at + 1) ≡ x = value_of_u2 file at x stand.0 within in
    (rw (here, rest.0) refl, omega arith)

-- the head of a code item
record HeadStands (file : List ℕ) (at : ℕ) (head : CodeHead) : Type 0 where
  registers_is : Is2 file at head.registers
  ins_is : Is2 file (at + 2) head.ins
  outs_is : Is2 file (at + 4) head.outs
  tries_is : Is2 file (at + 6) head.tries
  units_is : Is4 file (at + 12) head.units
  at_is : head.at ≡ at + 16

head_is : (file : List ℕ) (at : ℕ) (head : CodeHead) → run (code_head_at file at) ≡ Ok head → HeadStands file at head
unfolding code_head_at
head_is file at head e =
    let a = there_ok (u2 file at) _ _ _ _ e in
    let b = there_ok (u2 file a.0.1) _ _ _ _ a.2 in
    let c = there_ok (u2 file b.0.1) _ _ _ _ b.2 in
    let d = there_ok (u2 file c.0.1) _ _ _ _ c.2 in
    let f = there_ok (u4 file d.0.1) _ _ _ _ d.2 in
    let g = there_ok (u4 file f.0.1) _ _ _ _ f.2 in
    let registers = u2_is file at a.0 a.1 in
    let ins = u2_behind file (at + 2) a.0.1 b.0 b.1 registers.1 in
    let outs = u2_behind file (at + 4) b.0.1 c.0 c.1 (let k : b.0.1 ≡ at + 2 + 2 = ins.1 in omega arith) in
    let tries = u2_behind file (at + 6) c.0.1 d.0 d.1 (let k : c.0.1 ≡ at + 4 + 2 = outs.1 in omega arith) in
    let debug = u4_behind file (at + 8) d.0.1 f.0 f.1 (let k : d.0.1 ≡ at + 6 + 2 = tries.1 in omega arith) in
    let units = u4_behind file (at + 12) f.0.1 g.0 g.1 (let k : f.0.1 ≡ at + 8 + 4 = debug.1 in omega arith) in
    let end : g.0.1 ≡ at + 16 = (let k : g.0.1 ≡ at + 12 + 4 = units.1 in omega arith) in
    subst (λ (h : CodeHead). HeadStands file at h) (value_is _ _ g.2)
    (record { registers_is = registers.0; ins_is = ins.0; outs_is = outs.0; tries_is = tries.0; units_is = units.0; at_is = end })

head_again : (file : List ℕ) (at registers ins outs tries units : ℕ) → Is2 file at registers → Is2 file (at + 2) ins → Is2 file (at + 4) outs → Is2 file (at + 6) tries → Is4 file (at + 12) units
    → run (code_head_at file at) ≡ Ok (record { registers = registers; ins = ins; outs = outs; tries = tries; units = units; at = at + 16 })
unfolding code_head_at
head_again file at registers ins outs tries units a b c d g =
    let whole : at + 12 + 4 ≤ length file = u4_within file (at + 12) units g in
    let f = four_there file (at + 8) (omega arith) in
    let registers-is : u2 file at ≡ Some (registers, at + 2) = a in
    let ins-is : u2 file (at + 2) ≡ Some (ins, at + 4) = b ∙ ap (λ (o : ℕ). Some (ins, o)) (omega arith) in
    let outs-is : u2 file (at + 4) ≡ Some (outs, at + 6) = c ∙ ap (λ (o : ℕ). Some (outs, o)) (omega arith) in
    let tries-is : u2 file (at + 6) ≡ Some (tries, at + 8) = d ∙ ap (λ (o : ℕ). Some (tries, o)) (omega arith) in
    let debug-is : u4 file (at + 8) ≡ Some (f.0, at + 12) = f.1 ∙ ap (λ (o : ℕ). Some (f.0, o)) (omega arith) in
    let units-is : u4 file (at + 12) ≡ Some (units, at + 16) = g ∙ ap (λ (o : ℕ). Some (units, o)) (omega arith) in
    rw (registers-is, ins-is, outs-is, tries-is, debug-is, units-is) refl

units_are : (file : List ℕ) (code : ℕ) (head : CodeHead) (t : ℕ) (xs : List ℕ) → run (units_at file code head t) ≡ Ok xs → RowsStand (Is2 file) 2 head.at xs × (length xs ≡ head.units) × (t + head.units ≤ 8388608)
unfolding units_at
units_are file code head t xs e =
    let a = test_ok (nat_le (head.at + 2 * head.units) (length file)) _ _ _ e in
    let b = test_ok (nat_le (t + head.units) 8388608) _ _ _ a.1 in
    let stand = units_stand file head.at head.units (leb-true _ _ a.0) in
    subst (λ (ys : List ℕ). RowsStand (Is2 file) 2 head.at ys × (length ys ≡ head.units) × (t + head.units ≤ 8388608)) (value_is _ _ b.1) (stand.0, stand.1, leb-true _ _ b.0)

units_read : (file : List ℕ) (code : ℕ) (head : CodeHead) (t : ℕ) (xs : List ℕ) → RowsStand (Is2 file) 2 head.at xs → length xs ≡ head.units → head.at ≤ length file → t + head.units ≤ 8388608 → run (units_at file code head t) ≡ Ok xs
unfolding units_at
units_read file code head t xs stand count le fit =
    let all = units_again file head.at xs stand le in
    let within : head.at + 2 * length xs ≤ length file = all.1 in
    let inside : head.at + 2 * head.units ≤ length file = omega arith in
    rw (le-leb (head.at + 2 * head.units) (length file) inside, le-leb (t + head.units) 8388608 fit, ← count) (ap (λ (ys : List ℕ). Ok ys) all.0)

pub record CodeRead (file : List ℕ) (types at : ℕ) (t : Totals) (x : RawCode) (s : Totals) : Type 0 where
  pub adds : Totals
  pub stands : IsCode file types at x adds
  pub is : s ≡ plus t adds
  pub fits : WithinTotals (plus t adds)

pub code_is : (file : List ℕ) (types at : ℕ) (t : Totals) (x : RawCode) (s : Totals) → WithinTotals t → run (code_at file types at t) ≡ Ok (x, s) → CodeRead file types at t x s
unfolding code_at tries_begin padding_of
code_is file types at t x s fit e =
    let a = bind_ok (code_head_at file at) _ _ e in
    let b = bind_ok (units_at file at a.0 t.units) _ _ a.2 in
    let c = bind_ok (tries_at file types at a.0 t.tries) _ _ b.2 in
    let head = head_is file at a.0 a.1 in
    let units = units_are file at a.0 t.units b.0 b.1 in
    let tried = tries_are file types at a.0 t.tries c.0.0 c.0.1 fit.tries c.1 in
    let at-is : a.0.at ≡ at + 16 = head.at_is in
    let n-is : length b.0 ≡ a.0.units = units.1 in
    let adds : Totals = record { members = 0; units = length b.0; tries = tried.adds } in
    let total : c.0.1 ≡ t.tries + tried.adds = tried.is in
    let below : c.0.1 ≤ 1000000 = tried.fits in
    let below-units : t.units + a.0.units ≤ 8388608 = units.2 in
    let below-members : t.members ≤ 400000 = fit.members in
    let begin : padded a.0.at a.0.units ≡ padded (at + 16) (length b.0) = ap (λ (o : ℕ). padded o a.0.units) at-is ∙ ap (λ (n : ℕ). padded (at + 16) n) (sym n-is) in
    let has : MaybeTries file types (padded (at + 16) (length b.0)) c.0.0 tried.adds = subst (λ (o : ℕ). MaybeTries file types o c.0.0 tried.adds) begin tried.has in
    let code-is : IsCode file types at (raw_code a.0 b.0 c.0.0) adds = record {
      tried = tried.adds;
      registers_is = head.registers_is;
      ins_is = head.ins_is;
      outs_is = head.outs_is;
      tries_is = subst (λ (n : ℕ). Is2 file (at + 6) n) (sym tried.count) head.tries_is;
      units_is = subst (λ (n : ℕ). Is4 file (at + 12) n) (sym n-is) head.units_is;
      units = subst (λ (o : ℕ). RowsStand (Is2 file) 2 o b.0) at-is units.0;
      tries = has;
      adds_is = refl;
    } in
    subst (λ (p : RawCode × Totals). CodeRead file types at t p.0 p.1) (value_is _ _ c.2)
    (record { adds = adds; stands = code-is; is = same_totals _ _ (omega arith) (omega arith) total; fits = record { members = omega arith; units = omega arith; tries = omega arith } })

pub code_again : (file : List ℕ) (types at : ℕ) (t : Totals) (x : RawCode) (adds : Totals) → IsCode file types at x adds → WithinTotals (plus t adds) → run (code_at file types at t) ≡ Ok (x, plus t adds)
unfolding code_at tries_begin padding_of
code_again file types at t x adds is fit =
    let head : CodeHead = record { registers = x.registers; ins = x.ins; outs = x.outs; tries = length x.tries; units = length x.units; at = at + 16 } in
    let adds-is : adds ≡ record { members = 0; units = length x.units; tries = is.tried } = is.adds_is in
    let units-is : adds.units ≡ length x.units = ap (λ (u : Totals). u.units) adds-is in
    let tries-is : adds.tries ≡ is.tried = ap (λ (u : Totals). u.tries) adds-is in
    let members-is : adds.members ≡ 0 = ap (λ (u : Totals). u.members) adds-is in
    let fits-units : t.units + adds.units ≤ 8388608 = fit.units in
    let fits-tries : t.tries + adds.tries ≤ 1000000 = fit.tries in
    let whole : at + 12 + 4 ≤ length file = u4_within file (at + 12) (length x.units) is.units_is in
    let head-read = head_again file at x.registers x.ins x.outs (length x.tries) (length x.units) is.registers_is is.ins_is is.outs_is is.tries_is is.units_is in
    let units-read = units_read file at head t.units x.units is.units refl (omega arith) (omega arith) in
    let tries-read = tries_again file types at head t.tries x.tries is.tried is.tries refl (omega arith) in
    let total : coded t (length x.units) (t.tries + is.tried) ≡ plus t adds = same_totals _ _ (omega arith) (omega arith) (omega arith) in
    bind_runs (code_head_at file at) head _ _ head-read
    (bind_runs (units_at file at head t.units) x.units _ _ units-read
    (bind_runs (tries_at file types at head t.tries) (x.tries, t.tries + is.tried) _ _ tries-read (ap (λ (u : Totals). Ok (x, u)) total)))

pub record MaybeCodeRead (file : List ℕ) (types at : ℕ) (t : Totals) (x : Option RawCode) (s : Totals) : Type 0 where
  pub adds : Totals
  pub stands : MaybeCode file types at x adds
  pub is : s ≡ plus t adds
  pub fits : WithinTotals (plus t adds)

pub maybe_code_is : (file : List ℕ) (types at : ℕ) (t : Totals) (x : Option RawCode) (s : Totals) → WithinTotals t → run (maybe_code_at file types at t) ≡ Ok (x, s) → MaybeCodeRead file types at t x s
unfolding maybe_code_at
maybe_code_is file types zero t x s fit e =
    let none : t ≡ plus t no_totals = sym (totals_add.right_none t) in
    subst (λ (p : Option RawCode × Totals). MaybeCodeRead file types 0 t p.0 p.1) (value_is (None, t) (x, s) e)
    (record { adds = no_totals; stands = (refl, refl); is = none; fits = subst WithinTotals none fit })
maybe_code_is file types (suc at) t x s fit e =
    let a = bind_ok (code_at file types (suc at) t) _ _ (rw (suc_not_zero at) at e) in
    let read = code_is file types (suc at) t a.0.0 a.0.1 fit a.1 in
    subst (λ (p : Option RawCode × Totals). MaybeCodeRead file types (suc at) t p.0 p.1) (value_is _ _ a.2)
    (record { adds = read.adds; stands = record { item = a.0.0; is = refl; stands = read.stands }; is = read.is; fits = read.fits })

pub maybe_code_again : (file : List ℕ) (types at : ℕ) (t : Totals) (x : Option RawCode) (adds : Totals) → MaybeCode file types at x adds → WithinTotals (plus t adds) → run (maybe_code_at file types at t) ≡ Ok (x, plus t adds)
unfolding maybe_code_at
maybe_code_again file types zero t x adds is fit =
    let none : x ≡ None = is.0 in
    let nothing : t ≡ plus t adds = sym (totals_add.right_none t) ∙ ap (λ (u : Totals). plus t u) (sym is.1) in
    rw none (ap (λ (u : Totals). Ok (None, u)) nothing)
maybe_code_again file types (suc at) t x adds is fit =
    let some : x ≡ Some is.item = is.is in
    let read = code_again file types (suc at) t is.item adds is.stands fit in
    rw (suc_not_zero at, some) (bind_runs (code_at file types (suc at) t) (is.item, plus t adds) _ _ read refl)
