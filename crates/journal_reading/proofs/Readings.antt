-- Records of a disk, read one after another.
use Rattle.std.proofs.Common.{◌≡◌, ◌≤◌, ◌+◌, ℕ, List, [], length, drop, sym, ◌∙◌, ap, subst, arith, Option, Some, None, Result, Ok, Err, Bool, true, false}
use Rattle.std.specs.Prelude.{IfSome, Vec}
use Rattle.std.specs.Option.{option_map}
use Rattle.std.specs.declared.alloc.Global.{Global}
use Rattle.vet_base.specs.Script.{run}
use Rattle.vet_base.proofs.Results.{one_ok}
use Rattle.disks.specs.declared.disk.DiskFault.{DiskFault}
use Rattle.disks.specs.declared.disk.DiskFault.TheVariants.{Failed, Memory}
use Rattle.disks.specs.Disks.{Told, Measures, DiskCause}
use Rattle.gated_log.specs.Format.{first_record, NoRecord}
use Rattle.gated_log.specs.Known.{IsKnown}
use Rattle.gated_log.specs.Reading.{items_of}
use Rattle.case_rules.specs.declared.case.Case.{Case}
use Rattle.case_rules.specs.declared.reply.Change.{Change}
use Rattle.case_rules.specs.Docket.{Fits}
use Rattle.case_records.specs.Reading.{change_of}
use Rattle.journal_reading.specs.declared.fault.OpenFault.{OpenFault}
use Rattle.journal_reading.specs.declared.fault.OpenFault.TheVariants as faults
use Rattle.journal_reading.specs.Faults.{open_fault_of}
use Rattle.journal_reading.specs.Opening.{OpenCause, HasChange, MakesFitting, Takes, Replays, Answers}
use Rattle.journal_law.specs.Fronts.{IsReadTo, IsRefused}
use Rattle.journal_law.specs.Reading.{fits}
use Rattle.journal_law.proofs.TellsRight.{fits_true, true_fits}
use Rattle.journal_law.proofs.Replayed.{read_begins, read_more, none_at_end}

-- The test says what fits.
pub it_fits : (change : Change) (cases : List Case) (test : Bool) → test ≡ fits change cases → test ≡ true → Fits change cases
it_fits change cases test answer is = true_fits change cases (sym answer ∙ is)

pub no_fit : (change : Change) (cases : List Case) (test : Bool) → test ≡ fits change cases → test ≡ false → Fits change cases → ⊥
no_fit change cases test answer not fit =
    let both : false ≡ true = sym not ∙ answer ∙ fits_true change cases fit in
    absurd cc

-- What became of a payload, by its change.
pub takes_so : (payload : List ℕ) (before now : List Case) (at : ℕ) (change : Change) (r : Result (Unit {0}) OpenFault)
    → run (change_of payload) ≡ Ok change → MakesFitting change before now at r → Takes payload before now at r
takes_so payload before now at change (Ok x) is made = (change, (record { is = is; fits = made.0 }, made.1))
takes_so payload before now at change (Err faults.Magic) is made = absurd made
takes_so payload before now at change (Err (faults.Bad k)) is made =
    (made.0, λ other taken. made.1 (subst (λ (c : Change). Fits c before) (one_ok (run (change_of payload)) other change taken.is is) taken.fits))
takes_so payload before now at change (Err faults.Failed) is made = absurd made
takes_so payload before now at change (Err faults.Memory) is made = tt

pub none_taken : (payload : List ℕ) (before : List Case) → HasChange payload None → IsRefused payload before
none_taken payload before none = λ other taken. none other taken.is

-- A fault of the disk says nothing of what it holds.
pub fault_replays : (o : Option Told) (fault : DiskFault) → IfSome o (λ t. Replays t.now.bytes (Err (open_fault_of fault)))
fault_replays None fault = tt
fault_replays (Some t) Failed = tt
fault_replays (Some t) Memory = tt

pub fault_answers : (X : Type 0) (o : Option Told) (fault : DiskFault) → IfSome o (λ t. Answers {X = X} t.now.bytes (Err (open_fault_of fault)))
fault_answers X None fault = tt
fault_answers X (Some t) Failed = tt
fault_answers X (Some t) Memory = tt

pub fault_cause : (X Y : Type 0) (before now : ℕ) (fault : DiskFault) → DiskCause {X = X} before now (Err fault) → OpenCause {X = Y} before now (Err (open_fault_of fault))
fault_cause X Y before now Failed cause = cause
fault_cause X Y before now Memory cause = cause

pub fault_later : (X Y : Type 0) (first before now : ℕ) (fault : DiskFault) → before ≡ first → DiskCause {X = X} before now (Err fault)
    → OpenCause {X = Y} first now (Err (open_fault_of fault))
fault_later X Y first before now fault same cause =
    subst (λ n. OpenCause {X = Y} n now (Err (open_fault_of fault))) same (fault_cause X Y before now fault cause)

-- a cause behind calls that did not fail
pub cause_from : {X : Type 0} (first before now : ℕ) (r : Result X OpenFault) → before ≡ first → OpenCause before now r → OpenCause first now r
cause_from first before now r same cause = subst (λ n. OpenCause n now r) same cause

abbrev pub HasNext : ℕ → Option (List ℕ) → Told → Type 0
HasNext end found t = found ≡ first_record (drop end t.now.bytes)

abbrev pub IsAt : ℕ → List Case → Told → Type 0
IsAt end cases t = IsReadTo t.now.bytes end cases

abbrev pub IsAll : ℕ → List Case → Told → Type 0
IsAll end cases t = IsReadTo t.now.bytes end cases × NoRecord (drop end t.now.bytes)

-- what was found where the disk tells the same
pub next_so : (o a : Option Told) (end : ℕ) (found : Option (Vec ℕ Global)) (payload : Vec ℕ Global) → a ≡ o → found ≡ Some payload
    → IfSome a (λ t. option_map items_of found ≡ first_record (drop end t.now.bytes)) → IfSome o (HasNext end (Some payload.items))
next_so o a end found payload same is answer =
    subst (λ z. IfSome z (HasNext end (Some payload.items))) same
    (subst (λ (f : Option (Vec ℕ Global)). IfSome a (λ t. option_map items_of f ≡ first_record (drop end t.now.bytes))) is answer)

pub inside_so : (end len : ℕ) (found : Option (Vec ℕ Global)) (payload : Vec ℕ Global) → found ≡ Some payload
    → IfSome found (λ p. end + 9 + length p.items ≤ len) → end + 9 + length payload.items ≤ len
inside_so end len found payload is inside = subst (λ (f : Option (Vec ℕ Global)). IfSome f (λ p. end + 9 + length p.items ≤ len)) is inside

pub none_so : (o a : Option Told) (end : ℕ) (found : Option (Vec ℕ Global)) → a ≡ o → found ≡ None
    → IfSome a (λ t. option_map items_of found ≡ first_record (drop end t.now.bytes)) → IfSome o (HasNext end None)
none_so o a end found same is answer =
    subst (λ z. IfSome z (HasNext end None)) same
    (subst (λ (f : Option (Vec ℕ Global)). IfSome a (λ t. option_map items_of f ≡ first_record (drop end t.now.bytes))) is answer)

pub begins : (o : Option Told) (len : ℕ) → 8 ≤ len → IfSome o (Measures len) → IfSome o (λ t. IsKnown true t.now.bytes) → IfSome o (IsAt 8 [])
begins None len le long known = tt
begins (Some t) len le long known = read_begins t.now.bytes (omega (arith, le, long)) known

pub goes_on : (o : Option Told) (end at : ℕ) (cases now : List Case) (payload : List ℕ) (x : Unit {0}) → IfSome o (IsAt end cases)
    → IfSome o (HasNext end (Some payload)) → Takes payload cases now at (Ok x) → IfSome o (IsAt (end + (length payload + 9)) now)
goes_on None end at cases now payload x so_far next takes = tt
goes_on (Some t) end at cases now payload x so_far next takes =
    subst (λ (cs : List Case). IsReadTo t.now.bytes (end + (length payload + 9)) cs) (sym takes.1.1)
    (read_more t.now.bytes end cases payload takes.0 so_far (sym next) takes.1.0)

pub stops : (o : Option Told) (end : ℕ) (cases now : List Case) (payload : List ℕ) (fault : OpenFault) → IfSome o (IsAt end cases)
    → IfSome o (HasNext end (Some payload)) → Takes payload cases now end (Err fault) → IfSome o (λ t. Replays t.now.bytes (Err fault))
stops None end cases now payload fault so_far next takes = tt
stops (Some t) end cases now payload fault so_far next takes = by_fault fault takes
  where
    by_fault : (fault : OpenFault) → Takes payload cases now end (Err fault) → Replays t.now.bytes (Err fault)
    by_fault (faults.Bad k) takes = record {
      cases = cases;
      before = subst (λ n. IsReadTo t.now.bytes n cases) (sym takes.0) so_far;
      payload = payload;
      stands = ap (λ n. first_record (drop n t.now.bytes)) takes.0 ∙ sym next;
      refused = takes.1;
    }
    by_fault faults.Magic takes = absurd takes
    by_fault faults.Failed takes = absurd takes
    by_fault faults.Memory takes = tt

pub ends : (o : Option Told) (end : ℕ) (cases : List Case) → IfSome o (IsAt end cases) → IfSome o (HasNext end None) → IfSome o (IsAll end cases)
ends None end cases so_far none = tt
ends (Some t) end cases so_far none = (so_far, sym none)

pub at_end : (o : Option Told) (end len : ℕ) (cases : List Case) → len ≤ end → IfSome o (Measures len) → IfSome o (IsAt end cases) → IfSome o (IsAll end cases)
at_end None end len cases le long so_far = tt
at_end (Some t) end len cases le long so_far = (so_far, none_at_end t.now.bytes end (omega (arith, le, long)))
