-- A journal that is kept: what it tells, what holds while it is open, and what a crash may leave of it.
use Rattle.std.specs.Prelude.{◌≡◌, ◌⊎◌, ◌<◌, ℕ, List, [], Option, Some, None, Ok, IfSome}
use Rattle.std.specs.Option.{option_map}
use Rattle.vet_base.specs.Script.{run}
use Rattle.disks.specs.Disks.{Told, MayLeave, LeavesOnly}
use Rattle.gated_log.specs.declared.log.Gate.TheVariants.{Closed}
use Rattle.gated_log.specs.declared.log.Log.{Log}
use Rattle.gated_log.specs.Ends.{Stands, front_at}
use Rattle.gated_log.specs.Last.{IsLast}
use Rattle.case_rules.specs.declared.case.Case.{Case}
use Rattle.case_rules.specs.declared.reply.Change.{Change}
use Rattle.case_rules.specs.Cases.{after}
use Rattle.case_records.specs.Reading.{change_of}
use Rattle.journal_reading.specs.declared.opening.Opened.{Opened}
use Rattle.journal_law.specs.Fronts.{IsFront}
use Rattle.journal_law.specs.Journal.{IsTaken, Holds}
use Rattle.journal_law.specs.Reading.{cases_in}

-- The records before the end make the cases, and one behind a gate that was touched is of a change that fits them.
pub record Keeps (log : Log) (cases : List Case) (t : Told) : Type 0 where
  pub stands : Stands log t
  pub front : IsFront (front_at log.end t) cases
  pub last : (payload : List ℕ) → IsLast log t payload → (change : Change) × IsTaken payload cases change

-- What holds of an open journal. Its keeper in memory never fails.
pub record IsOpen (told : Option Told) (o : Opened) : Type 0 where
  pub unfailing : o.held.failing ≡ []
  pub room : o.log.end < 18446744073709551615
  pub kept : IfSome told (Keeps o.log o.held.cases)

abbrev pub IsKept : Option Told → Option Opened → Type 0
IsKept told opened = IfSome opened (IsOpen told)

-- An open journal whose end is one closed gate.
abbrev pub IsReady : Option Opened → Type 0
IsReady None = ⊥
IsReady (Some o) = o.log.gate ≡ Closed

-- the cases of a journal over a disk that tells: those of an open one, or those that the bytes hold
abbrev pub cases_of : Option Opened → Told → List Case
cases_of None t = cases_in t.now.bytes
cases_of (Some o) t = o.held.cases

abbrev pub told_by : Option Opened → Option Told → Option (List Case)
told_by opened told = option_map (cases_of opened) told

-- The change was written last, and not acknowledged.
abbrev pub IsPending : Option Opened → Told → Change → Type 0
IsPending None t change = ⊥
IsPending (Some o) t change = (payload : List ℕ) × (IsLast o.log t payload × (run (change_of payload) ≡ Ok change))

-- The bytes hold the cases, or these with one change more.
abbrev pub HoldsUpTo : List Case → (Change → Type 0) → List ℕ → Type 0
HoldsUpTo cases Last bytes = Holds bytes cases ⊎ ((change : Change) × (Last change × Holds bytes (after change cases)))

-- Bytes that may be left of a journal: they hold its cases, or these and the one change that was written last, or another such.
abbrev pub MayBe : Option Opened → Told → (Change → Type 0) → List ℕ → Type 0
MayBe opened t Other bytes = HoldsUpTo (cases_of opened t) (λ change. IsPending opened t change ⊎ Other change) bytes

abbrev pub NoOther : Change → Type 0
NoOther change = ⊥

-- What a read gives and whatever a crash leaves now holds the cases, or these and the change that was written last.
pub record IsSafe (opened : Option Opened) (t : Told) : Type 0 where
  pub read : MayBe opened t NoOther t.now.bytes
  pub left : (bytes : List ℕ) → MayLeave t.now bytes → MayBe opened t NoOther bytes

-- Of a safe journal a crash at any moment leaves such bytes.
abbrev pub LeavesCases : (Change → Type 0) → Option Opened → Option Told → Option Told → Type 0
LeavesCases Other opened None None = Unit {0}
LeavesCases Other opened None (Some u) = ⊥
LeavesCases Other opened (Some t) None = ⊥
LeavesCases Other opened (Some t) (Some u) = IsSafe opened t → LeavesOnly (MayBe opened t Other) t u

-- A safe journal stays safe.
abbrev pub StaysSafe : Option Opened → Option Opened → Option Told → Option Told → Type 0
StaysSafe old new None u = Unit {0}
StaysSafe old new (Some t) u = IsSafe old t → IfSome u (IsSafe new)
