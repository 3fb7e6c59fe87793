-- How a journal is opened: what is made of its records, what is answered, and what is then kept.
use Rattle.std.specs.Prelude.{◌≡◌, ◌⊎◌, ◌≤◌, ℕ, List, length, drop, Option, Some, None, Result, Ok, Err}
use Rattle.vet_base.specs.Script.{run}
use Rattle.vet_base.specs.Outside.{HasRisen}
use Rattle.disks.specs.Disks.{Told, solid}
use Rattle.gated_log.specs.Format.{NoRecord}
use Rattle.gated_log.specs.Calls.{settled}
use Rattle.case_rules.specs.declared.case.Case.{Case}
use Rattle.case_rules.specs.declared.reply.Change.{Change}
use Rattle.case_rules.specs.Cases.{after}
use Rattle.case_rules.specs.Docket.{Fits}
use Rattle.case_records.specs.Reading.{change_of}
use Rattle.journal_reading.specs.declared.fault.OpenFault.{OpenFault}
use Rattle.journal_reading.specs.declared.fault.OpenFault.TheVariants.{Magic, Bad, Failed, Memory}
use Rattle.journal_reading.specs.declared.replaying.Replayed.{Replayed}
use Rattle.journal_law.specs.Fronts.{IsRefused, IsReadTo, StopsAt}
use Rattle.journal_law.specs.Journal.{IsTaken, Holds, IsForeign, IsBad}
use Rattle.journal_law.specs.Reading.{cases_in}

-- the change of the payload, where it is one
abbrev pub HasChange : List ℕ → Option Change → Type 0
HasChange payload (Some change) = run (change_of payload) ≡ Ok change
HasChange payload None = (change : Change) → run (change_of payload) ≡ Ok change → ⊥

-- The change was made; or it does not fit, and the gate of its record is told.
abbrev pub MakesFitting : Change → List Case → List Case → ℕ → Result (Unit {0}) OpenFault → Type 0
MakesFitting change before now at (Ok x) = Fits change before × (now ≡ after change before)
MakesFitting change before now at (Err Magic) = ⊥
MakesFitting change before now at (Err (Bad k)) = (k ≡ at) × (Fits change before → ⊥)
MakesFitting change before now at (Err Failed) = ⊥
MakesFitting change before now at (Err Memory) = Unit {0}

-- The change of the payload was made; or it is none that fits, and its gate is told.
abbrev pub Takes : List ℕ → List Case → List Case → ℕ → Result (Unit {0}) OpenFault → Type 0
Takes payload before now at (Ok x) = (change : Change) × (IsTaken payload before change × (now ≡ after change before))
Takes payload before now at (Err Magic) = ⊥
Takes payload before now at (Err (Bad k)) = (k ≡ at) × IsRefused payload before
Takes payload before now at (Err Failed) = ⊥
Takes payload before now at (Err Memory) = Unit {0}

-- All records were read, or up to one that is refused.
abbrev pub Replays : List ℕ → Result Replayed OpenFault → Type 0
Replays bytes (Ok replayed) = IsReadTo bytes replayed.end replayed.held.cases × NoRecord (drop replayed.end bytes)
Replays bytes (Err Magic) = ⊥
Replays bytes (Err (Bad at)) = StopsAt bytes at
Replays bytes (Err Failed) = Unit {0}
Replays bytes (Err Memory) = Unit {0}

-- Ok where the bytes hold cases, `Magic` where they are foreign, `Bad` where they are bad.
abbrev pub Answers : {X : Type 0} → List ℕ → Result X OpenFault → Type 0
Answers bytes (Ok x) = Holds bytes (cases_in bytes)
Answers bytes (Err Magic) = IsForeign bytes
Answers bytes (Err (Bad at)) = IsBad bytes at
Answers bytes (Err Failed) = Unit {0}
Answers bytes (Err Memory) = Unit {0}

-- `Failed` comes only where the disk's count rose; any other answer leaves it as it was. It never falls.
abbrev pub OpenCause : {X : Type 0} → ℕ → ℕ → Result X OpenFault → Type 0
OpenCause before now (Ok x) = now ≡ before
OpenCause before now (Err Magic) = now ≡ before
OpenCause before now (Err (Bad at)) = now ≡ before
OpenCause before now (Err Failed) = HasRisen before now × (before ≤ now)
OpenCause before now (Err Memory) = now ≡ before

-- so many bytes, all of which stay
pub record IsSettled (len : ℕ) (t : Told) : Type 0 where
  pub solid : t.now ≡ solid t.now.bytes
  pub long : length t.now.bytes ≡ len

-- The bytes hold cases: those that are told of them.
abbrev pub HoldsCases : Told → Type 0
HoldsCases t = Holds t.now.bytes (cases_in t.now.bytes)

-- The bytes are no journal: they are foreign, or bad at some offset.
abbrev pub IsNoJournal : Told → Type 0
IsNoJournal t = IsForeign t.now.bytes ⊎ ((at : ℕ) × IsBad t.now.bytes at)

-- Where the bytes are no journal the disk is as it was.
abbrev pub LeavesAlone : Option Told → Option Told → Type 0
LeavesAlone None new = Unit {0}
LeavesAlone (Some t) new = IsNoJournal t → new ≡ Some t

-- Where the bytes are no journal nothing but a sync came, whatever was answered: they are as they were.
abbrev pub Spares : Option Told → Option Told → Type 0
Spares None new = Unit {0}
Spares (Some t) new = IsNoJournal t → (new ≡ Some t) ⊎ (new ≡ Some (settled t t.now.bytes))
