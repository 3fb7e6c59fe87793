-- What stands at the end of a log while a record is added and after a call that failed, and what a crash leaves of it.
use Rattle.std.specs.Prelude.{◌≡◌, ◌≢◌, ◌+◌, ◌<◌, ◌≤◌, ℕ, List, [], ◌∷◌, ◌++◌, length, take, drop, Option, Some, None, Result, Ok, Err, IfSome}
use Rattle.std.specs.Option.{option_map}
use Rattle.disks.specs.declared.disk.DiskFault.{DiskFault}
use Rattle.disks.specs.Disks.{Moment, Told, IsWithin, LeavesOnly, solid}
use Rattle.gated_log.specs.declared.log.Gate.{Gate}
use Rattle.gated_log.specs.declared.log.Gate.TheVariants.{Closed, Behind, Touched}
use Rattle.gated_log.specs.declared.log.Log.{Log}
use Rattle.gated_log.specs.Format.{magic, behind_gate, NoRecord, EndsWith, EndsWithEither}

-- A crash leaves the first k bytes as a read gives them.
pub record IsFirm (k : ℕ) (m : Moment) : Type 0 where
  pub stays : k ≤ m.least
  pub there : k ≤ length m.bytes
  pub apart : (i : ℕ) → i < k → IsWithin m.loose i → ⊥

-- A crash leaves all bytes as a read gives them, save the one at this offset.
pub record IsFirmBut (at : ℕ) (m : Moment) : Type 0 where
  pub there : at < length m.bytes
  pub least : m.least ≡ length m.bytes
  pub most : m.most ≡ length m.bytes
  pub alone : (i : ℕ) → IsWithin m.loose i → i ≡ at

-- a closed gate behind the front, which is the last byte; all of it stays
abbrev pub IsClosed : List ℕ → Moment → Type 0
IsClosed front m = m ≡ solid (front ++ 0 ∷ [])

-- A closed gate behind the front stays; bytes behind it may be there, and be whatever.
pub record IsBehind (front : List ℕ) (m : Moment) : Type 0 where
  pub firm : IsFirm (length front + 1) m
  pub is : take (length front + 1) m.bytes ≡ front ++ 0 ∷ []

-- The gate behind the front is whatever; a record without its gate and a closed gate stand behind it and stay.
pub record IsTouched (front payload : List ℕ) (m : Moment) : Type 0 where
  pub gate : ℕ
  pub is : m.bytes ≡ front ++ gate ∷ behind_gate payload
  pub firm : IsFirmBut (length front) m
  pub small : length payload < 18446744073709551616

-- how the end stands
abbrev pub StandsBehind : Gate → List ℕ → Moment → Type 0
StandsBehind Closed front m = IsClosed front m
StandsBehind Behind front m = IsBehind front m
StandsBehind Touched front m = (payload : List ℕ) × IsTouched front payload m

-- the bytes before the gate
abbrev pub front_at : ℕ → Told → List ℕ
front_at end t = take end t.now.bytes

-- The log knows where its end is and how it stands.
pub record Stands (log : Log) (t : Told) : Type 0 where
  pub long : length (front_at log.end t) ≡ log.end
  pub gate : StandsBehind log.gate (front_at log.end t) t.now

-- The bytes before the gate are those before, and what else there is.
abbrev pub front_of : Log → Option Told → Option (List ℕ)
front_of log told = option_map (front_at log.end) told

-- From one moment to another a crash leaves only bytes of which this holds, and now that holds. It may speak of the first moment.
abbrev pub Runs : (Told → List ℕ → Type 0) → (Told → Moment → Type 0) → Option Told → Option Told → Type 0
Runs P Now None None = Unit {0}
Runs P Now None (Some u) = ⊥
Runs P Now (Some t) None = ⊥
Runs P Now (Some t) (Some u) = LeavesOnly (P t) t u × Now t u.now

-- From one moment to another a crash leaves what was before the gate, with the record behind it or without.
abbrev pub LeavesEither : ℕ → List ℕ → Option Told → Option Told → Type 0
LeavesEither end payload old new =
    Runs (λ t left. EndsWithEither (front_at end t) payload left) (λ t m. Unit {0}) old new

-- What a crash may leave of a log that stands so: what is before the gate, and where the gate was touched, with the record behind
-- it or without.
abbrev pub LeftAt : Gate → List ℕ → Moment → List ℕ → Type 0
LeftAt Closed front m left = EndsWith front left
LeftAt Behind front m left = EndsWith front left
LeftAt Touched front m left = (payload : List ℕ) × (IsTouched front payload m × EndsWithEither front payload left)

-- From one moment to another a crash leaves what it may leave of the log as it stood at the first.
abbrev pub LeavesLast : Log → Option Told → Option Told → Type 0
LeavesLast log old new = Runs (λ t left. LeftAt log.gate (front_at log.end t) t.now left) (λ t m. Unit {0}) old new

-- From one moment to another a crash leaves what was before the offset, and no whole record behind it; and so does a read now.
abbrev pub LeavesFront : ℕ → Option Told → Option Told → Type 0
LeavesFront end old new =
    Runs (λ t left. EndsWith (front_at end t) left) (λ t m. EndsWith (front_at end t) m.bytes) old new

-- The bytes before the offset are all there and stay, and so does what is behind them, which is no whole record.
pub record IsEnd (end : ℕ) (t : Told) : Type 0 where
  pub solid : t.now ≡ solid t.now.bytes
  pub within : end ≤ length t.now.bytes
  pub none : NoRecord (drop end t.now.bytes)

-- How the end of a log that was read stands: nothing is there; a closed gate, and perhaps bytes behind it; an open gate, behind
-- which no record ends; or another byte.
abbrev pub HasNothing : ℕ → Told → Type 0
HasNothing end t = (t.now ≡ solid t.now.bytes) × (length t.now.bytes ≡ end)

pub record HasByte (P : ℕ → Type 0) (end : ℕ) (t : Told) : Type 0 where
  pub ends : IsEnd end t
  pub gate : ℕ
  pub rest : List ℕ
  pub is : drop end t.now.bytes ≡ gate ∷ rest
  pub kind : P gate

abbrev pub HasClosed : ℕ → Told → Type 0
HasClosed = HasByte (λ gate. gate ≡ 0)

abbrev pub HasOpen : ℕ → Told → Type 0
HasOpen = HasByte (λ gate. gate ≡ 1)

abbrev pub HasOther : ℕ → Told → Type 0
HasOther = HasByte (λ gate. gate ≢ 1)

-- After Ok the log ends at the offset in one closed gate.
abbrev pub ClosesAt : {X : Type 0} → ℕ → Option Told → Result X DiskFault → Type 0
ClosesAt end new (Ok x) = IfSome new (Stands (record { end = end; gate = Closed }))
ClosesAt end new (Err fault) = Unit {0}

-- at most nine bytes, all of which stay
abbrev pub IsShort : Told → Type 0
IsShort t = (t.now ≡ solid t.now.bytes) × (length t.now.bytes ≤ 9)

-- the bytes by which a log is known and a closed gate, all of which stay
abbrev pub IsEmptyLog : Told → Type 0
IsEmptyLog t = t.now ≡ solid (magic ++ 0 ∷ [])

-- From one moment to another a crash leaves at most nine bytes, and a read gives no more now.
abbrev pub LeavesShort : Option Told → Option Told → Type 0
LeavesShort old new = Runs (λ t left. length left ≤ 9) (λ t m. length m.bytes ≤ 9) old new
