-- A disk in memory: what it held at each moment, which calls came, and which of them fail.
use Rattle.std.specs.Prelude.{◌≡◌, ℕ, ◌+◌, ◌==◌, Bool, true, false, List, [], ◌∷◌, ◌++◌, length, Result, Ok, Err}
use Rattle.std.specs.List.{list_any}
use Rattle.disks.specs.declared.disk.DiskFault.{DiskFault}
use Rattle.disks.specs.declared.disk.DiskFault.TheVariants.{Failed, Memory}
use Rattle.disks.specs.declared.calls.DiskCall.{DiskCall}
use Rattle.disks.specs.declared.shot.Shot.{Shot}
use Rattle.disks.specs.Disks.{Moment, Told}

-- its moments, the numbers of the calls that fail, the calls so far, and how many failed
pub record MemState : Type 0 where
  pub present : Moment
  pub past : List Moment
  pub failing : List ℕ
  pub calls : List DiskCall
  pub faults : ℕ

abbrev pub moment_of : Shot → Moment
moment_of s = record { bytes = s.bytes.items; least = s.least; most = s.most; loose = s.loose.items }

abbrev pub told_by : MemState → Told
told_by m = record { now = m.present; past = m.past }

-- whether the number of the next call is listed; the first call has the number 1
abbrev pub is_listed : List ℕ → List DiskCall → Bool
is_listed failing calls = list_any (λ n. n == length calls + 1) failing

abbrev pub fails_next : MemState → Bool
fails_next m = is_listed m.failing m.calls

-- A call fails only where its number is listed, and is Ok only where it is not.
abbrev pub FailsAsListed : {X : Type 0} → Bool → Result X DiskFault → Type 0
FailsAsListed listed (Ok x) = listed ≡ false
FailsAsListed listed (Err Failed) = listed ≡ true
FailsAsListed listed (Err Memory) = Unit {0}

-- The call is the last one of the list, unless memory ran out: then the disk is as it was.
abbrev pub Notes : {X : Type 0} → DiskCall → MemState → MemState → Result X DiskFault → Type 0
Notes call old new (Ok x) = (new.calls ≡ old.calls ++ call ∷ []) × (new.failing ≡ old.failing)
Notes call old new (Err Failed) = (new.calls ≡ old.calls ++ call ∷ []) × (new.failing ≡ old.failing)
Notes call old new (Err Memory) = new ≡ old
