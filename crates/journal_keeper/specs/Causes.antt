-- How a journal counts failures, and where they come from.
use Rattle.std.specs.Prelude.{◌≡◌, ◌⊎◌, ◌≤◌, ℕ, ◌+◌, min, Option, None, Result, Ok, Err, IfSome, IsSomeAnd}
use Rattle.vet_base.specs.Outside.{HasRisen}
use Rattle.disks.specs.declared.disk.DiskFault.{DiskFault}
use Rattle.disks.specs.declared.disk.DiskFault.TheVariants as disk
use Rattle.disks.specs.Disks.{Told}
use Rattle.case_keeper.specs.declared.keeper.KeepFault.{KeepFault}
use Rattle.case_keeper.specs.declared.keeper.KeepFault.TheVariants as keep
use Rattle.case_rules.specs.declared.reply.Change.{Change}
use Rattle.case_rules.specs.Docket.{Fits}
use Rattle.journal_reading.specs.declared.fault.OpenFault.{OpenFault}
use Rattle.journal_reading.specs.declared.fault.OpenFault.TheVariants.{Magic, Bad, Failed, Memory}
use Rattle.journal_reading.specs.declared.opening.Opened.{Opened}
use Rattle.journal_reading.specs.Opening.{IsNoJournal}

-- a fault of a disk, as one of a keeper
abbrev pub keep_fault_of : DiskFault → KeepFault
keep_fault_of disk.Failed = keep.Failed
keep_fault_of disk.Memory = keep.Memory

-- the failures of the disk and those of the journal; at 2^64 - 1 it stays
abbrev pub total : ℕ → ℕ → ℕ
total disk own = min (disk + own) 18446744073709551615

-- Bytes that are foreign or bad count once; nothing else does.
abbrev pub Counts : OpenFault → ℕ → ℕ → KeepFault → Type 0
Counts Magic before now fault = (now ≡ total before 1) × (fault ≡ keep.Failed)
Counts (Bad at) before now fault = (now ≡ total before 1) × (fault ≡ keep.Failed)
Counts Failed before now fault = (now ≡ before) × (fault ≡ keep.Failed)
Counts Memory before now fault = (now ≡ before) × (fault ≡ keep.Memory)

-- The journal is not open, and the bytes, where the disk tells them, are none.
pub record IsUnopenable (opened : Option Opened) (told : Option Told) : Type 0 where
  pub closed : opened ≡ None
  pub bytes : IfSome told IsNoJournal

-- The change does not fit the cases of the open journal.
abbrev pub Misfits : Change → Option Opened → Type 0
Misfits change opened = IsSomeAnd opened (λ o. Fits change o.held.cases → ⊥)

-- How often the disk and the journal failed before and after a call. `Failed` comes where the disk's count rose, or for
-- another cause, which the journal counts once. Nothing else is counted.
abbrev pub CountsBy : {X : Type 0} → Type 0 → ℕ → ℕ → ℕ → ℕ → Result X KeepFault → Type 0
CountsBy Other disk disk_now own own_now (Ok x) = (disk_now ≡ disk) × (own_now ≡ own)
CountsBy Other disk disk_now own own_now (Err keep.Failed) =
    (HasRisen disk disk_now × (disk ≤ disk_now) × (own_now ≡ own)) ⊎ (Other × (disk_now ≡ disk) × (own_now ≡ total own 1))
CountsBy Other disk disk_now own own_now (Err keep.Memory) = (disk_now ≡ disk) × (own_now ≡ own)
