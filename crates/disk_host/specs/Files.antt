-- A file as a disk: it tells nothing, and does not forget that a sync failed.
use Rattle.std.specs.Prelude.{◌≡◌, Bool, true, false, Option, None, Result, Ok, Err}
use Rattle.disks.specs.Disks.{Told}
use Rattle.disks.specs.declared.disk.DiskFault.{DiskFault}
use Rattle.disk_host.specs.declared.file_disk.FileDisk.{FileDisk}

-- what such a disk tells of what it holds: nothing
abbrev pub told_of : FileDisk → Option Told
told_of disk = None

-- Whether a sync failed, before and after one more: it is Ok only where none failed, and one that fails is not forgotten.
abbrev pub Loses : {X : Type 0} → Bool → Bool → Result X DiskFault → Type 0
Loses before now (Ok x) = (before ≡ false) × (now ≡ false)
Loses before now (Err fault) = now ≡ true
