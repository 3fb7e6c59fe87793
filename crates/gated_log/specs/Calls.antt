-- What a change of a disk and the sync behind it leave.
use Rattle.std.specs.Prelude.{◌≡◌, ◌⊎◌, ℕ, List, length, take, Option, Some, None, Result, Ok, Err}
use Rattle.disks.specs.declared.disk.DiskFault.{DiskFault}
use Rattle.disks.specs.Disks.{Told, IsTorn, IsFrayed, after, over, wrote, shortened, solid}

-- after a moment that was synced
abbrev pub settled : Told → List ℕ → Told
settled t bytes = after t (solid bytes)

-- A write and a sync: after Ok all of it stays; after a fault nothing was written, or the range holds whatever.
abbrev pub WriteStays : Option Told → Option Told → ℕ → List ℕ → Result (Unit {0}) DiskFault → Type 0
WriteStays None new at bytes r = new ≡ None
WriteStays (Some t) new at bytes (Ok x) =
    new ≡ Some (settled (after t (wrote t.now at (length bytes) (over t.now.bytes at bytes))) (over t.now.bytes at bytes))
WriteStays (Some t) new at bytes (Err fault) = (new ≡ Some t) ⊎ ((torn : List ℕ)
    × (IsTorn t.now.bytes at (length bytes) torn × (new ≡ Some (after t (wrote t.now at (length bytes) torn)))))

-- A cut and a sync: after Ok all of it stays; after a fault nothing was cut, or what was to go is whatever.
abbrev pub CutStays : Option Told → Option Told → ℕ → Result (Unit {0}) DiskFault → Type 0
CutStays None new len r = new ≡ None
CutStays (Some t) new len (Ok x) =
    new ≡ Some (settled (after t (shortened t.now len (take len t.now.bytes))) (take len t.now.bytes))
CutStays (Some t) new len (Err fault) = (new ≡ Some t) ⊎ ((frayed : List ℕ)
    × (IsFrayed t.now.bytes len frayed × (new ≡ Some (after t (shortened t.now len frayed)))))

-- A sync and a look: after Ok what a read gives stays; after a fault too, or nothing has changed.
abbrev pub Settles : {X : Type 0} → Option Told → Option Told → Result X DiskFault → Type 0
Settles None new r = new ≡ None
Settles (Some t) new (Ok x) = new ≡ Some (settled t t.now.bytes)
Settles (Some t) new (Err fault) = (new ≡ Some t) ⊎ (new ≡ Some (settled t t.now.bytes))
