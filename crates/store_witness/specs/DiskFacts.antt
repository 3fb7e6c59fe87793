-- What calls of a disk in memory do not come to. Behind each fact stands what a slip would do.
use Rattle.std.specs.Prelude.{◌≡◌, ◌<◌, ℕ, List, [], ◌∷◌, length, Some, Ok, Err}
use Rattle.disks.specs.declared.disk.DiskFault.TheVariants.{Failed}
use Rattle.disks.specs.Disks.{Told, DiskCause, Writes, Cuts, Syncs}
use Rattle.disks.specs.Memory.{MemState, fails_next, FailsAsListed}

pub record DisksTell : Type 0 where
  -- of a disk that is cut to less than what stays less stays (else as much as before)
  pub cut : (old new : Told) (len : ℕ) → len < old.now.least → new.now.least ≡ old.now.least
      → Cuts (Some old) (Some new) len (Ok tt) → ⊥
  -- what was written may be lost until the next sync (else no more than before)
  pub written : (old new : Told) (at : ℕ) (bytes : List ℕ) → new.now.loose ≡ old.now.loose
      → Writes (Some old) (Some new) at bytes (Ok tt) → ⊥
  -- after a sync no greater length may be left, as one from before a cut (else it might)
  pub synced : (old new : Told) → length old.now.bytes < old.now.most → new.now.most ≡ old.now.most
      → Syncs (Some old) (Some new) (Ok tt) → ⊥
  -- a call that fails is counted (else it would fail without a cause)
  pub counted : DiskCause {X = Unit {0}} 0 0 (Err Failed) → ⊥
  -- the first call fails where 1 is listed (else the second)
  pub first_call : (disk : MemState) → disk.failing ≡ 1 ∷ [] → disk.calls ≡ []
      → FailsAsListed {X = Unit {0}} (fails_next disk) (Ok tt) → ⊥
