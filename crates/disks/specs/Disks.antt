-- What a disk tells, what a crash may leave of it, and what each call does.
use Rattle.std.specs.Prelude.{◌≡◌, ◌⊎◌, ◌<◌, ◌≤◌, ◌+◌, ℕ, min, max, List, [], ◌∷◌, ◌++◌, length, take, drop, Option, Some, None, Result, Ok, Err}
use Rattle.std.specs.List.{slice_get}
use Rattle.vet_base.specs.Outside.{HasRisen}
use Rattle.disks.specs.declared.disk.DiskFault.{DiskFault}
use Rattle.disks.specs.declared.disk.DiskFault.TheVariants.{Failed, Memory}

-- `Failed` comes only where the count rose; any other answer leaves it as it was. It never falls.
abbrev pub DiskCause : {X : Type 0} → ℕ → ℕ → Result X DiskFault → Type 0
DiskCause before after (Ok x) = after ≡ before
DiskCause before after (Err Failed) = HasRisen before after × (before ≤ after)
DiskCause before after (Err Memory) = after ≡ before

-- A moment of a disk: the bytes that a read gives; the least and the greatest length since the last sync; and the ranges that
-- were written since then, each from an offset to before another.
pub record Moment : Type 0 where
  pub bytes : List ℕ
  pub least : ℕ
  pub most : ℕ
  pub loose : List (ℕ × ℕ)

-- the offset is in one of the ranges
abbrev pub IsWithin : List (ℕ × ℕ) → ℕ → Type 0
IsWithin [] i = ⊥
IsWithin (range ∷ ranges) i = ((range.0 ≤ i) × (i < range.1)) ⊎ IsWithin ranges i

-- What a crash may leave at a moment: any length between the two; and at each offset below the least length what a read
-- gives there, unless it was written since the last sync.
pub record MayLeave (m : Moment) (left : List ℕ) : Type 0 where
  pub no_shorter : m.least ≤ length left
  pub no_longer : length left ≤ m.most
  pub same : (i : ℕ) → i < m.least → (IsWithin m.loose i → ⊥) → slice_get left i ≡ slice_get m.bytes i

-- the present moment, and those before it, the latest first
pub record Told : Type 0 where
  pub now : Moment
  pub past : List Moment

abbrev pub after : Told → Moment → Told
after t m = record { now = m; past = t.now ∷ t.past }

-- A crash at any moment from old to new leaves bytes of which P holds.
pub record LeavesOnly (P : List ℕ → Type 0) (old new : Told) : Type 0 where
  pub later : List Moment
  pub grown : (new.now ∷ new.past) ≡ later ++ (old.now ∷ old.past)
  pub first : (left : List ℕ) → MayLeave old.now left → P left
  pub each : (i : ℕ) (m : Moment) → slice_get later i ≡ Some m → (left : List ℕ) → MayLeave m left → P left

-- the moment after a sync: a crash leaves what a read gives
abbrev pub solid : List ℕ → Moment
solid bytes = record { bytes = bytes; least = length bytes; most = length bytes; loose = [] }

abbrev pub Measures : ℕ → Told → Type 0
Measures n t = n ≡ length t.now.bytes

-- the offset is not beyond the end
abbrev pub Reaches : ℕ → Told → Type 0
Reaches at t = at ≤ length t.now.bytes

-- the bytes from the offset on stand at the front of the room, whose rest is as before
pub record Gives (bytes : List ℕ) (at n : ℕ) (room filled : List ℕ) : Type 0 where
  pub within : n ≤ length (drop at bytes)
  pub front : filled ≡ take n (drop at bytes) ++ drop n room
  pub some : 0 < length room → 0 < length (drop at bytes) → 0 < n

-- the old bytes with others written over them from the offset on
abbrev pub over : List ℕ → ℕ → List ℕ → List ℕ
over old at bytes = take at old ++ (bytes ++ drop (at + length bytes) old)

-- the moment after a write of n bytes at the offset, where a read gives these
abbrev pub wrote : Moment → ℕ → ℕ → List ℕ → Moment
wrote m at n bytes = record { bytes = bytes; least = m.least; most = max m.most (at + n); loose = (at, at + n) ∷ m.loose }

-- After a write that failed the range holds whatever, and the end is between the old one and that of a whole write.
pub record IsTorn (old : List ℕ) (at n : ℕ) (new : List ℕ) : Type 0 where
  pub before : take at new ≡ take at old
  pub behind : drop (at + n) new ≡ drop (at + n) old
  pub no_shorter : length old ≤ length new
  pub no_longer : length new ≤ max (length old) (at + n)

abbrev pub WritesTold : Told → Option Told → ℕ → List ℕ → Result (Unit {0}) DiskFault → Type 0
WritesTold t new at bytes (Ok x) = new ≡ Some (after t (wrote t.now at (length bytes) (over t.now.bytes at bytes)))
WritesTold t new at bytes (Err Failed) = (torn : List ℕ)
    × (IsTorn t.now.bytes at (length bytes) torn × (new ≡ Some (after t (wrote t.now at (length bytes) torn))))
WritesTold t new at bytes (Err Memory) = new ≡ Some t

abbrev pub Writes : Option Told → Option Told → ℕ → List ℕ → Result (Unit {0}) DiskFault → Type 0
Writes None new at bytes r = new ≡ None
Writes (Some t) new at bytes r = WritesTold t new at bytes r

-- the moment after a cut, where a read gives these
abbrev pub shortened : Moment → ℕ → List ℕ → Moment
shortened m len bytes = record { bytes = bytes; least = min m.least len; most = m.most; loose = m.loose }

-- After a cut that failed what was to go is whatever, and the end is between the new one and the old one.
pub record IsFrayed (old : List ℕ) (len : ℕ) (new : List ℕ) : Type 0 where
  pub front : take len new ≡ take len old
  pub no_shorter : len ≤ length new
  pub no_longer : length new ≤ length old

abbrev pub CutsTold : Told → Option Told → ℕ → Result (Unit {0}) DiskFault → Type 0
CutsTold t new len (Ok x) = new ≡ Some (after t (shortened t.now len (take len t.now.bytes)))
CutsTold t new len (Err Failed) = (frayed : List ℕ)
    × (IsFrayed t.now.bytes len frayed × (new ≡ Some (after t (shortened t.now len frayed))))
CutsTold t new len (Err Memory) = new ≡ Some t

abbrev pub Cuts : Option Told → Option Told → ℕ → Result (Unit {0}) DiskFault → Type 0
Cuts None new len r = new ≡ None
Cuts (Some t) new len r = CutsTold t new len r

abbrev pub Syncs : Option Told → Option Told → Result (Unit {0}) DiskFault → Type 0
Syncs None new r = new ≡ None
Syncs (Some t) new (Ok x) = new ≡ Some (after t (solid t.now.bytes))
Syncs (Some t) new (Err fault) = new ≡ Some t

-- What a read gives is among what a crash may leave.
abbrev pub MayLeaveItself : Moment → Type 0
MayLeaveItself m = MayLeave m m.bytes

pub record BytesMayBeLeft : Type 0 where
  pub synced : (bytes : List ℕ) → MayLeaveItself (solid bytes)
  pub written : (m : Moment) (at : ℕ) (bytes : List ℕ) → at ≤ length m.bytes → MayLeaveItself m
      → MayLeaveItself (wrote m at (length bytes) (over m.bytes at bytes))
  pub torn : (m : Moment) (at n : ℕ) (torn : List ℕ) → IsTorn m.bytes at n torn → MayLeaveItself m
      → MayLeaveItself (wrote m at n torn)
  pub cut : (m : Moment) (len : ℕ) → len ≤ length m.bytes → MayLeaveItself m
      → MayLeaveItself (shortened m len (take len m.bytes))
  pub frayed : (m : Moment) (len : ℕ) (frayed : List ℕ) → IsFrayed m.bytes len frayed → MayLeaveItself m
      → MayLeaveItself (shortened m len frayed)
