-- What calls of a log in a disk do not come to, whatever the disk held before. Behind each fact stands what a slip would do.
use Rattle.std.specs.Prelude.{◌≡◌, ℕ, List, [], ◌∷◌, ◌++◌, Some}
use Rattle.std.specs.Option.{option_map}
use Rattle.disks.specs.Disks.{Moment, Told, after, wrote, shortened, solid}
use Rattle.gated_log.specs.declared.log.Gate.TheVariants.{Closed, Behind}
use Rattle.gated_log.specs.declared.log.Log.{Log}
use Rattle.gated_log.specs.Ends.{Stands, IsEnd, IsEmptyLog, LeavesEither, LeavesFront, front_of}
use Rattle.gated_log.specs.Format.{magic, u8_bytes, record_bytes, behind_gate}

-- a log that ends at the offset in one closed gate
abbrev pub closed : ℕ → Log
closed end = record { end = end; gate = Closed }

-- no records
abbrev pub empty : List ℕ
empty = magic ++ 0 ∷ []

-- behind a write of a record without a byte, with its gate
abbrev pub at_once : Moment
at_once = wrote (solid empty) 8 10 (magic ++ (record_bytes [] ++ 0 ∷ []))

-- behind a write of what stands behind its gate
abbrev pub prepared : Moment
prepared = wrote (solid empty) 9 9 (empty ++ behind_gate [])

-- and behind one of the gate, with no sync between
abbrev pub unsynced : Moment
unsynced = wrote prepared 8 1 (magic ++ 1 ∷ behind_gate [])

-- no records, and an open gate before the length of one of a byte, which is not there
abbrev pub half : List ℕ
half = magic ++ 1 ∷ u8_bytes 1

-- a disk with these bytes, all of which stay
abbrev pub holding : List ℕ → List Moment → Told
holding bytes past = record { now = solid bytes; past = past }

pub record LogsTell : Type 0 where
  -- a log that was begun stays (else it is written and may be lost)
  pub begun : (t : Told) (n : ℕ) (bytes : List ℕ) → IsEmptyLog (after t (wrote t.now 0 n bytes)) → ⊥
  -- a record that was added counts, be it one without a byte (else its gate is closed)
  pub added : (t u : Told) → t.now.bytes ≡ magic ++ 0 ∷ [] → u.now.bytes ≡ magic ++ 0 ∷ behind_gate []
      → front_of (closed 17) (Some u) ≡ option_map (λ front. front ++ record_bytes []) (front_of (closed 8) (Some t)) → ⊥
  -- a record that was added stays (else it is told before the last sync, or behind one that failed)
  pub stays : (t : Told) (end at n : ℕ) (bytes : List ℕ) → Stands (closed end) (after t (wrote t.now at n bytes)) → ⊥
  -- a gate is written once its record is there to stay, since a crash may leave another record behind it (else both are
  -- one write, or two with no sync between)
  pub one_write : (past : List Moment)
      → LeavesEither 8 [] (Some (holding empty past)) (Some (after (holding empty past) at_once)) → ⊥
  pub no_sync : (past : List Moment)
      → LeavesEither 8 [] (Some (holding empty past)) (Some (after (after (holding empty past) prepared) unsynced)) → ⊥
  -- where a gate was written and not synced, no closed one is there to stay (else it would be called closed)
  pub touched : (t : Told) (end : ℕ) (torn : List ℕ)
      → Stands (record { end = end; gate = Behind }) (after t (wrote t.now end 1 torn)) → ⊥
  -- a log that was mended does not end in an open gate (else it does)
  pub mended : (t : Told) → t.now.bytes ≡ magic ++ 1 ∷ [] → Stands (closed 8) t → ⊥
  -- behind an open gate nothing may be cut off: a crash in the midst may leave a whole record there (else it is cut)
  pub half_ends : (past : List Moment) → IsEnd 8 (holding half past)
  pub shut_first : (past : List Moment)
      → LeavesFront 8 (Some (holding half past)) (Some (after (holding half past) (shortened (solid half) 9 half))) → ⊥
