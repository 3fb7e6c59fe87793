-- Links and doors in memory: what they hold, in which pieces bytes come, and at which calls they fail.
use Rattle.std.specs.Prelude.{◌≡◌, ℕ, ◌+◌, ◌==◌, min, max, Bool, true, false, List, [], length, map, Option, Some, None, Result, Ok, Err, if◌then◌else◌}
use Rattle.std.specs.List.{list_any, slice_get}
use Rattle.desk_links.specs.Links.{Talk, Told, ended_with}

-- a conversation in memory: the bytes to come, the bytes written, how many reads came and how many more bytes it takes
pub record Taped : Type 0 where
  pub coming : List ℕ
  pub written : List ℕ
  pub reads : ℕ
  pub room : ℕ

-- The most bytes that a read gives: the n-th as many as the n-th size says, where 0 counts as 1, and those behind the
-- last size as many as there is room for.
abbrev pub most_of : Option ℕ → ℕ → ℕ
most_of None room = room
most_of (Some size) room = min (max size 1) room

abbrev pub given_count : List ℕ → Taped → ℕ → ℕ
given_count sizes tape room = min (most_of (slice_get sizes tape.reads) room) (length tape.coming)

-- the numbers of the calls that fail, how many calls came and how many failed
pub record Numbered : Type 0 where
  pub failing : List ℕ
  pub calls : ℕ
  pub faults : ℕ

-- whether the number of the next call is among those that fail; at 2^64 - 1 the numbering stops
abbrev pub fails_next : Numbered → Bool
fails_next calls = list_any (λ n. n == min (calls.calls + 1) 18446744073709551615) calls.failing

-- A call fails exactly where its number is listed.
abbrev pub FailsAsNumbered : {X E : Type 0} → Bool → Result X E → Type 0
FailsAsNumbered listed (Ok x) = listed ≡ false
FailsAsNumbered listed (Err fault) = listed ≡ true

-- the count of calls and of failures after a call, which failed or not
abbrev pub counted : Bool → Numbered → Numbered
counted failed calls = record {
  failing = calls.failing;
  calls = min (calls.calls + 1) 18446744073709551615;
  faults = if failed then min (calls.faults + 1) 18446744073709551615 else calls.faults;
}

-- a link in memory
pub record LinkState : Type 0 where
  pub tape : Taped
  pub sizes : List ℕ
  pub calls : Numbered

abbrev pub told_by_link : LinkState → Told
told_by_link link = record { coming = link.tape.coming; written = link.tape.written; begun = true; ended = []; left = []; missed = 0 }

-- a door in memory
pub record DoorState : Type 0 where
  pub present : Taped
  pub begun : Bool
  pub ended : List Taped
  pub left : List Taped
  pub missed : ℕ
  pub sizes : List ℕ
  pub calls : Numbered

abbrev pub talk_of : Taped → Talk
talk_of tape = record { coming = tape.coming; written = tape.written }

abbrev pub coming_of : Taped → List ℕ
coming_of tape = tape.coming

abbrev pub told_by_door : DoorState → Told
told_by_door door = record { coming = door.present.coming; written = door.present.written; begun = door.begun; ended = map talk_of door.ended; left = map coming_of door.left; missed = door.missed }

-- a conversation that has yet to begin, with so much room for what is written
abbrev pub fresh : ℕ → List ℕ → Taped
fresh room input = record { coming = input; written = []; reads = 0; room = room }

-- nothing was written yet
abbrev pub IsBlank : Taped → Type 0
IsBlank tape = tape.written ≡ []

abbrev pub written_of : Option Talk → List ℕ
written_of None = []
written_of (Some talk) = talk.written

-- the bytes written in the conversation of this number, from 0 on; none where it has not begun
abbrev pub written_in : Told → ℕ → List ℕ
written_in told number = written_of (slice_get (ended_with told) number)
