-- What a link, a door and a clock tell, and what a call of them does.
use Rattle.std.specs.Prelude.{◌≡◌, ℕ, ◌+◌, ◌<◌, ◌≤◌, min, Bool, true, false, List, [], ◌∷◌, ◌++◌, length, take, drop, Option, Some, None, IfSome, Result, Ok, Err, if◌then◌else◌}
use Rattle.std.specs.Option.{option_map}
use Rattle.desk_links.specs.declared.link.LinkFault.{LinkFault}
use Rattle.desk_links.specs.declared.door.DoorFault.{DoorFault}
use Rattle.desk_links.specs.declared.door.DoorFault.TheVariants as doors

-- one conversation: the bytes to come and the bytes written
pub record Talk : Type 0 where
  pub coming : List ℕ
  pub written : List ℕ

-- What a link tells: the bytes to come and the bytes written of the present conversation, and whether there is one;
-- the conversations before it; the bytes to come of those after it; and how often the next one could not be opened.
-- Where there is no conversation, nothing is to come and nothing was written. A link that is no door has one alone.
pub record Told : Type 0 where
  pub coming : List ℕ
  pub written : List ℕ
  pub begun : Bool
  pub ended : List Talk
  pub left : List (List ℕ)
  pub missed : ℕ

-- what is told once the first n bytes to come were taken
abbrev pub without_first : ℕ → Told → Told
without_first n t = record t { coming = drop n t.coming }

-- what is told once these bytes were written
abbrev pub with_written : List ℕ → Told → Told
with_written bytes t = record t { written = t.written ++ bytes }

-- The first n of the bytes to come stand at the front of the room, and the rest of the room is as before. They are one
-- at least where there is room and a byte to come.
pub record Gives (coming : List ℕ) (n : ℕ) (room filled : List ℕ) : Type 0 where
  pub within : n ≤ length coming
  pub front : filled ≡ take n coming ++ drop n room
  pub some : 0 < length room → 0 < length coming → 0 < n

-- An Ok takes away the bytes that it gives and changes nothing else that is told; a failure changes nothing that is told.
abbrev pub Reads : Option Told → Option Told → List ℕ → List ℕ → Result ℕ LinkFault → Type 0
Reads old new room filled (Ok n) = (new ≡ option_map (without_first n) old) × IfSome old (λ t. Gives t.coming n room filled)
Reads old new room filled (Err fault) = new ≡ old

-- An Ok takes a front of the bytes, one at least where there are some.
pub record IsFront (n : ℕ) (bytes : List ℕ) : Type 0 where
  pub within : n ≤ length bytes
  pub some : 0 < length bytes → 0 < n

-- It is written behind what was written, and nothing else that is told changes; a failure changes nothing that is told.
abbrev pub Writes : Option Told → Option Told → List ℕ → Result ℕ LinkFault → Type 0
Writes old new bytes (Ok n) = new ≡ option_map (with_written (take n bytes)) old
Writes old new bytes (Err fault) = new ≡ old

-- the conversations that are over once the present one is
abbrev pub ended_with : Told → List Talk
ended_with t = if t.begun then t.ended ++ (record { coming = t.coming; written = t.written }) ∷ [] else t.ended

-- what is told once the present conversation is over and none was opened
abbrev pub closed : Told → Told
closed t = record { coming = []; written = []; begun = false; ended = ended_with t; left = t.left; missed = t.missed }

-- what is told once the next conversation was opened
abbrev pub opened : List ℕ → List (List ℕ) → Told → Told
opened input rest t = record { coming = input; written = []; begun = true; ended = ended_with t; left = rest; missed = t.missed }

-- what is told once the next conversation could not be opened; the number stops at 2^64 - 1
abbrev pub missed_once : Told → Told
missed_once t = record t { missed = min (t.missed + 1) 18446744073709551615 }

-- What `next` does: where a conversation is left it is opened, where none is the present one is over; a failure opens
-- nothing and takes no conversation.
abbrev pub OpensTold : Told → Option Told → Result Bool DoorFault → Type 0
OpensTold t new (Ok true) = (input : List ℕ) × (rest : List (List ℕ)) × (t.left ≡ input ∷ rest) × (new ≡ Some (opened input rest t))
OpensTold t new (Ok false) = (t.left ≡ []) × (new ≡ Some (closed t))
OpensTold t new (Err doors.Failed) = new ≡ Some (missed_once t)
OpensTold t new (Err doors.Memory) = new ≡ Some t

abbrev pub Opens : Option Told → Option Told → Result Bool DoorFault → Type 0
Opens None new r = new ≡ None
Opens (Some t) new r = OpensTold t new r
