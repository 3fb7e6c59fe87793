-- A caller in memory: what it holds, and at which calls it fails.
use Rattle.std.specs.Prelude.{◌≡◌, ℕ, zero, suc, ◌==◌, Bool, true, false, ◌&&◌, List, [], ◌∷◌, ◌++◌, map, Option, Some, None, is_some, length, not}
use Rattle.desk_links.specs.Links.{Talk, Told}
use Rattle.desk_links.specs.Memory.{Numbered, LinkState, fresh, talk_of}

-- the dials that are over, each with its connection or None where it failed; the present connection; for each dial to
-- come the connection that it makes, or None where it is to fail; how many failed; and the calls
pub record CallerState : Type 0 where
  pub ended : List (Option LinkState)
  pub present : Option LinkState
  pub left : List (Option LinkState)
  pub missed : ℕ
  pub calls : Numbered

-- a connection that has yet to be made, with this reply and so much room for what is written
abbrev pub waiting : ℕ → List ℕ → LinkState
waiting room reply = record { tape = fresh room reply; sizes = []; calls = record { failing = []; calls = 0; faults = 0 } }

-- what a dial with this reply will make; none fails
abbrev pub line : ℕ → Option (List ℕ) → Option LinkState
line room None = None
line room (Some reply) = Some (waiting room reply)

-- the dials that made a connection, as conversations
abbrev pub made : List (Option LinkState) → List Talk
made [] = []
made (None ∷ dials) = made dials
made (Some link ∷ dials) = talk_of link.tape ∷ made dials

abbrev pub reply_of : Option LinkState → List ℕ
reply_of None = []
reply_of (Some link) = link.tape.coming

abbrev pub written_by : Option LinkState → List ℕ
written_by None = []
written_by (Some link) = link.tape.written

-- what is told with this present connection, or none
abbrev pub told_by : List Talk → Option LinkState → List (List ℕ) → ℕ → Told
told_by ended present left missed = record {
  coming = reply_of present;
  written = written_by present;
  begun = is_some present;
  ended = ended;
  left = left;
  missed = missed;
}

abbrev pub told_by_caller : CallerState → Told
told_by_caller c = told_by (made c.ended) c.present (map reply_of c.left) c.missed

-- the dials that are over once the present connection is
abbrev pub hung : List (Option LinkState) → Option LinkState → List (Option LinkState)
hung ended None = ended
hung ended (Some link) = ended ++ Some link ∷ []

-- a dial that fails is over at once, where it is one of the list
abbrev pub failed_of : Option LinkState → List (Option LinkState) → List (Option LinkState)
failed_of (Some link) left = []
failed_of None [] = []
failed_of None (dial ∷ left) = None ∷ []

-- the dial is none of the list, or is one that fails
abbrev pub is_refused : List (Option LinkState) → Bool
is_refused [] = true
is_refused (None ∷ left) = true
is_refused (Some link ∷ left) = false

-- there are bytes to write, and no connection that takes any
abbrev pub takes_none : List ℕ → Option LinkState → Bool
takes_none bytes None = not (length bytes == 0)
takes_none bytes (Some link) = not (length bytes == 0) && (link.tape.room == 0)

-- the bytes written in the dial of this number, from 0 on; none where it failed or was not made
abbrev pub written_at : List (Option LinkState) → Option LinkState → ℕ → List ℕ
written_at [] present zero = written_by present
written_at [] present (suc n) = []
written_at (dial ∷ ended) present zero = written_by dial
written_at (dial ∷ ended) present (suc n) = written_at ended present n

-- no call fails by its number
abbrev pub NeverFails : Option LinkState → Type 0
NeverFails None = Unit {0}
NeverFails (Some link) = link.calls.failing ≡ []

-- besides, nothing was written yet
abbrev pub IsWaiting : Option LinkState → Type 0
IsWaiting None = Unit {0}
IsWaiting (Some link) = (link.tape.written ≡ []) × (link.calls.failing ≡ [])

abbrev pub count_of : Option LinkState → ℕ
count_of None = 0
count_of (Some link) = 1
