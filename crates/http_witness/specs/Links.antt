-- What links, doors, callers and clocks tell of some calls. Behind each fact stands what a slip would tell.
use Rattle.std.specs.Prelude.{◌≡◌, ℕ, true, false, List, [], ◌∷◌, Some, IfSome, Ok}
use Rattle.desk_links.specs.Links.{Talk, Told, OpensTold, without_first, with_written, closed, opened, missed_once}
use Rattle.desk_links.specs.Memory.{Numbered, Taped, given_count, fails_next, counted, written_in}

abbrev pub talk : List ℕ → Talk
talk written = record { coming = []; written = written }

-- a present conversation, by the bytes to come and the bytes written
abbrev pub present : List ℕ → List ℕ → Told
present coming written = record { coming = coming; written = written; begun = true; ended = []; left = []; missed = 0 }

-- a door before its one conversation, which could not be opened so many times
abbrev pub before : ℕ → Told
before missed = record { coming = []; written = []; begun = false; ended = []; left = (71 ∷ []) ∷ []; missed = missed }

-- a door behind its conversations
abbrev pub behind : List Talk → Told
behind ended = record { coming = []; written = []; begun = false; ended = ended; left = []; missed = 0 }

-- calls of which so many came and so many failed, where those of these numbers fail
abbrev pub numbered : List ℕ → ℕ → ℕ → Numbered
numbered failing calls faults = record { failing = failing; calls = calls; faults = faults }

-- a caller in its one conversation, with one reply to come
abbrev pub calling : Told
calling = record { coming = []; written = 72 ∷ []; begun = true; ended = []; left = (71 ∷ []) ∷ []; missed = 0 }

abbrev pub tape : Taped
tape = record { coming = 71 ∷ 72 ∷ []; written = []; reads = 0; room = 9 }

pub record LinksTell : Type 0 where
  -- a conversation that is over is kept (else it would be lost)
  pub kept : closed (present [] (72 ∷ [])) ≡ behind (talk (72 ∷ []) ∷ [])
  -- one that was opened has begun (else it would not have)
  pub begun : opened (71 ∷ []) [] (before 0) ≡ present (71 ∷ []) []
  -- one that was opened is not left (else it would be handed out twice)
  pub once : OpensTold (before 0) (Some (opened (71 ∷ []) ((71 ∷ []) ∷ []) (before 0))) (Ok true) → ⊥
  -- a dial ends the conversation before it, which is kept (else it would be lost)
  pub dialled : opened (71 ∷ []) [] calling ≡ record { coming = 71 ∷ []; written = []; begun = true; ended = talk (72 ∷ []) ∷ []; left = []; missed = 0 }
  -- an opening that failed is told (else none was missed)
  pub missed : missed_once (before 0) ≡ before 1
  -- a call that failed is counted as one that failed (else 0 would have)
  pub failure : counted true (numbered (1 ∷ []) 0 0) ≡ numbered (1 ∷ []) 1 1
  -- a write that nothing takes is one, though its number is not listed (else 0 would have)
  pub taken_by_none : counted true (numbered [] 0 0) ≡ numbered [] 1 1
  -- a call whose number is not listed does not fail (else every read would)
  pub succeeds : fails_next (numbered [] 0 0) ≡ false
  -- a piece of 0 bytes counts as one of 1 byte (else none would be read, as at the end)
  pub piece : given_count (0 ∷ []) tape 5 ≡ 1
  -- what was read does not come again (else the first byte would come twice)
  pub read : without_first 1 (present (71 ∷ 72 ∷ []) []) ≡ present (72 ∷ []) []
  -- what was written stands there (else nothing would)
  pub written : with_written (72 ∷ []) (present [] []) ≡ present [] (72 ∷ [])
  -- each conversation has its own bytes (else those of the first)
  pub second : written_in (behind (talk (65 ∷ []) ∷ talk (66 ∷ []) ∷ [])) 1 ≡ 66 ∷ []
  -- a day that is told is that day (else a clock at day 5 would give day 0)
  pub day : IfSome {T = ℕ} (Some 5) (λ day. 0 ≡ day) → ⊥
