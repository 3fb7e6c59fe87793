-- How tries end over a caller that has yet to dial. Behind each fact stands what a slip would do.
use Rattle.std.specs.Prelude.{◌≡◌, ◌⊎◌, ℕ, ◌≤◌, false, List, [], ◌∷◌, length, map, All, Option, Some, None, Result, Ok, Err, codes}
use Rattle.httparse.specs.Grammar.{print_response}
use Rattle.desk_links.specs.Links.{Talk, Told, ended_with}
use Rattle.client_replies.specs.declared.answered.Answered.{Answered}
use Rattle.desk_client.specs.declared.submission.SubmitFault.{SubmitFault}
use Rattle.desk_client.specs.declared.submission.SubmitFault.TheVariants.{NoReply, Memory}
use Rattle.desk_client.specs.Tries.{Moment, Runs}
use Rattle.client_witness.specs.Replies.{replying, length_line, created_bytes}

-- a caller that has yet to dial, with the bytes of the reply of each dial to come, of which no call failed
abbrev pub calling : List (List ℕ) → Moment
calling replies = record { told = Some (record { coming = []; written = []; begun = false; ended = []; left = replies; missed = 0 }); faults = 0 }

-- what was written in each connection so far, in their order
abbrev pub written_in : Told → List (List ℕ)
written_in told = map (λ (talk : Talk). talk.written) (ended_with told)

abbrev pub written_by : Option Told → List (List ℕ)
written_by None = []
written_by (Some told) = written_in told

-- refused for good, and for now
abbrev pub conflict : List ℕ
conflict = print_response (replying (codes "409") (length_line (codes "0") ∷ []))

abbrev pub unavailable : List ℕ
unavailable = print_response (replying (codes "503") (length_line (codes "0") ∷ []))

-- the reply is that of a second connection, and in both the whole request was written; or memory ran out
abbrev pub IsOfSecond : List ℕ → Moment → Result Answered SubmitFault → Type 0
IsOfSecond request b (Ok reply) = (reply.status ≡ 201) × (written_by b.told ≡ request ∷ request ∷ [])
IsOfSecond request b (Err NoReply) = ⊥
IsOfSecond request b (Err Memory) = Unit {0}

pub record TriesTell : Type 0 where
  -- where no call failed the whole request was written in each connection (else its last byte would be missing, or a second try
  -- would have another reference)
  pub whole : (request : List ℕ) (n : ℕ) (replies : List (List ℕ)) (r : Result Answered SubmitFault) (b : Moment)
      → Runs request n (calling replies) r b → b.faults ≡ 0 → All (λ bytes. bytes ≡ request) (written_by b.told)
  -- there are no more connections than tries (else one dials once more)
  pub no_more : (request : List ℕ) (n : ℕ) (replies : List (List ℕ)) (r : Result Answered SubmitFault) (b : Moment)
      → Runs request n (calling replies) r b → b.faults ≡ 0 → length (written_by b.told) ≤ n
  -- and no fewer where no reply came (else one gives up early)
  pub no_fewer : (request : List ℕ) (n : ℕ) (replies : List (List ℕ)) (b : Moment)
      → Runs request n (calling replies) (Err NoReply) b → b.faults ≡ 0 → length (written_by b.told) ≡ n
  -- a reply that came is one (else each submission would have none)
  pub taken : (request : List ℕ) (b : Moment) → Runs request 1 (calling (created_bytes ∷ [])) (Err NoReply) b → b.faults ≡ 0 → ⊥
  -- a desk that is busy or full is asked again (else its reply would be final)
  pub not_final : (request : List ℕ) (n : ℕ) (a b : Moment) (reply : Answered)
      → Runs request n a (Ok reply) b → (reply.status ≡ 503) ⊎ (reply.status ≡ 507) → ⊥
  -- and a refusal is not (else it would be asked twice)
  pub refused : (request : List ℕ) (b : Moment) (r : Result Answered SubmitFault)
      → Runs request 2 (calling (conflict ∷ created_bytes ∷ [])) r b → b.faults ≡ 0 → length (written_by b.told) ≡ 1
  -- the reply is that of the last try (else that of the first)
  pub last : (request : List ℕ) (b : Moment) (reply : Answered)
      → Runs request 2 (calling (unavailable ∷ created_bytes ∷ [])) (Ok reply) b → b.faults ≡ 0 → reply.status ≡ 201
  -- where the first connection ended without a byte the same is sent again, and the reply to that is the one (else there would be
  -- none, or the desk would get two submissions)
  pub again : (request : List ℕ) (b : Moment) (r : Result Answered SubmitFault)
      → Runs request 2 (calling ([] ∷ created_bytes ∷ [])) r b → b.faults ≡ 0 → IsOfSecond request b r
