-- One try and many: what a caller told and how often it had failed, before and after.
use Rattle.std.specs.Prelude.{◌≡◌, ℕ, zero, suc, ◌≤◌, ◌==◌, ◌&&◌, Bool, true, false, not, List, length, take, Option, IfSome, Result, Ok, Err}
use Rattle.vet_base.specs.Outside.{HasRisen}
use Rattle.desk_links.specs.Links.{Told}
use Rattle.desk_callers.specs.declared.caller.DialFault.TheVariants.{Failed}
use Rattle.desk_callers.specs.Dials.{Dialled}
use Rattle.desk_http.specs.Came.{TakesSome}
use Rattle.desk_http.specs.Replies.{Wrote}
use Rattle.client_replies.specs.declared.answered.Answered.{Answered}
use Rattle.client_replies.specs.declared.answered.ReplyFault.{ReplyFault}
use Rattle.client_replies.specs.declared.answered.ReplyFault.TheVariants.{Ended, ReadFault, BadReply, TooLong, Memory}
use Rattle.client_replies.specs.Replies.{Answers}
use Rattle.desk_client.specs.declared.one_try.TryFault.{TryFault}
use Rattle.desk_client.specs.declared.one_try.TryFault.TheVariants.{NotDialled, NotWritten, NotAnswered}
use Rattle.desk_client.specs.declared.submission.SubmitFault.{SubmitFault}
use Rattle.desk_client.specs.declared.submission.SubmitFault.TheVariants as submits

-- what is told of the dials, and the count of faults
pub record Moment : Type 0 where
  pub told : Option Told
  pub faults : ℕ

-- one asks again after 503 and 507 (RFC 9110, section 15.6.4; RFC 4918, section 11.5)
abbrev pub is_final : ℕ → Bool
is_final status = not (status == 503) && not (status == 507)

-- A connection was made, and nothing was written yet.
pub record Connects (a b : Moment) : Type 0 where
  pub told : Dialled a.told b.told (Ok tt)
  pub faults : a.faults ≤ b.faults

-- The whole request was written.
pub record Writes (request : List ℕ) (a b : Moment) : Type 0 where
  pub told : Wrote a.told b.told request
  pub faults : a.faults ≤ b.faults

-- A front of the request was written, and the caller failed.
pub record BreaksOff (request : List ℕ) (a b : Moment) : Type 0 where
  pub n : ℕ
  pub within : n ≤ length request
  pub told : Wrote a.told b.told (take n request)
  pub faults : HasRisen a.faults b.faults

-- Of the bytes that come some were taken, and all of them are answered so. `ReadFault` comes where the caller failed.
pub record Reads (a b : Moment) (r : Result Answered ReplyFault) : Type 0 where
  pub told : TakesSome a.told b.told
  pub answer : IfSome a.told (λ t. Answers t.coming r)
  pub cause : r ≡ Err ReadFault → HasRisen a.faults b.faults
  pub faults : a.faults ≤ b.faults

-- One try, from one moment to the next. Nothing is written but the request, and less than all of it only where the caller
-- failed in this try.
pub data IsTry (request : List ℕ) (a d : Moment) : Result Answered TryFault → Type 0 where
  not_dialled : Dialled a.told d.told (Err Failed) → HasRisen a.faults d.faults → IsTry request a d (Err NotDialled)
  not_written : (b : Moment) → Connects a b → BreaksOff request b d → IsTry request a d (Err NotWritten)
  not_answered : (b c : Moment) (fault : ReplyFault) → Connects a b → Writes request b c → Reads c d (Err fault) → IsTry request a d (Err (NotAnswered fault))
  answered : (b c : Moment) (reply : Answered) → Connects a b → Writes request b c → Reads c d (Ok reply) → IsTry request a d (Ok reply)

-- the try ended without a final reply, and memory did not run out
abbrev pub IsInVain : Result Answered TryFault → Type 0
IsInVain (Ok reply) = is_final reply.status ≡ false
IsInVain (Err NotDialled) = Unit {0}
IsInVain (Err NotWritten) = Unit {0}
IsInVain (Err (NotAnswered Ended)) = Unit {0}
IsInVain (Err (NotAnswered ReadFault)) = Unit {0}
IsInVain (Err (NotAnswered BadReply)) = Unit {0}
IsInVain (Err (NotAnswered TooLong)) = Unit {0}
IsInVain (Err (NotAnswered Memory)) = ⊥

-- the try ends a submission with this: a final reply, or want of memory
abbrev pub Ends : Result Answered TryFault → Result Answered SubmitFault → Type 0
Ends (Ok reply) (Ok end) = (end ≡ reply) × (is_final reply.status ≡ true)
Ends (Ok reply) (Err fault) = ⊥
Ends (Err NotDialled) end = ⊥
Ends (Err NotWritten) end = ⊥
Ends (Err (NotAnswered Ended)) end = ⊥
Ends (Err (NotAnswered ReadFault)) end = ⊥
Ends (Err (NotAnswered BadReply)) end = ⊥
Ends (Err (NotAnswered TooLong)) end = ⊥
Ends (Err (NotAnswered Memory)) end = end ≡ Err submits.Memory

-- At most so many tries, one after the other, up to the first that ends them.
pub data Runs (request : List ℕ) : ℕ → Moment → Result Answered SubmitFault → Moment → Type 0 where
  none_left : (a : Moment) → Runs request zero a (Err submits.NoReply) a
  ended : (n : ℕ) (a b : Moment) (r : Result Answered TryFault) (end : Result Answered SubmitFault)
      → IsTry request a b r → Ends r end → Runs request (suc n) a end b
  again : (n : ℕ) (a b c : Moment) (r : Result Answered TryFault) (end : Result Answered SubmitFault)
      → IsTry request a b r → IsInVain r → Runs request n b end c → Runs request (suc n) a end c
