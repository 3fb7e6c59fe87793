-- Tries one after the other, as the loop makes them.
use Rattle.std.proofs.Common.{◌≡◌, ℕ, suc, ◌+◌, ◌-◌, ◌<◌, List, Result, Err, subst, arith}
use Rattle.client_replies.specs.declared.answered.Answered.{Answered}
use Rattle.desk_client.specs.declared.one_try.TryFault.{TryFault}
use Rattle.desk_client.specs.declared.submission.SubmitFault.{SubmitFault}
use Rattle.desk_client.specs.declared.submission.SubmitFault.TheVariants.{NoReply}
use Rattle.desk_client.specs.Tries.{Moment, IsTry, IsInVain, Ends, Runs, none_left, ended, again}

-- after i of n tries: as those that are left end from here, so does the whole
pub record Continues (request : List ℕ) (n i : ℕ) (start now : Moment) : Type 0 where
  pub go : (end : Result Answered SubmitFault) (last : Moment) (left : ℕ) → left + i ≡ n → Runs request left now end last → Runs request n start end last

pub begins : (request : List ℕ) (n : ℕ) (start : Moment) → Continues request n 0 start start
begins request n start = record {
  go = λ end last left is run. let all : left ≡ n = omega arith in subst (λ (k : ℕ). Runs request k start end last) all run;
}

pub goes_on : (request : List ℕ) (n i : ℕ) (start now next : Moment) (r : Result Answered TryFault) → IsTry request now next r → IsInVain r
    → Continues request n i start now → Continues request n (i + 1) start next
goes_on request n i start now next r tried vain so_far = record {
  go = λ end last left is run. so_far.go end last (suc left) (omega arith) (again left now next last r end tried vain run);
}

pub stops : (request : List ℕ) (n i : ℕ) (start now next : Moment) (r : Result Answered TryFault) (end : Result Answered SubmitFault) → i < n
    → IsTry request now next r → Ends r end → Continues request n i start now → Runs request n start end next
stops request n i start now next r end within tried ends so_far =
    so_far.go end next (suc (n - (i + 1))) (omega arith) (ended (n - (i + 1)) now next r end tried ends)

pub runs_out : (request : List ℕ) (n i : ℕ) (start now : Moment) → i ≡ n → Continues request n i start now → Runs request n start (Err NoReply) now
runs_out request n i start now over so_far = so_far.go (Err NoReply) now 0 (omega arith) (none_left now)
