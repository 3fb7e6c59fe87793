-- That bytes have one answer.
use Rattle.std.specs.Prelude.{◌≡◌, ℕ, List, Result, Ok, Err}
use Rattle.client_replies.specs.declared.answered.Answered.{Answered}
use Rattle.client_replies.specs.declared.answered.ReplyFault.{ReplyFault}
use Rattle.client_replies.specs.declared.answered.ReplyFault.TheVariants.{Ended, ReadFault, BadReply, TooLong, Memory}
use Rattle.client_replies.specs.Replies.{Answers}

-- an answer to bytes, and no fault of the link or want of memory
abbrev pub IsOfBytes : Result Answered ReplyFault → Type 0
IsOfBytes (Ok answered) = Unit {0}
IsOfBytes (Err Ended) = Unit {0}
IsOfBytes (Err ReadFault) = ⊥
IsOfBytes (Err BadReply) = Unit {0}
IsOfBytes (Err TooLong) = Unit {0}
IsOfBytes (Err Memory) = ⊥

-- the same reply, or the same fault
abbrev pub SameAnswer : Result Answered ReplyFault → Result Answered ReplyFault → Type 0
SameAnswer (Ok a) (Ok b) = (a.status ≡ b.status) × (a.body.items ≡ b.body.items)
SameAnswer (Ok a) (Err fault) = ⊥
SameAnswer (Err fault) (Ok b) = ⊥
SameAnswer (Err fault) (Err other) = fault ≡ other

-- two answers to the same bytes are the same
abbrev pub HaveOneAnswer : Type 0
HaveOneAnswer = (bytes : List ℕ) (r s : Result Answered ReplyFault) → IsOfBytes r → IsOfBytes s → Answers bytes r → Answers bytes s → SameAnswer r s
