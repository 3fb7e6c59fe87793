-- That bytes have one answer.
use Rattle.std.specs.Prelude.{◌≡◌, ℕ, List, Result, Ok, Err}
use Rattle.desk_http.specs.declared.asked.Asked.{Asked}
use Rattle.desk_http.specs.declared.asked.HttpFault.{HttpFault}
use Rattle.desk_http.specs.declared.asked.HttpFault.TheVariants.{Ended, ReadFault, Bad, NoLength, TooLong, BigHead, Memory}
use Rattle.desk_http.specs.Requests.{Answers}

-- an answer to bytes, and no fault of the link or want of memory
abbrev pub IsOfBytes : Result Asked HttpFault → Type 0
IsOfBytes (Ok asked) = Unit {0}
IsOfBytes (Err Ended) = Unit {0}
IsOfBytes (Err ReadFault) = ⊥
IsOfBytes (Err Bad) = Unit {0}
IsOfBytes (Err NoLength) = Unit {0}
IsOfBytes (Err TooLong) = Unit {0}
IsOfBytes (Err BigHead) = Unit {0}
IsOfBytes (Err Memory) = ⊥

-- the same request, or the same fault
abbrev pub SameAnswer : Result Asked HttpFault → Result Asked HttpFault → Type 0
SameAnswer (Ok a) (Ok b) = (a.post ≡ b.post) × (a.path ≡ b.path) × (a.token ≡ b.token) × (a.body.items ≡ b.body.items)
SameAnswer (Ok a) (Err fault) = ⊥
SameAnswer (Err fault) (Ok b) = ⊥
SameAnswer (Err fault) (Err other) = fault ≡ other

-- two answers to the same bytes are the same
abbrev pub HaveOneAnswer : Type 0
HaveOneAnswer = (bytes : List ℕ) (r s : Result Asked HttpFault) → IsOfBytes r → IsOfBytes s → Answers bytes r → Answers bytes s → SameAnswer r s
