-- What some bytes are answered. Behind each fact stands what a slip would answer.
use Rattle.std.specs.Prelude.{◌≡◌, ℕ, ◌<◌, List, [], ◌∷◌, ◌++◌, length, None, Result, Ok, Err, codes}
use Rattle.httparse.specs.Grammar.{Field, ResponseHead, lf, print_response}
use Rattle.client_replies.specs.declared.answered.Answered.{Answered}
use Rattle.client_replies.specs.declared.answered.ReplyFault.{ReplyFault}
use Rattle.client_replies.specs.declared.answered.ReplyFault.TheVariants.{BadReply, TooLong}
use Rattle.client_replies.specs.Laws.{IsOfBytes, SameAnswer}
use Rattle.client_replies.specs.Replies.{IsHead, Answers, length_after}

-- a reply with these digits of its status and these fields, without a phrase
abbrev pub replying : List ℕ → List Field → ResponseHead
replying digits fields = record { blank = []; minor = 1; digits = digits; reason = None; line_end = lf; fields = fields; last = lf }

abbrev pub line : List ℕ → List ℕ → Field
line name value = record { name = name; raw = value; end = lf }

abbrev pub length_line : List ℕ → Field
length_line value = line (codes "content-length") value

-- a reply that announces four bytes; these, of which the second and the third end an empty line; and one byte more
abbrev pub created : ResponseHead
created = replying (codes "201") (length_line (codes "4") ∷ [])

abbrev pub parted : List ℕ
parted = codes "a\n\nb"

abbrev pub created_bytes : List ℕ
created_bytes = print_response created ++ codes "a\n\nbc"

abbrev pub IsCreated : Result Answered ReplyFault → Type 0
IsCreated (Ok answered) = (answered.status ≡ 201) × (answered.body.items ≡ parted)
IsCreated (Err fault) = ⊥

-- heads with a coding and no length, with two lengths, with a length of eleven digits, with a signed one, and with one of a
-- byte more than the limit
abbrev pub coded : ResponseHead
coded = replying (codes "200") (line (codes "transfer-encoding") (codes "chunked") ∷ [])

abbrev pub two : ResponseHead
two = replying (codes "200") (length_line (codes "0") ∷ length_line (codes "0") ∷ [])

abbrev pub long : ResponseHead
long = replying (codes "200") (length_line (codes "00000000000") ∷ [])

abbrev pub signed : ResponseHead
signed = replying (codes "200") (length_line (codes "+0") ∷ [])

abbrev pub too_long : ResponseHead
too_long = replying (codes "200") (length_line (codes "1048577") ∷ [])

-- the bytes of this head have this answer alone, but for faults of the link and want of memory
abbrev pub HasAnswer : ResponseHead → ReplyFault → Type 0
HasAnswer head fault = (r : Result Answered ReplyFault) → IsOfBytes r → Answers (print_response head) r → SameAnswer r (Err fault)

pub record RepliesTell : Type 0 where
  -- a reply is its status and as many bytes as it announces, whatever stands in them and behind them (else its body would end
  -- at an empty line, or go on behind its end, or the reply would be none)
  pub created : (r : Result Answered ReplyFault) → IsOfBytes r → Answers created_bytes r → IsCreated r
  -- without a length a head is bad, also with a coding (else its body would be empty)
  pub no_length : HasAnswer coded BadReply
  -- so it is with two, even where they are one (else the first would be taken)
  pub one_length : HasAnswer two BadReply
  -- so it is with one of eleven digits (else it would be taken)
  pub ten_digits : HasAnswer long BadReply
  -- a sign is no digit (else it would be taken as one)
  pub no_sign : HasAnswer signed BadReply
  -- a body of 1,048,576 bytes is taken
  pub longest : length_after (codes "1048576" ∷ []) ≡ Ok 1048576
  -- one of 1,048,577 is too long (else, as it has not come, the reply would have ended early)
  pub limit : HasAnswer too_long TooLong
  -- a head of more than 64 fields is too long and nothing else (else one of 65 would be taken)
  pub many_fields : (bytes : List ℕ) (n : ℕ) (head : ResponseHead) → IsHead bytes n head → 64 < length head.fields
      → (r : Result Answered ReplyFault) → IsOfBytes r → Answers bytes r → SameAnswer r (Err TooLong)
