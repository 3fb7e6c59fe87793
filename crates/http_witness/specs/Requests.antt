-- What some bytes are answered, and what they are not. Behind each fact stands what a slip would answer.
use Rattle.std.specs.Prelude.{◌≡◌, ℕ, ◌<◌, ◌≤◌, List, [], ◌∷◌, length, Result, Ok, Err, codes}
use Rattle.httparse.specs.Grammar.{Field, RequestHead, lf, print_request}
use Rattle.desk_http.specs.declared.asked.Asked.{Asked}
use Rattle.desk_http.specs.declared.asked.HttpFault.{HttpFault}
use Rattle.desk_http.specs.declared.asked.HttpFault.TheVariants.{Ended, Bad, NoLength, TooLong, BigHead}
use Rattle.desk_http.specs.Heads.{HasNoEnd}
use Rattle.desk_http.specs.Laws.{IsOfBytes, SameAnswer}
use Rattle.desk_http.specs.Requests.{IsHead, Answers}

-- a GET of `/` without fields
abbrev pub bare_head : RequestHead
bare_head = record { blank = []; method = codes "GET"; target = codes "/"; minor = 1; line_end = lf; fields = []; last = lf }

abbrev pub bare : List ℕ
bare = codes "GET / HTTP/1.1\n\n"

-- with one byte more
abbrev pub trailed : List ℕ
trailed = codes "GET / HTTP/1.1\n\nX"

-- an empty line alone
abbrev pub empty_line : List ℕ
empty_line = 10 ∷ 10 ∷ []

-- a request for `/` by a method, with some fields and no body
abbrev pub asking : List ℕ → List Field → RequestHead
asking method fields = record { blank = []; method = method; target = codes "/"; minor = 1; line_end = lf; fields = fields; last = lf }

abbrev pub line : List ℕ → List ℕ → Field
line name value = record { name = name; raw = value; end = lf }

abbrev pub length_line : List ℕ → Field
length_line value = line (codes "content-length") value

-- a GET with a coding; a POST with two lengths, with a signed one, and with one of a byte more than the limit
abbrev pub coded : RequestHead
coded = asking (codes "GET") (line (codes "transfer-encoding") (codes "chunked") ∷ [])

abbrev pub two : RequestHead
two = asking (codes "POST") (length_line (codes "0") ∷ length_line (codes "0") ∷ [])

abbrev pub signed : RequestHead
signed = asking (codes "POST") (length_line (codes "+0") ∷ [])

abbrev pub too_long : RequestHead
too_long = asking (codes "POST") (length_line (codes "67108865") ∷ [])

-- the bytes of this head have this answer alone, but for faults of the link and want of memory
abbrev pub HasAnswer : RequestHead → HttpFault → Type 0
HasAnswer head fault = (r : Result Asked HttpFault) → IsOfBytes r → Answers (print_request head) r → SameAnswer r (Err fault)

pub record RequestsTell : Type 0 where
  -- a request without a body is whole where its head is (else it would have ended early, as it would where the link failed before it)
  pub not_cut : Answers bare (Err Ended) → ⊥
  -- what stands behind a request is no part of its body (else a byte of it would be)
  pub no_body : (asked : Asked) → Answers trailed (Ok asked) → asked.body.items ≡ []
  -- a head of more than 64 fields is a big one and nothing else (else one of 65 would be taken)
  pub many_fields : (bytes : List ℕ) (n : ℕ) (head : RequestHead) → IsHead bytes n head → 64 < length head.fields
      → (r : Result Asked HttpFault) → IsOfBytes r → Answers bytes r → SameAnswer r (Err BigHead)
  -- LF LF ends a head (else only LF CR LF would), also where the first LF was seen before (else it would go on)
  pub seen : 1 ≤ length empty_line
  pub not_yet : HasNoEnd empty_line 1
  pub ends : HasNoEnd empty_line (length empty_line) → ⊥
  -- a GET with a coding has no length (else it would be taken, without a body)
  pub no_length : HasAnswer coded NoLength
  -- two lengths are none, even where they are one (else the first would be taken)
  pub one_length : HasAnswer two Bad
  -- a sign is no digit (else it would be taken as one)
  pub no_sign : HasAnswer signed Bad
  -- a body of 67,108,865 bytes is too long (else one that has not come would have ended early)
  pub limit : HasAnswer too_long TooLong
