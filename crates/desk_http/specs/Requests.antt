-- Which bytes are a request, and what is wrong with those that are none (RFC 9112, sections 2, 3, 5 and 6).
use Rattle.std.specs.Prelude.{◌≡◌, ℕ, ◌<◌, ◌≤◌, ◌⊎◌, List, length, take, drop, Result, Ok, Err}
use Rattle.httparse.specs.Grammar.{RequestHead}
use Rattle.desk_http.specs.declared.asked.Asked.{Asked}
use Rattle.desk_http.specs.declared.asked.HttpFault.{HttpFault}
use Rattle.desk_http.specs.declared.asked.HttpFault.TheVariants.{Ended, ReadFault, Bad, NoLength, TooLong, BigHead, Memory}
use Rattle.desk_http.specs.declared.head.Head.{Head}
use Rattle.desk_http.specs.Heads.{HasNoEnd, IsHeadEnd, IsWholeHead, IsNoHead}
use Rattle.desk_http.specs.Fields.{is_post, body_length, token_of}

-- The first n bytes are a head: at most 16,384 bytes, up to the first empty line.
pub record IsHead (bytes : List ℕ) (n : ℕ) (head : RequestHead) : Type 0 where
  pub ends : IsHeadEnd bytes n
  pub small : n ≤ 16384
  pub whole : IsWholeHead (take n bytes) head

-- what is asked is what head and body say
pub record IsAsked (asked : Asked) (head : RequestHead) (body : List ℕ) : Type 0 where
  pub post : asked.post ≡ is_post head.method
  pub path : asked.path ≡ head.target
  pub token : asked.token ≡ token_of head
  pub body_is : asked.body.items ≡ body

-- The bytes begin with a request: a head of at most 64 fields, and as many bytes as it announces.
pub record IsRequest (bytes : List ℕ) (asked : Asked) : Type 0 where
  pub n : ℕ
  pub head : RequestHead
  pub is_head : IsHead bytes n head
  pub few : length head.fields ≤ 64
  pub count : ℕ
  pub announced : body_length head ≡ Ok count
  pub came : count ≤ length (drop n bytes)
  pub asked_is : IsAsked asked head (take count (drop n bytes))

-- 16,384 bytes came in which no head ends, or the head has more than 64 fields
abbrev pub IsBigHead : List ℕ → Type 0
IsBigHead bytes =
    ((16384 ≤ length bytes) × HasNoEnd bytes 16384)
    ⊎ ((n : ℕ) × (head : RequestHead) × IsHead bytes n head × (64 < length head.fields))

-- the bytes up to the end of the head are no head
abbrev pub HasNoHead : List ℕ → Type 0
HasNoHead bytes = (n : ℕ) × IsHeadEnd bytes n × (n ≤ 16384) × IsNoHead (take n bytes)

-- the head of at most 64 fields announces no body that is taken, and this is why
abbrev pub Announces : List ℕ → HttpFault → Type 0
Announces bytes fault =
    (n : ℕ) × (head : RequestHead) × IsHead bytes n head × (length head.fields ≤ 64) × (body_length head ≡ Err fault)

-- the bytes end before the head does, or before the body that the head announces
abbrev pub IsCut : List ℕ → Type 0
IsCut bytes =
    ((length bytes < 16384) × HasNoEnd bytes (length bytes))
    ⊎ ((n : ℕ) × (head : RequestHead) × (count : ℕ) × IsHead bytes n head × (length head.fields ≤ 64) × (body_length head ≡ Ok count) × (length (drop n bytes) < count))

-- What is answered to the bytes that come. A fault of the link and want of memory say nothing of them.
abbrev pub Answers : List ℕ → Result Asked HttpFault → Type 0
Answers bytes (Ok asked) = IsRequest bytes asked
Answers bytes (Err Ended) = IsCut bytes
Answers bytes (Err ReadFault) = Unit {0}
Answers bytes (Err Bad) = HasNoHead bytes ⊎ Announces bytes Bad
Answers bytes (Err NoLength) = Announces bytes NoLength
Answers bytes (Err TooLong) = Announces bytes TooLong
Answers bytes (Err BigHead) = IsBigHead bytes
Answers bytes (Err Memory) = Unit {0}

-- what a head says: whether it is a POST, its target, its token and the length of its body
pub record Says (said : Head) (head : RequestHead) : Type 0 where
  pub post : said.post ≡ is_post head.method
  pub path : said.path ≡ head.target
  pub token : said.token ≡ token_of head
  pub count : body_length head ≡ Ok said.length

-- what is answered to bytes that are to be a head as a whole
abbrev pub AnswersHead : List ℕ → Result Head HttpFault → Type 0
AnswersHead bytes (Ok said) = (head : RequestHead) × IsWholeHead bytes head × (length head.fields ≤ 64) × Says said head
AnswersHead bytes (Err Ended) = ⊥
AnswersHead bytes (Err ReadFault) = ⊥
AnswersHead bytes (Err Bad) = IsNoHead bytes ⊎ ((head : RequestHead) × IsWholeHead bytes head × (length head.fields ≤ 64) × (body_length head ≡ Err Bad))
AnswersHead bytes (Err NoLength) = (head : RequestHead) × IsWholeHead bytes head × (length head.fields ≤ 64) × (body_length head ≡ Err NoLength)
AnswersHead bytes (Err TooLong) = (head : RequestHead) × IsWholeHead bytes head × (length head.fields ≤ 64) × (body_length head ≡ Err TooLong)
AnswersHead bytes (Err BigHead) = (head : RequestHead) × IsWholeHead bytes head × (64 < length head.fields)
AnswersHead bytes (Err Memory) = Unit {0}
