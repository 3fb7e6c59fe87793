-- Which bytes are a reply, and what is wrong with those that are none (RFC 9112, sections 2, 4, 5 and 6).
use Rattle.std.specs.Prelude.{◌≡◌, ℕ, ◌<◌, ◌≤◌, ◌⊎◌, List, [], ◌∷◌, length, map, take, drop, Option, Some, None, Result, Ok, Err, if◌then◌else◌, nat_lt}
use Rattle.std.specs.Str.Parse.{digits_value}
use Rattle.httparse.specs.Grammar.{ResponseHead, ReadsResponse, status_code}
use Rattle.httparse.specs.Spans.{name_and_value}
use Rattle.desk_http.specs.Heads.{HasNoEnd, IsHeadEnd}
use Rattle.desk_http.specs.Fields.{FieldList, content_length, values_of, is_length}
use Rattle.client_replies.specs.declared.answered.Answered.{Answered}
use Rattle.client_replies.specs.declared.answered.ReplyFault.{ReplyFault}
use Rattle.client_replies.specs.declared.answered.ReplyFault.TheVariants.{Ended, ReadFault, BadReply, TooLong, Memory}
use Rattle.client_replies.specs.declared.head.Head.{Head}

-- the bytes are one head as a whole, in the grammar of the crate `httparse`
abbrev pub IsWholeHead : List ℕ → ResponseHead → Type 0
IsWholeHead bytes head = ReadsResponse bytes head []

abbrev pub IsNoHead : List ℕ → Type 0
IsNoHead bytes = (head : ResponseHead) → ¬ (IsWholeHead bytes head)

-- The first n bytes are a head: at most 16,384 bytes, up to the first empty line.
pub record IsHead (bytes : List ℕ) (n : ℕ) (head : ResponseHead) : Type 0 where
  pub ends : IsHeadEnd bytes n
  pub small : n ≤ 16384
  pub whole : IsWholeHead (take n bytes) head

-- the names and values of a head's fields, each value without the white space around it
abbrev pub fields_of : ResponseHead → FieldList
fields_of head = map name_and_value head.fields

-- the number that a length writes
abbrev pub number_in : List ℕ → Option ℕ
number_in value = if is_length value then Some (digits_value 10 value) else None

-- a length of at most 1,048,576
abbrev pub length_in : Option ℕ → Result ℕ ReplyFault
length_in None = Err BadReply
length_in (Some n) = if nat_lt 1048576 n then Err TooLong else Ok n

-- the length of the body by the values of the fields Content-Length: there is one alone
abbrev pub length_after : List (List ℕ) → Result ℕ ReplyFault
length_after [] = Err BadReply
length_after (value ∷ []) = length_in (number_in value)
length_after (value ∷ second ∷ values) = Err BadReply

-- the length of the body of a reply with this head
abbrev pub body_length : ResponseHead → Result ℕ ReplyFault
body_length head = length_after (values_of content_length (fields_of head))

-- what is answered is what head and body say
pub record IsAnswered (answered : Answered) (head : ResponseHead) (body : List ℕ) : Type 0 where
  pub status : answered.status ≡ status_code head
  pub body_is : answered.body.items ≡ body

-- The bytes begin with a reply: a head of at most 64 fields, and as many bytes as it announces.
pub record IsReply (bytes : List ℕ) (answered : Answered) : Type 0 where
  pub n : ℕ
  pub head : ResponseHead
  pub is_head : IsHead bytes n head
  pub few : length head.fields ≤ 64
  pub count : ℕ
  pub announced : body_length head ≡ Ok count
  pub came : count ≤ length (drop n bytes)
  pub answered_is : IsAnswered answered head (take count (drop n bytes))

-- 16,384 bytes came in which no head ends, or the head has more than 64 fields
abbrev pub IsBigHead : List ℕ → Type 0
IsBigHead bytes =
    ((16384 ≤ length bytes) × HasNoEnd bytes 16384)
    ⊎ ((n : ℕ) × (head : ResponseHead) × IsHead bytes n head × (64 < length head.fields))

-- the bytes up to the end of the head are no head
abbrev pub HasNoHead : List ℕ → Type 0
HasNoHead bytes = (n : ℕ) × IsHeadEnd bytes n × (n ≤ 16384) × IsNoHead (take n bytes)

-- the head of at most 64 fields announces no body that is taken, and this is why
abbrev pub Announces : List ℕ → ReplyFault → Type 0
Announces bytes fault =
    (n : ℕ) × (head : ResponseHead) × IsHead bytes n head × (length head.fields ≤ 64) × (body_length head ≡ Err fault)

-- the bytes end before the head does, or before the body that the head announces
abbrev pub IsCut : List ℕ → Type 0
IsCut bytes =
    ((length bytes < 16384) × HasNoEnd bytes (length bytes))
    ⊎ ((n : ℕ) × (head : ResponseHead) × (count : ℕ) × IsHead bytes n head × (length head.fields ≤ 64) × (body_length head ≡ Ok count) × (length (drop n bytes) < count))

-- What is answered to the bytes that come. A fault of the link and want of memory say nothing of them.
abbrev pub Answers : List ℕ → Result Answered ReplyFault → Type 0
Answers bytes (Ok answered) = IsReply bytes answered
Answers bytes (Err Ended) = IsCut bytes
Answers bytes (Err ReadFault) = Unit {0}
Answers bytes (Err BadReply) = HasNoHead bytes ⊎ Announces bytes BadReply
Answers bytes (Err TooLong) = IsBigHead bytes ⊎ Announces bytes TooLong
Answers bytes (Err Memory) = Unit {0}

-- what a head says: its status and the length of its body
pub record Says (said : Head) (head : ResponseHead) : Type 0 where
  pub status : said.status ≡ status_code head
  pub count : body_length head ≡ Ok said.length

-- what is answered to bytes that are to be a head as a whole
abbrev pub AnswersHead : List ℕ → Result Head ReplyFault → Type 0
AnswersHead bytes (Ok said) = (head : ResponseHead) × IsWholeHead bytes head × (length head.fields ≤ 64) × Says said head
AnswersHead bytes (Err Ended) = ⊥
AnswersHead bytes (Err ReadFault) = ⊥
AnswersHead bytes (Err BadReply) = IsNoHead bytes ⊎ ((head : ResponseHead) × IsWholeHead bytes head × (length head.fields ≤ 64) × (body_length head ≡ Err BadReply))
AnswersHead bytes (Err TooLong) =
    ((head : ResponseHead) × IsWholeHead bytes head × (64 < length head.fields))
    ⊎ ((head : ResponseHead) × IsWholeHead bytes head × (length head.fields ≤ 64) × (body_length head ≡ Err TooLong))
AnswersHead bytes (Err Memory) = Unit {0}
