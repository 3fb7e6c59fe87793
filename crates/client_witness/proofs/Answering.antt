-- What bytes are answered is computed from their head, which they alone have.
use Rattle.std.proofs.Common.{◌≡◌, ℕ, zero, suc, ◌<◌, ◌≤◌, Bool, true, false, cond, List, [], ◌∷◌, length, take, drop, Result, Ok, Err, refl, sym, subst, ◌∙◌, append-nil, arith, inl, inr, codes, lit<, lit≤}
use Rattle.std.proofs.lemmas.List.Elements.{All-from_recursion}
use Rattle.std.specs.Char.{is_ascii_digit}
use Rattle.std.specs.List.{AllByRecursion}
use Rattle.std.specs.Prelude.{IsTrue}
use Rattle.httparse.specs.Grammar.{Field, IsField, ResponseHead, IsResponseHead, is_token_byte, is_value_byte, print_response, status_code, trim_ows}
use Rattle.desk_http.specs.Fields.{content_length, has_name, is_length}
use Rattle.desk_http.specs.Heads.{ends_empty_line}
use Rattle.client_replies.specs.declared.answered.Answered.{Answered}
use Rattle.client_replies.specs.declared.answered.ReplyFault.{ReplyFault}
use Rattle.client_replies.specs.declared.answered.ReplyFault.TheVariants.{BadReply, TooLong}
use Rattle.client_replies.specs.Laws.{IsOfBytes, SameAnswer}
use Rattle.client_replies.specs.Replies.{IsHead, Answers, body_length}
use Rattle.client_replies.proofs.OneAnswer.{BodyCase, behind_head, one_answer}
use Rattle.client_witness.specs.Replies.{RepliesTell, HasAnswer, IsCreated, replying, line, length_line, created, created_bytes, coded, two, long, signed, too_long}
use Rattle.client_witness.specs.Tries.{conflict, unavailable}

-- no place before is an end
abbrev quiet_before : (ℕ → Bool) → ℕ → Bool
quiet_before ends zero = true
quiet_before ends (suc n) = cond (ends 0) false (quiet_before (λ k. ends (suc k)) n)

quiet : (ends : ℕ → Bool) (n : ℕ) → quiet_before ends n ≡ true → (k : ℕ) → k < n → ends k ≡ false
quiet ends zero h k lt = absurd (omega (arith, lt))
quiet ends (suc n) h k lt = by_first (ends 0) refl h (λ rest. quiet (λ i. ends (suc i)) n rest) k lt
  where
    by_first : (b : Bool) → ends 0 ≡ b → cond b false (quiet_before (λ i. ends (suc i)) n) ≡ true
        → (quiet_before (λ i. ends (suc i)) n ≡ true → (j : ℕ) → j < n → ends (suc j) ≡ false) → (k : ℕ) → k < suc n → ends k ≡ false
    by_first true is h later k lt = absurd cc
    by_first false is h later zero lt = is
    by_first false is h later (suc k) lt = later h k (omega (arith, lt))

-- each byte passes the test
abbrev pass : (ℕ → Bool) → List ℕ → Bool
pass test [] = true
pass test (b ∷ bytes) = cond (test b) (pass test bytes) false

all_pass : (test : ℕ → Bool) (bytes : List ℕ) → pass test bytes ≡ true → AllByRecursion (λ b. IsTrue (test b)) bytes
all_pass test [] h = tt
all_pass test (b ∷ bytes) h = by_test (test b) refl h (all_pass test bytes)
  where
    by_test : (t : Bool) → test b ≡ t → cond t (pass test bytes) false ≡ true
        → (pass test bytes ≡ true → AllByRecursion (λ c. IsTrue (test c)) bytes) → AllByRecursion (λ c. IsTrue (test c)) (b ∷ bytes)
    by_test true is h later = (is, later h)
    by_test false is h later = absurd cc

is_line : (name value : List ℕ) → 0 < length name → pass is_token_byte name ≡ true → pass is_value_byte value ≡ true → IsField (line name value)
is_line name value some token text = record {
  name = (some, All-from_recursion (λ b. IsTrue (is_token_byte b)) name (all_pass is_token_byte name token));
  raw = All-from_recursion (λ b. IsTrue (is_value_byte b)) value (all_pass is_value_byte value text);
}

is_length_line : (value : List ℕ) → pass is_value_byte value ≡ true → IsField (length_line value)
unfolding is_token_byte
is_length_line value text = is_line (codes "content-length") value (lit< tt) refl text

is_reply : (digits : List ℕ) (fields : List Field) → length digits ≡ 3 → pass is_ascii_digit digits ≡ true → AllByRecursion IsField fields → IsResponseHead (replying digits fields)
is_reply digits fields three are lines = record {
  minor = lit≤ tt;
  digits = (three, All-from_recursion (λ b. IsTrue (is_ascii_digit b)) digits (all_pass is_ascii_digit digits are));
  reason = All-from_recursion (λ b. IsTrue (is_value_byte b)) [] tt;
  fields = All-from_recursion IsField fields lines;
}

-- bytes that begin with a head, which ends where its first empty line does
pub has_head : (bytes : List ℕ) (n : ℕ) (head : ResponseHead) → IsResponseHead head → n ≤ length bytes → n ≤ 16384 → take n bytes ≡ print_response head
    → ends_empty_line (print_response head) ≡ true → quiet_before (λ k. ends_empty_line (take k bytes)) n ≡ true → IsHead bytes n head
has_head bytes n head valid within small front ends before = record {
  ends = record {
    within = within;
    ends = subst (λ (xs : List ℕ). ends_empty_line xs ≡ true) (sym front) ends;
    first = quiet (λ k. ends_empty_line (take k bytes)) n before;
  };
  small = small;
  whole = (valid, front ∙ sym (append-nil (print_response head)));
}

-- what a head announces is the answer, where that is a fault
refused : (head : ResponseHead) (fault : ReplyFault) (n : ℕ) → IsHead (print_response head) n head → length head.fields ≤ 64 → body_length head ≡ Err fault → HasAnswer head fault
refused head fault n is few says r of h =
    let due = subst (λ (l : Result ℕ ReplyFault). BodyCase head (drop n (print_response head)) l r) says (behind_head (print_response head) n head r is few of h) in
    subst (λ (x : Result Answered ReplyFault). SameAnswer x (Err fault)) (sym due) refl

no_length : HasAnswer coded BadReply
unfolding print_response ends_empty_line trim_ows content_length has_name is_length is_token_byte
no_length =
    refused coded BadReply 40
    (has_head (print_response coded) 40 coded (is_reply (codes "200") coded.fields refl refl (is_line (codes "transfer-encoding") (codes "chunked") (lit< tt) refl refl, tt)) (lit≤ tt) (lit≤ tt) refl refl refl)
    (lit≤ tt) refl

one_length : HasAnswer two BadReply
unfolding print_response ends_empty_line trim_ows content_length has_name is_length
one_length =
    refused two BadReply 48
    (has_head (print_response two) 48 two (is_reply (codes "200") two.fields refl refl (is_length_line (codes "0") refl, (is_length_line (codes "0") refl, tt))) (lit≤ tt) (lit≤ tt) refl refl refl)
    (lit≤ tt) refl

ten_digits : HasAnswer long BadReply
unfolding print_response ends_empty_line trim_ows content_length has_name is_length
ten_digits =
    refused long BadReply 41
    (has_head (print_response long) 41 long (is_reply (codes "200") long.fields refl refl (is_length_line (codes "00000000000") refl, tt)) (lit≤ tt) (lit≤ tt) refl refl refl)
    (lit≤ tt) refl

no_sign : HasAnswer signed BadReply
unfolding print_response ends_empty_line trim_ows content_length has_name is_length
no_sign =
    refused signed BadReply 32
    (has_head (print_response signed) 32 signed (is_reply (codes "200") signed.fields refl refl (is_length_line (codes "+0") refl, tt)) (lit≤ tt) (lit≤ tt) refl refl refl)
    (lit≤ tt) refl

limit : HasAnswer too_long TooLong
unfolding print_response ends_empty_line trim_ows content_length has_name is_length
limit =
    refused too_long TooLong 37
    (has_head (print_response too_long) 37 too_long (is_reply (codes "200") too_long.fields refl refl (is_length_line (codes "1048577") refl, tt)) (lit≤ tt) (lit≤ tt) refl refl refl)
    (lit≤ tt) refl

by_body : (r : Result Answered ReplyFault) → BodyCase created (codes "a\n\nbc") (Ok 4) r → IsCreated r
by_body r (inl h) = let less = h.0 in absurd (omega (arith, less))
by_body r (inr h) = subst IsCreated (sym h.2) (h.3.status, h.3.body_is)

pub is_created : (r : Result Answered ReplyFault) → IsOfBytes r → Answers created_bytes r → IsCreated r
unfolding print_response ends_empty_line trim_ows content_length has_name is_length
is_created r of h =
    by_body r
    (behind_head created_bytes 31 created r
    (has_head created_bytes 31 created (is_reply (codes "201") created.fields refl refl (is_length_line (codes "4") refl, tt)) (lit≤ tt) (lit≤ tt) refl refl refl)
    (lit≤ tt) of h)

-- the reply has this status
abbrev pub HasStatus : ℕ → Result Answered ReplyFault → Type 0
HasStatus status (Ok answered) = answered.status ≡ status
HasStatus status (Err fault) = ⊥

pub created_status : (r : Result Answered ReplyFault) → IsCreated r → HasStatus 201 r
created_status (Ok answered) is = is.0
created_status (Err fault) is = absurd is

no_body : (head : ResponseHead) (rest : List ℕ) (r : Result Answered ReplyFault) → BodyCase head rest (Ok 0) r → HasStatus (status_code head) r
no_body head rest r (inl h) = let less = h.0 in absurd (omega (arith, less))
no_body head rest r (inr h) = subst (HasStatus (status_code head)) (sym h.2) h.3.status

pub is_conflict : (r : Result Answered ReplyFault) → IsOfBytes r → Answers conflict r → HasStatus 409 r
unfolding print_response ends_empty_line trim_ows content_length has_name is_length
is_conflict r of h =
    let head = replying (codes "409") (length_line (codes "0") ∷ []) in
    no_body head [] r
    (behind_head conflict 31 head r
    (has_head conflict 31 head (is_reply (codes "409") head.fields refl refl (is_length_line (codes "0") refl, tt)) (lit≤ tt) (lit≤ tt) refl refl refl)
    (lit≤ tt) of h)

pub is_unavailable : (r : Result Answered ReplyFault) → IsOfBytes r → Answers unavailable r → HasStatus 503 r
unfolding print_response ends_empty_line trim_ows content_length has_name is_length
is_unavailable r of h =
    let head = replying (codes "503") (length_line (codes "0") ∷ []) in
    no_body head [] r
    (behind_head unavailable 31 head r
    (has_head unavailable 31 head (is_reply (codes "503") head.fields refl refl (is_length_line (codes "0") refl, tt)) (lit≤ tt) (lit≤ tt) refl refl refl)
    (lit≤ tt) of h)

pub replies_tell : RepliesTell
unfolding is_length
replies_tell = record {
  created = is_created;
  no_length = no_length;
  one_length = one_length;
  ten_digits = ten_digits;
  no_sign = no_sign;
  longest = refl;
  limit = limit;
  many_fields = λ bytes n head is many r of h. one_answer bytes r (Err TooLong) of tt h (inl (inr (n, head, is, many)));
}
