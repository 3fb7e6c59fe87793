-- What a head announces is answered by the bytes alone.
use Rattle.std.proofs.Common.{◌≡◌, ℕ, zero, suc, ◌<◌, Bool, true, false, cond, List, [], ◌∷◌, length, take, Err, refl, sym, subst, append-nil, ◌≤◌, arith, inr, codes, lit<, lit≤}
use Rattle.std.proofs.lemmas.List.Elements.{All-from_recursion}
use Rattle.std.specs.Char.{encode_utf8}
use Rattle.std.specs.List.{AllByRecursion}
use Rattle.std.specs.Prelude.{IsTrue}
use Rattle.httparse.specs.Grammar.{Field, IsField, RequestHead, is_token_byte, is_uri_byte, is_value_byte, print_request, trim_ows}
use Rattle.desk_http.specs.declared.asked.HttpFault.{HttpFault}
use Rattle.desk_http.specs.declared.asked.HttpFault.TheVariants.{Bad, NoLength, TooLong}
use Rattle.desk_http.specs.Fields.{content_length, transfer_encoding, has_name, is_length, is_get, is_post, body_length}
use Rattle.desk_http.specs.Heads.{ends_empty_line, IsWholeHead}
use Rattle.desk_http.specs.Laws.{IsOfBytes}
use Rattle.desk_http.specs.Requests.{IsHead, Announces, Answers}
use Rattle.desk_http.proofs.OneAnswer.{one_answer}
use Rattle.http_witness.specs.Requests.{HasAnswer, line, length_line, coded, two, signed, too_long}

-- no place before is an end
abbrev quiet_before : (ℕ → Bool) → ℕ → Bool
quiet_before ends zero = true
quiet_before ends (suc n) = cond (ends 0) false (quiet_before (λ k. ends (suc k)) n)

quiet : (ends : ℕ → Bool) (n : ℕ) → quiet_before ends n ≡ true → (k : ℕ) → k < n → ends k ≡ false
quiet ends zero h k lt = absurd (omega (arith, lt))
quiet ends (suc n) h k lt = by_first (ends 0) refl h (λ rest. quiet (λ i. ends (suc i)) n rest) k lt
  where
    by_first : (b : Bool) → ends 0 ≡ b → cond b false (quiet_before (λ i. ends (suc i)) n) ≡ true
        → (quiet_before (λ i. ends (suc i)) n ≡ true → (j : ℕ) → j < n → ends (suc j) ≡ false) → (k : ℕ) → k < suc n → ends k ≡ false
    by_first true is h later k lt = absurd cc
    by_first false is h later zero lt = is
    by_first false is h later (suc k) lt = later h k (omega (arith, lt))

-- each byte passes the test
abbrev pass : (ℕ → Bool) → List ℕ → Bool
pass test [] = true
pass test (b ∷ bytes) = cond (test b) (pass test bytes) false

all_pass : (test : ℕ → Bool) (bytes : List ℕ) → pass test bytes ≡ true → AllByRecursion (λ b. IsTrue (test b)) bytes
all_pass test [] h = tt
all_pass test (b ∷ bytes) h = by_test (test b) refl h (all_pass test bytes)
  where
    by_test : (t : Bool) → test b ≡ t → cond t (pass test bytes) false ≡ true
        → (pass test bytes ≡ true → AllByRecursion (λ c. IsTrue (test c)) bytes) → AllByRecursion (λ c. IsTrue (test c)) (b ∷ bytes)
    by_test true is h later = (is, later h)
    by_test false is h later = absurd cc

is_line : (name value : List ℕ) → 0 < length name → pass is_token_byte name ≡ true → pass is_value_byte value ≡ true → IsField (line name value)
is_line name value some token text = record {
  name = (some, All-from_recursion (λ b. IsTrue (is_token_byte b)) name (all_pass is_token_byte name token));
  raw = All-from_recursion (λ b. IsTrue (is_value_byte b)) value (all_pass is_value_byte value text);
}

is_length_line : (value : List ℕ) → pass is_value_byte value ≡ true → IsField (length_line value)
unfolding is_token_byte
is_length_line value text = is_line (codes "content-length") value (lit< tt) refl text

coded_is : IsWholeHead (print_request coded) coded
unfolding is_token_byte print_request encode_utf8
coded_is = (
  record {
    method = (lit< tt, All-from_recursion (λ b. IsTrue (is_token_byte b)) (codes "GET") (refl, (refl, (refl, tt))));
    target = (lit< tt, All-from_recursion (λ b. IsTrue (is_uri_byte b)) (codes "/") (refl, tt));
    target_text = (47 ∷ [], (refl, refl));
    minor = lit≤ tt;
    fields = All-from_recursion IsField coded.fields (is_line (codes "transfer-encoding") (codes "chunked") (lit< tt) refl refl, tt);
  },
  refl,
)

-- a POST with these lengths
abbrev posted : List Field → RequestHead
posted fields = record coded { method = codes "POST"; fields = fields }

posted_is : (fields : List Field) → AllByRecursion IsField fields → IsWholeHead (print_request (posted fields)) (posted fields)
unfolding is_token_byte encode_utf8
posted_is fields are = (
  record {
    method = (lit< tt, All-from_recursion (λ b. IsTrue (is_token_byte b)) (codes "POST") (refl, (refl, (refl, (refl, tt)))));
    target = (lit< tt, All-from_recursion (λ b. IsTrue (is_uri_byte b)) (codes "/") (refl, tt));
    target_text = (47 ∷ [], (refl, refl));
    minor = lit≤ tt;
    fields = All-from_recursion IsField fields are;
  },
  sym (append-nil (print_request (posted fields))),
)

-- a head of at most 16,384 bytes that ends with its last byte has the answer that it announces
answered : (head : RequestHead) (fault : HttpFault) → IsOfBytes (Err fault) → IsWholeHead (print_request head) head → length head.fields ≤ 64
    → (n : ℕ) → length (print_request head) ≡ n → n ≤ 16384 → take n (print_request head) ≡ print_request head
    → ends_empty_line (print_request head) ≡ true → quiet_before (λ k. ends_empty_line (take k (print_request head))) n ≡ true
    → (Announces (print_request head) fault → Answers (print_request head) (Err fault)) → body_length head ≡ Err fault → HasAnswer head fault
answered head fault of_fault whole few n count small all ends before answers says r of given =
    one_answer (print_request head) r (Err fault) of of_fault given (answers (n, head, is_head, few, says))
  where
    is_head : IsHead (print_request head) n head
    is_head = record {
      ends = record {
        within = omega (arith, count);
        ends = subst (λ (bytes : List ℕ). ends_empty_line bytes ≡ true) (sym all) ends;
        first = quiet (λ k. ends_empty_line (take k (print_request head))) n before;
      };
      small = small;
      whole = subst (λ (bytes : List ℕ). IsWholeHead bytes head) (sym all) whole;
    }

pub no_length : HasAnswer coded NoLength
unfolding print_request ends_empty_line trim_ows content_length transfer_encoding has_name is_length is_get is_post
no_length = answered coded NoLength tt coded_is (lit≤ tt) 42 refl (lit≤ tt) refl refl refl (λ h. h) refl

pub one_length : HasAnswer two Bad
unfolding print_request ends_empty_line trim_ows content_length transfer_encoding has_name is_length is_get is_post
one_length = answered two Bad tt (posted_is two.fields (is_length_line (codes "0") refl, (is_length_line (codes "0") refl, tt))) (lit≤ tt) 51 refl (lit≤ tt) refl refl refl inr refl

pub no_sign : HasAnswer signed Bad
unfolding print_request ends_empty_line trim_ows content_length transfer_encoding has_name is_length is_get is_post
no_sign = answered signed Bad tt (posted_is signed.fields (is_length_line (codes "+0") refl, tt)) (lit≤ tt) 35 refl (lit≤ tt) refl refl refl inr refl

pub limit : HasAnswer too_long TooLong
unfolding print_request ends_empty_line trim_ows content_length transfer_encoding has_name is_length is_get is_post
limit = answered too_long TooLong tt (posted_is too_long.fields (is_length_line (codes "67108865") refl, tt)) (lit≤ tt) 41 refl (lit≤ tt) refl refl refl (λ h. h) refl
