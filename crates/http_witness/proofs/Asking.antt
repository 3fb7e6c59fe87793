-- Where a head ends and what it says is said by the bytes alone.
use Rattle.std.proofs.Common.{◌≡◌, ℕ, zero, suc, ◌<◌, Bool, true, false, List, [], ◌∷◌, take, drop, Ok, Err, refl, ap, sym, subst, ◌∙◌, arith, inl, inr, codes, lit<, lit≤}
use Rattle.std.proofs.lemmas.List.Elements.{All-from_recursion}
use Rattle.std.specs.Char.{encode_utf8}
use Rattle.std.specs.Prelude.{IsTrue}
use Rattle.httparse.specs.Grammar.{RequestHead, IsField, is_token_byte, is_uri_byte, print_request}
use Rattle.httparse.proofs.GrammarLemmas.{request_unique}
use Rattle.desk_http.specs.declared.asked.Asked.{Asked}
use Rattle.desk_http.specs.declared.asked.HttpFault.TheVariants.{Ended, BigHead}
use Rattle.desk_http.specs.Fields.{content_length, transfer_encoding, is_get, is_post, body_length}
use Rattle.desk_http.specs.Heads.{ends_empty_line, HasNoEnd, IsHeadEnd, IsWholeHead}
use Rattle.desk_http.specs.Requests.{Answers}
use Rattle.desk_http.proofs.OneAnswer.{one_answer}
use Rattle.http_witness.proofs.Announcing.{no_length, one_length, no_sign, limit}
use Rattle.http_witness.specs.Requests.{RequestsTell, bare, bare_head, empty_line, trailed}

ends_once : (bytes : List ℕ) (n : ℕ) → ends_empty_line (take n bytes) ≡ true → ends_empty_line (take n bytes) ≡ false → ⊥
ends_once bytes n ends goes_on = let clash : true ≡ false = sym ends ∙ goes_on in cc

equal_from : (n m : ℕ) → (n < m → ⊥) → (m < n → ⊥) → m ≡ n
equal_from zero zero below above = refl
equal_from zero (suc m) below above = absurd (below (omega arith))
equal_from (suc n) zero below above = absurd (above (omega arith))
equal_from (suc n) (suc m) below above = ap suc (equal_from n m (λ lt. below (omega arith)) (λ lt. above (omega arith)))

-- no place before is an end
abbrev QuietBefore : (ℕ → Bool) → ℕ → Type 0
QuietBefore ends zero = Unit {0}
QuietBefore ends (suc n) = (ends 0 ≡ false) × QuietBefore (λ k. ends (suc k)) n

quiet : (ends : ℕ → Bool) (n : ℕ) → QuietBefore ends n → (k : ℕ) → k < n → ends k ≡ false
quiet ends zero h k lt = absurd (omega (arith, lt))
quiet ends (suc n) h zero lt = h.0
quiet ends (suc n) h (suc k) lt = quiet (λ i. ends (suc i)) n h.1 k (omega (arith, lt))

-- the first end of these bytes is that behind 16
end_is : (bytes : List ℕ) → ends_empty_line (take 16 bytes) ≡ true → QuietBefore (λ k. ends_empty_line (take k bytes)) 16 → (m : ℕ) → IsHeadEnd bytes m → m ≡ 16
end_is bytes ends before m end =
    equal_from 16 m (λ lt. ends_once bytes 16 ends (end.first 16 lt)) (λ lt. ends_once bytes m end.ends (quiet (λ k. ends_empty_line (take k bytes)) 16 before m lt))

bare_is : IsWholeHead bare bare_head
unfolding is_token_byte print_request encode_utf8
bare_is = (
  record {
    method = (lit< tt, All-from_recursion (λ b. IsTrue (is_token_byte b)) (codes "GET") (refl, (refl, (refl, tt))));
    target = (lit< tt, All-from_recursion (λ b. IsTrue (is_uri_byte b)) (codes "/") (refl, tt));
    target_text = (47 ∷ [], (refl, refl));
    minor = lit≤ tt;
    fields = All-from_recursion IsField [] tt;
  },
  refl,
)

-- the head of bytes whose first 16 are that request is its head, and announces no body
no_count : (bytes : List ℕ) → take 16 bytes ≡ bare → (m : ℕ) → m ≡ 16 → (head : RequestHead) → IsWholeHead (take m bytes) head → (count : ℕ) → body_length head ≡ Ok count → count ≡ 0
unfolding content_length transfer_encoding is_get is_post
no_count bytes front m at head whole count says =
    let moved = subst (λ (xs : List ℕ). IsWholeHead xs head) (ap (λ (k : ℕ). take k bytes) at ∙ front) whole in
    let is : bare_head ≡ head = (request_unique bare bare_head head [] [] bare_is moved).0 in
    let same : Ok count ≡ Ok 0 = sym (ap body_length is ∙ says) in
    cc

bare_end : (m : ℕ) → IsHeadEnd bare m → m ≡ 16
unfolding ends_empty_line
bare_end m end = end_is bare refl (refl, (refl, (refl, (refl, (refl, (refl, (refl, (refl, (refl, (refl, (refl, (refl, (refl, (refl, (refl, (refl, tt)))))))))))))))) m end

trailed_end : (m : ℕ) → IsHeadEnd trailed m → m ≡ 16
unfolding ends_empty_line
trailed_end m end = end_is trailed refl (refl, (refl, (refl, (refl, (refl, (refl, (refl, (refl, (refl, (refl, (refl, (refl, (refl, (refl, (refl, (refl, tt)))))))))))))))) m end

bare_ends : ends_empty_line (take 16 bare) ≡ true
unfolding ends_empty_line
bare_ends = refl

not_cut : Answers bare (Err Ended) → ⊥
not_cut (inl h) = ends_once bare 16 bare_ends (h.1 16 (lit≤ tt))
not_cut (inr h) =
    let none = no_count bare refl h.0 (bare_end h.0 h.3.ends) h.1 h.3.whole h.2 h.5 in
    let less = h.6 in
    omega (arith, none, less)

no_body : (asked : Asked) → Answers trailed (Ok asked) → asked.body.items ≡ []
no_body asked h =
    let none = no_count trailed refl h.n (trailed_end h.n h.is_head.ends) h.head h.is_head.whole h.count h.announced in
    h.asked_is.body_is ∙ ap (λ (k : ℕ). take k (drop h.n trailed)) none

one_seen : HasNoEnd empty_line 1
unfolding ends_empty_line
one_seen zero h = refl
one_seen (suc zero) h = refl
one_seen (suc (suc k)) h = absurd (omega (arith, h))

both_end : ends_empty_line (take 2 empty_line) ≡ true
unfolding ends_empty_line
both_end = refl

pub requests_tell : RequestsTell
requests_tell = record {
  not_cut = not_cut;
  no_body = no_body;
  many_fields = λ bytes n head is many r of answers. one_answer bytes r (Err BigHead) of tt answers (inr (n, head, is, many));
  seen = lit≤ tt;
  not_yet = one_seen;
  ends = λ h. ends_once empty_line 2 both_end (h 2 (lit≤ tt));
  no_length = no_length;
  one_length = one_length;
  no_sign = no_sign;
  limit = limit;
}
