-- Bytes have one answer: where the head ends, whether it is one, how many fields it has and what it announces are each
-- said by the bytes alone.
use Rattle.std.proofs.Common.{◌≡◌, ℕ, zero, suc, ◌<◌, ◌≤◌, ◌⊎◌, true, false, List, [], length, take, drop, Result, Ok, Err, refl, ap, sym, subst, ◌∙◌, arith, inl, inr}
use Rattle.httparse.specs.Grammar.{ResponseHead}
use Rattle.httparse.proofs.GrammarLemmas.{response_unique}
use Rattle.client_replies.specs.declared.answered.Answered.{Answered}
use Rattle.client_replies.specs.declared.answered.ReplyFault.{ReplyFault}
use Rattle.client_replies.specs.declared.answered.ReplyFault.TheVariants.{Ended, ReadFault, BadReply, TooLong, Memory}
use Rattle.desk_http.specs.Heads.{ends_empty_line, HasNoEnd, IsHeadEnd}
use Rattle.client_replies.specs.Replies.{IsWholeHead, IsNoHead, IsHead, body_length, IsAnswered, Answers}
use Rattle.client_replies.specs.Laws.{SameAnswer, IsOfBytes}

-- what comes of a body of this length, or of none, in what stands behind the head
abbrev pub BodyCase : ResponseHead → List ℕ → Result ℕ ReplyFault → Result Answered ReplyFault → Type 0
BodyCase head rest (Err fault) r = r ≡ Err fault
BodyCase head rest (Ok count) r =
    ((length rest < count) × (r ≡ Err Ended)) ⊎ ((count ≤ length rest) × (answered : Answered) × (r ≡ Ok answered) × IsAnswered answered head (take count rest))

-- what comes of the bytes up to the end of the head, and of those behind it
abbrev HeadCase : List ℕ → List ℕ → Result Answered ReplyFault → Type 0
HeadCase front rest r =
    (IsNoHead front × (r ≡ Err BadReply))
    ⊎ ((head : ResponseHead) × IsWholeHead front head
    × (((64 < length head.fields) × (r ≡ Err TooLong)) ⊎ ((length head.fields ≤ 64) × BodyCase head rest (body_length head) r)))

-- what comes of all bytes
abbrev Case : List ℕ → Result Answered ReplyFault → Type 0
Case bytes r =
    ((16384 ≤ length bytes) × HasNoEnd bytes 16384 × (r ≡ Err TooLong))
    ⊎ (((length bytes < 16384) × HasNoEnd bytes (length bytes) × (r ≡ Err Ended))
    ⊎ ((n : ℕ) × IsHeadEnd bytes n × (n ≤ 16384) × HeadCase (take n bytes) (drop n bytes) r))

announced_case : (bytes : List ℕ) (fault : ReplyFault) (n : ℕ) (head : ResponseHead) → IsHead bytes n head → length head.fields ≤ 64 → body_length head ≡ Err fault → Case bytes (Err fault)
announced_case bytes fault n head is few says =
    inr (inr (n, is.ends, is.small, inr (head, is.whole, inr (few, subst (λ (r : Result ℕ ReplyFault). BodyCase head (drop n bytes) r (Err fault)) (sym says) refl))))

case_of : (bytes : List ℕ) (r : Result Answered ReplyFault) → IsOfBytes r → Answers bytes r → Case bytes r
case_of bytes (Ok answered) of h =
    inr (inr (
      h.n,
      h.is_head.ends,
      h.is_head.small,
      inr (
        h.head,
        h.is_head.whole,
        inr (
          h.few,
          subst (λ (r : Result ℕ ReplyFault). BodyCase h.head (drop h.n bytes) r (Ok answered)) (sym h.announced) (inr (h.came, answered, refl, h.answered_is)),
        ),
      ),
    ))
case_of bytes (Err Ended) of (inl h) = inr (inl (h.0, h.1, refl))
case_of bytes (Err Ended) of (inr h) =
    inr (inr (
      h.0,
      h.3.ends,
      h.3.small,
      inr (
        h.1,
        h.3.whole,
        inr (
          h.4,
          subst (λ (r : Result ℕ ReplyFault). BodyCase h.1 (drop h.0 bytes) r (Err Ended)) (sym h.5) (inl (h.6, refl)),
        ),
      ),
    ))
case_of bytes (Err ReadFault) of h = absurd of
case_of bytes (Err BadReply) of (inl h) = inr (inr (h.0, h.1, h.2, inl (h.3, refl)))
case_of bytes (Err BadReply) of (inr h) = announced_case bytes BadReply h.0 h.1 h.2 h.3 h.4
case_of bytes (Err TooLong) of (inl (inl h)) = inl (h.0, h.1, refl)
case_of bytes (Err TooLong) of (inl (inr h)) = inr (inr (h.0, h.2.ends, h.2.small, inr (h.1, h.2.whole, inl (h.3, refl))))
case_of bytes (Err TooLong) of (inr h) = announced_case bytes TooLong h.0 h.1 h.2 h.3 h.4
case_of bytes (Err Memory) of h = absurd of

-- one answer from two equal ones
same : (r s t : Result Answered ReplyFault) → SameAnswer t t → r ≡ t → s ≡ t → SameAnswer r s
same r s t itself first second = subst (λ (x : Result Answered ReplyFault). SameAnswer x s) (sym first) (subst (λ (y : Result Answered ReplyFault). SameAnswer t y) (sym second) itself)

ends_once : (bytes : List ℕ) (n : ℕ) → ends_empty_line (take n bytes) ≡ true → ends_empty_line (take n bytes) ≡ false → ⊥
ends_once bytes n ends goes_on = let clash : true ≡ false = sym ends ∙ goes_on in cc

none_and_end : (bytes : List ℕ) (most n : ℕ) → HasNoEnd bytes most → IsHeadEnd bytes n → n ≤ most → ⊥
none_and_end bytes most n none end within = ends_once bytes n end.ends (none n within)

-- two bodies behind one head
one_body : (head : ResponseHead) (rest : List ℕ) (length_is : Result ℕ ReplyFault) (r s : Result Answered ReplyFault) → BodyCase head rest length_is r → BodyCase head rest length_is s → SameAnswer r s
one_body head rest (Err fault) r s first second = same r s (Err fault) refl first second
one_body head rest (Ok count) r s (inl first) (inl second) = same r s (Err Ended) refl first.1 second.1
one_body head rest (Ok count) r s (inl first) (inr second) = absurd (omega (arith, first.0, second.0))
one_body head rest (Ok count) r s (inr first) (inl second) = absurd (omega (arith, first.0, second.0))
one_body head rest (Ok count) r s (inr first) (inr second) =
    let a = first.3 in
    let b = second.3 in
    subst (λ (x : Result Answered ReplyFault). SameAnswer x s) (sym first.2) (subst (λ (y : Result Answered ReplyFault). SameAnswer (Ok first.1) y) (sym second.2)
    (a.status ∙ sym b.status, a.body_is ∙ sym b.body_is))

same_head : (rest : List ℕ) (head : ResponseHead) (r s : Result Answered ReplyFault)
    → ((64 < length head.fields) × (r ≡ Err TooLong)) ⊎ ((length head.fields ≤ 64) × BodyCase head rest (body_length head) r)
    → ((64 < length head.fields) × (s ≡ Err TooLong)) ⊎ ((length head.fields ≤ 64) × BodyCase head rest (body_length head) s) → SameAnswer r s
same_head rest head r s (inl first) (inl second) = same r s (Err TooLong) refl first.1 second.1
same_head rest head r s (inl first) (inr second) = absurd (omega (arith, first.0, second.0))
same_head rest head r s (inr first) (inl second) = absurd (omega (arith, first.0, second.0))
same_head rest head r s (inr first) (inr second) = one_body head rest (body_length head) r s first.1 second.1

-- two readings of one head
one_head : (front rest : List ℕ) (r s : Result Answered ReplyFault) → HeadCase front rest r → HeadCase front rest s → SameAnswer r s
one_head front rest r s (inl first) (inl second) = same r s (Err BadReply) refl first.1 second.1
one_head front rest r s (inl first) (inr second) = absurd (first.0 second.0 second.1)
one_head front rest r s (inr first) (inl second) = absurd (second.0 first.0 first.1)
one_head front rest r s (inr first) (inr second) =
    let is : second.0 ≡ first.0 = sym (response_unique front first.0 second.0 [] [] first.1 second.1).0 in
    let moved = subst (λ (head : ResponseHead). ((64 < length head.fields) × (s ≡ Err TooLong)) ⊎ ((length head.fields ≤ 64) × BodyCase head rest (body_length head) s)) is second.2 in
    same_head rest first.0 r s first.2 moved

equal_from : (n m : ℕ) → (n < m → ⊥) → (m < n → ⊥) → m ≡ n
equal_from zero zero below above = refl
equal_from zero (suc m) below above = absurd (below (omega arith))
equal_from (suc n) zero below above = absurd (above (omega arith))
equal_from (suc n) (suc m) below above = ap suc (equal_from n m (λ lt. below (omega arith)) (λ lt. above (omega arith)))

-- two places where the head ends
one_end : (bytes : List ℕ) (n m : ℕ) → IsHeadEnd bytes n → IsHeadEnd bytes m → m ≡ n
one_end bytes n m first second =
    let not_below : n < m → ⊥ = λ lt. ends_once bytes n first.ends (second.first n lt) in
    let not_above : m < n → ⊥ = λ lt. ends_once bytes m second.ends (first.first m lt) in
    equal_from n m not_below not_above

one_case : (bytes : List ℕ) (r s : Result Answered ReplyFault) → Case bytes r → Case bytes s → SameAnswer r s
one_case bytes r s (inl first) (inl second) = same r s (Err TooLong) refl first.2 second.2
one_case bytes r s (inl first) (inr (inl second)) = absurd (omega (arith, first.0, second.0))
one_case bytes r s (inl first) (inr (inr second)) = absurd (none_and_end bytes 16384 second.0 first.1 second.1 second.2)
one_case bytes r s (inr (inl first)) (inl second) = absurd (omega (arith, first.0, second.0))
one_case bytes r s (inr (inl first)) (inr (inl second)) = same r s (Err Ended) refl first.2 second.2
one_case bytes r s (inr (inl first)) (inr (inr second)) = absurd (none_and_end bytes (length bytes) second.0 first.1 second.1 second.1.within)
one_case bytes r s (inr (inr first)) (inl second) = absurd (none_and_end bytes 16384 first.0 second.1 first.1 first.2)
one_case bytes r s (inr (inr first)) (inr (inl second)) = absurd (none_and_end bytes (length bytes) first.0 second.1 first.1 first.1.within)
one_case bytes r s (inr (inr first)) (inr (inr second)) =
    let moved = subst (λ (n : ℕ). HeadCase (take n bytes) (drop n bytes) s) (one_end bytes first.0 second.0 first.1 second.1) second.3 in
    one_head (take first.0 bytes) (drop first.0 bytes) r s first.3 moved

pub one_answer : (bytes : List ℕ) (r s : Result Answered ReplyFault) → IsOfBytes r → IsOfBytes s → Answers bytes r → Answers bytes s → SameAnswer r s
one_answer bytes r s of_first of_second first second = one_case bytes r s (case_of bytes r of_first first) (case_of bytes s of_second second)

by_few : (rest : List ℕ) (head : ResponseHead) (r : Result Answered ReplyFault) → length head.fields ≤ 64
    → ((64 < length head.fields) × (r ≡ Err TooLong)) ⊎ ((length head.fields ≤ 64) × BodyCase head rest (body_length head) r) → BodyCase head rest (body_length head) r
by_few rest head r few (inl h) = absurd (omega (arith, h.0, few))
by_few rest head r few (inr h) = h.1

by_head : (front rest : List ℕ) (head : ResponseHead) (r : Result Answered ReplyFault) → IsWholeHead front head → length head.fields ≤ 64 → HeadCase front rest r → BodyCase head rest (body_length head) r
by_head front rest head r whole few (inl h) = absurd (h.0 head whole)
by_head front rest head r whole few (inr h) =
    let is : h.0 ≡ head = sym (response_unique front head h.0 [] [] whole h.1).0 in
    by_few rest head r few (subst (λ (k : ResponseHead). ((64 < length k.fields) × (r ≡ Err TooLong)) ⊎ ((length k.fields ≤ 64) × BodyCase k rest (body_length k) r)) is h.2)

by_case : (bytes : List ℕ) (n : ℕ) (head : ResponseHead) (r : Result Answered ReplyFault) → IsHead bytes n head → length head.fields ≤ 64 → Case bytes r → BodyCase head (drop n bytes) (body_length head) r
by_case bytes n head r is few (inl h) = absurd (none_and_end bytes 16384 n h.1 is.ends is.small)
by_case bytes n head r is few (inr (inl h)) = absurd (none_and_end bytes (length bytes) n h.1 is.ends is.ends.within)
by_case bytes n head r is few (inr (inr h)) =
    by_head (take n bytes) (drop n bytes) head r is.whole few (subst (λ (m : ℕ). HeadCase (take m bytes) (drop m bytes) r) (one_end bytes n h.0 is.ends h.1) h.3)

-- bytes whose head is known are answered by what it announces
pub behind_head : (bytes : List ℕ) (n : ℕ) (head : ResponseHead) (r : Result Answered ReplyFault) → IsHead bytes n head → length head.fields ≤ 64 → IsOfBytes r → Answers bytes r
    → BodyCase head (drop n bytes) (body_length head) r
behind_head bytes n head r is few of h = by_case bytes n head r is few (case_of bytes r of h)
