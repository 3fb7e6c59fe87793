-- From what was read to what is answered to all that comes.
use Rattle.std.proofs.Common.{◌≡◌, ◌≢◌, ℕ, ◌≤◌, ◌<◌, ◌⊎◌, List, [], ◌++◌, Option, Some, None, Result, Ok, Err, IfSome, length, take, drop, refl, ap, sym, subst, ◌∙◌, arith, inl, inr, length-append}
use Rattle.std.proofs.lemmas.List.{take-append-le, append_assoc, length-take-le}
use Rattle.std.proofs.Math.Seq.{take-append_seam, drop-append_seam}
use Rattle.httparse.specs.Grammar.{ResponseHead}
use Rattle.desk_links.specs.Links.{Told}
use Rattle.client_replies.specs.declared.answered.Answered.{Answered}
use Rattle.client_replies.specs.declared.answered.ReplyFault.{ReplyFault}
use Rattle.client_replies.specs.declared.answered.ReplyFault.TheVariants.{Ended, ReadFault, BadReply, TooLong, Memory}
use Rattle.client_replies.specs.declared.head.Head.{Head}
use Rattle.desk_http.specs.Came.{Takes, IsAtEnd}
use Rattle.desk_http.specs.Heads.{HasNoEnd, IsHeadEnd}
use Rattle.client_replies.specs.Replies.{IsWholeHead, IsNoHead, IsHead, IsReply, Answers, AnswersHead, IsCut, IsBigHead}
use Rattle.desk_http.proofs.Coming.{came, came_whole}
use Rattle.desk_http.proofs.Ends.{no_end_stays, head_end_stays, head_end_front}

-- what is answered to all that comes, where the link tells it
abbrev pub AnswersTold : Option Told → Result Answered ReplyFault → Type 0
AnswersTold told r = IfSome told (λ t. Answers t.coming r)

pub cut_in_head : (a b : Option Told) (bytes : List ℕ) → Takes a [] b bytes → IsAtEnd b → length bytes < 16384 → HasNoEnd bytes (length bytes) → AnswersTold a (Err Ended)
cut_in_head None b bytes takes end short none = tt
cut_in_head (Some t) b bytes takes end short none =
    subst IsCut (sym (came_whole t b bytes takes end)) (inl (short, none))

pub too_long : (a b : Option Told) (bytes : List ℕ) → Takes a [] b bytes → length bytes ≡ 16384 → HasNoEnd bytes 16384 → AnswersTold a (Err TooLong)
too_long None b bytes takes full none = tt
too_long (Some t) b bytes takes full none =
    let whole = came t b bytes takes in
    let long : 16384 ≤ length (bytes ++ whole.0) = omega (arith, length-append bytes whole.0) in
    inl (subst IsBigHead (sym whole.1) (inl (long, no_end_stays bytes whole.0 16384 (omega arith) none)))

-- what stopped the reading of a head
pub head_stops : (a b : Option Told) (bytes : List ℕ) (fault : ReplyFault) → Takes a [] b bytes
    → (fault ≡ Ended → (length bytes < 16384) × HasNoEnd bytes (length bytes) × IsAtEnd b)
    → (fault ≡ TooLong → (length bytes ≡ 16384) × HasNoEnd bytes 16384)
    → (fault ≢ BadReply) → AnswersTold a (Err fault)
head_stops a b bytes Ended takes ended big other = let h = ended refl in cut_in_head a b bytes takes h.2 h.0 h.1
head_stops a b bytes TooLong takes ended big other = let h = big refl in too_long a b bytes takes h.0 h.1
head_stops a b bytes BadReply takes ended big other = absurd (other refl)
head_stops None b bytes ReadFault takes ended big other = tt
head_stops (Some t) b bytes ReadFault takes ended big other = tt
head_stops None b bytes Memory takes ended big other = tt
head_stops (Some t) b bytes Memory takes ended big other = tt

pub told_nothing : (a : Option Told) → AnswersTold a (Err Memory)
told_nothing None = tt
told_nothing (Some t) = tt

-- a head of the bytes that came is one of all that come
head_stays : (bytes rest : List ℕ) (n : ℕ) (head : ResponseHead) → IsHeadEnd bytes n → n ≤ 16384 → IsWholeHead (take n bytes) head → IsHead (bytes ++ rest) n head
head_stays bytes rest n head end small whole = record {
  ends = head_end_stays bytes rest n end;
  small = small;
  whole = subst (λ front. IsWholeHead front head) (sym (take-append-le n bytes rest end.within)) whole;
}

-- what is wrong with the head, said of all that comes
head_says : (bytes rest : List ℕ) (n : ℕ) (fault : ReplyFault) → IsHeadEnd bytes n → n ≤ 16384 → AnswersHead (take n bytes) (Err fault) → Answers (bytes ++ rest) (Err fault)
head_says bytes rest n Ended end small h = absurd h
head_says bytes rest n ReadFault end small h = absurd h
head_says bytes rest n BadReply end small (inl none) =
    inl (n, head_end_stays bytes rest n end, small, subst IsNoHead (sym (take-append-le n bytes rest end.within)) none)
head_says bytes rest n BadReply end small (inr h) = inr (n, h.0, head_stays bytes rest n h.0 end small h.1, h.2, h.3)
head_says bytes rest n TooLong end small (inl h) = inl (inr (n, h.0, head_stays bytes rest n h.0 end small h.1, h.2))
head_says bytes rest n TooLong end small (inr h) = inr (n, h.0, head_stays bytes rest n h.0 end small h.1, h.2, h.3)
head_says bytes rest n Memory end small h = tt

pub head_refused : (a b : Option Told) (bytes : List ℕ) (n : ℕ) (fault : ReplyFault) → Takes a [] b bytes → IsHeadEnd bytes n → n ≤ 16384
    → AnswersHead (take n bytes) (Err fault) → AnswersTold a (Err fault)
head_refused None b bytes n fault takes end small h = tt
head_refused (Some t) b bytes n fault takes end small h =
    let whole = came t b bytes takes in
    subst (λ all. Answers all (Err fault)) (sym whole.1) (head_says bytes whole.0 n fault end small h)

-- A head of its own bytes, and what it says.
pub record HasHead (front : List ℕ) (said : Head) : Type 0 where
  pub ends : IsHeadEnd front (length front)
  pub small : length front ≤ 16384
  pub answer : AnswersHead front (Ok said)

pub has_head : (bytes : List ℕ) (n : ℕ) (said : Head) → IsHeadEnd bytes n → n ≤ 16384 → AnswersHead (take n bytes) (Ok said) → HasHead (take n bytes) said
has_head bytes n said end small answer =
    let long : length (take n bytes) ≡ n = length-take-le n bytes end.within in
    record { ends = subst (λ k. IsHeadEnd (take n bytes) k) (sym long) (head_end_front bytes n end); small = rw long small; answer = answer }

-- that head, of all that comes
whole_head : (front rest : List ℕ) (said : Head) (has : HasHead front said) → IsHead (front ++ rest) (length front) has.answer.0
whole_head front rest said has = record {
  ends = head_end_stays front rest (length front) has.ends;
  small = has.small;
  whole = subst (λ bytes. IsWholeHead bytes has.answer.0) (sym (take-append_seam front rest)) has.answer.1;
}

pub cut_in_body : (a c : Option Told) (front body : List ℕ) (said : Head) → HasHead front said → Takes a [] c (front ++ body) → IsAtEnd c → length body < said.length → AnswersTold a (Err Ended)
cut_in_body None c front body said has takes end short = tt
cut_in_body (Some t) c front body said has takes end short =
    let left : length (drop (length front) (front ++ body)) < said.length = rw (drop-append_seam front body) short in
    subst IsCut (sym (came_whole t c (front ++ body) takes end))
    (inr (length front, has.answer.0, said.length, whole_head front body said has, has.answer.2, has.answer.3.count, left))

-- what stopped the reading of a body
pub body_stops : (a c : Option Told) (front body : List ℕ) (said : Head) (fault : ReplyFault) → HasHead front said → Takes a [] c (front ++ body)
    → (fault ≡ Ended → (length body < said.length) × IsAtEnd c) → (fault ≡ Ended) ⊎ ((fault ≡ ReadFault) ⊎ (fault ≡ Memory)) → AnswersTold a (Err fault)
body_stops a c front body said fault has takes ended (inl is) =
    subst (λ e. AnswersTold a (Err e)) (sym is) (cut_in_body a c front body said has takes (ended is).1 (ended is).0)
body_stops None c front body said fault has takes ended (inr other) = tt
body_stops (Some t) c front body said fault has takes ended (inr (inl is)) = subst (λ e. Answers t.coming (Err e)) (sym is) tt
body_stops (Some t) c front body said fault has takes ended (inr (inr is)) = subst (λ e. Answers t.coming (Err e)) (sym is) tt

pub reply_came : (a c : Option Told) (front body : List ℕ) (said : Head) (answered : Answered) → HasHead front said → Takes a [] c (front ++ body) → said.length ≤ length body
    → answered.status ≡ said.status → answered.body.items ≡ take said.length body → AnswersTold a (Ok answered)
reply_came None c front body said answered has takes enough status is = tt
reply_came (Some t) c front body said answered has takes enough status is =
    let whole = came t c (front ++ body) takes in
    let rest = whole.0 in
    let all : t.coming ≡ front ++ (body ++ rest) = whole.1 ∙ append_assoc front body rest in
    let left : drop (length front) (front ++ (body ++ rest)) ≡ body ++ rest = drop-append_seam front (body ++ rest) in
    let says = has.answer.3 in
    subst (λ coming. IsReply coming answered) (sym all) (record {
      n = length front;
      head = has.answer.0;
      is_head = whole_head front (body ++ rest) said has;
      few = has.answer.2;
      count = said.length;
      announced = says.count;
      came = rw left (omega (arith, length-append body rest, enough));
      answered_is = record {
        status = status ∙ says.status;
        body_is = is ∙ sym (ap (take said.length) left ∙ take-append-le said.length body rest enough);
      };
    })
