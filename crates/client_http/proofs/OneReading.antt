-- Bytes that are read as a submission have one answer, and its turn is that submission.
use Rattle.std.proofs.Common.{◌≡◌, ℕ, zero, suc, ◌<◌, ◌≤◌, true, false, List, [], length, take, drop, Some, Result, Ok, Err, refl, ap, sym, subst, ◌∙◌, arith, inl, inr}
use Rattle.std.proofs.lemmas.List.{take_all}
use Rattle.httparse.specs.Grammar.{RequestHead}
use Rattle.httparse.proofs.GrammarLemmas.{request_unique}
use Rattle.store_office.specs.declared.office.Office.{Office}
use Rattle.store_office.specs.declared.party.Party.{Party}
use Rattle.case_rules.specs.declared.case.Content.{Content}
use Rattle.case_rules.specs.declared.command.Command.TheVariants as commands
use Rattle.case_rules.specs.Rules.{is_developer}
use Rattle.desk_http.specs.declared.asked.Asked.{Asked}
use Rattle.desk_http.specs.declared.asked.HttpFault.{HttpFault}
use Rattle.desk_http.specs.declared.asked.HttpFault.TheVariants.{Ended, ReadFault, Bad, NoLength, TooLong, BigHead, Memory}
use Rattle.desk_http.specs.Heads.{ends_empty_line, HasNoEnd, IsHeadEnd, IsNoHead}
use Rattle.desk_http.specs.Fields.{is_post, body_length, token_of}
use Rattle.desk_http.specs.Requests.{IsHead, IsRequest, Answers, Announces}
use Rattle.desk_http.specs.Laws.{IsOfBytes}
use Rattle.desk_routes.specs.declared.command.Turn.TheVariants as turns
use Rattle.desk_routes.specs.Routes.{cases}
use Rattle.desk_routes.specs.Turns.{party_of, turn_of}
use Rattle.client_body.specs.Bodies.{IsSubmission}
use Rattle.client_http.specs.ReadAs.{IsReadAs, IsSubmissionOf}

ends_once : (bytes : List ℕ) (n : ℕ) → ends_empty_line (take n bytes) ≡ true → ends_empty_line (take n bytes) ≡ false → ⊥
ends_once bytes n ends goes_on = let clash : true ≡ false = sym ends ∙ goes_on in cc

equal_from : (n m : ℕ) → (n < m → ⊥) → (m < n → ⊥) → m ≡ n
equal_from zero zero below above = refl
equal_from zero (suc m) below above = absurd (below (omega arith))
equal_from (suc n) zero below above = absurd (above (omega arith))
equal_from (suc n) (suc m) below above = ap suc (equal_from n m (λ lt. below (omega arith)) (λ lt. above (omega arith)))

one_end : (bytes : List ℕ) (n m : ℕ) → IsHeadEnd bytes n → IsHeadEnd bytes m → m ≡ n
one_end bytes n m first second =
    equal_from n m (λ lt. ends_once bytes n first.ends (second.first n lt)) (λ lt. ends_once bytes m second.ends (first.first m lt))

no_end : (bytes : List ℕ) (n most : ℕ) → IsHeadEnd bytes n → n ≤ most → HasNoEnd bytes most → ⊥
no_end bytes n most end within none = ends_once bytes n end.ends (none n within)

-- the head and its end are those that are known
pub one_head : (bytes : List ℕ) (n m : ℕ) (head other : RequestHead) → IsHead bytes n head → IsHead bytes m other → (m ≡ n) × (head ≡ other)
one_head bytes n m head other first second =
    let place = one_end bytes n m first.ends second.ends in
    let moved = subst (λ (k : ℕ). IsHead bytes k other) place second in
    (place, (request_unique (take n bytes) head other [] [] first.whole moved.whole).0)

announces_nothing : (token reference : List ℕ) (content : Content) (bytes : List ℕ) (fault : HttpFault) → IsReadAs token reference content bytes → Announces bytes fault → ⊥
announces_nothing token reference content bytes fault read says =
    let is = one_head bytes read.n says.0 read.head says.1 read.is_head says.2 in
    let clash : Ok (length (drop read.n bytes)) ≡ Err fault = sym read.announced ∙ ap body_length is.1 ∙ says.4 in
    cc

-- a request of these bytes is the head and body that are known
pub record IsKnown (token reference : List ℕ) (content : Content) (asked : Asked) : Type 0 where
  pub post : asked.post ≡ true
  pub path : asked.path ≡ cases
  pub token_is : asked.token ≡ Some token
  pub submits : IsSubmission reference content asked.body.items

pub known : (token reference : List ℕ) (content : Content) (bytes : List ℕ) (asked : Asked) → IsReadAs token reference content bytes → IsRequest bytes asked → IsKnown token reference content asked
known token reference content bytes asked read request =
    let is = one_head bytes read.n request.n read.head request.head read.is_head request.is_head in
    let P : RequestHead → Type 0 = λ h. (body_length h ≡ Ok (length (drop read.n bytes))) in
    let count : Ok request.count ≡ Ok (length (drop read.n bytes)) = sym request.announced ∙ subst P is.1 read.announced in
    let size : request.count ≡ length (drop read.n bytes) = cc in
    let body : asked.body.items ≡ drop read.n bytes =
    request.asked_is.body_is ∙ ap (λ k. take request.count (drop k bytes)) is.0 ∙ ap (λ k. take k (drop read.n bytes)) size ∙ take_all (length (drop read.n bytes)) (drop read.n bytes) (omega arith) in
    record {
      post = request.asked_is.post ∙ ap (λ (h : RequestHead). is_post h.method) (sym is.1) ∙ read.post;
      path = request.asked_is.path ∙ ap (λ (h : RequestHead). h.target) (sym is.1) ∙ read.target;
      token_is = request.asked_is.token ∙ ap token_of (sym is.1) ∙ read.token_is;
      submits = subst (IsSubmission reference content) (sym body) read.submits;
    }

-- what is due is then the submission
pub turn_is : (office : Office) (party : Party) (token reference : List ℕ) (content : Content) (asked : Asked)
    → party_of office (Some token) ≡ Some party → is_developer party.role ≡ true → IsKnown token reference content asked
    → turn_of asked.post asked.path asked.token asked.body.items office ≡ turns.Run party (commands.Submit reference content)
turn_is office party token reference content asked found role is =
    rw (is.post, is.path, is.token_is) (is.submits office party token found role)

pub one_reading : (token reference : List ℕ) (content : Content) (bytes : List ℕ) (office : Office) (party : Party) (r : Result Asked HttpFault)
    → IsReadAs token reference content bytes → party_of office (Some token) ≡ Some party → is_developer party.role ≡ true
    → IsOfBytes r → Answers bytes r → IsSubmissionOf office party reference content r
one_reading token reference content bytes office party (Ok asked) read found role of answer =
    (asked, refl, turn_is office party token reference content asked found role (known token reference content bytes asked read answer))
one_reading token reference content bytes office party (Err Ended) read found role of (inl cut) =
    absurd (no_end bytes read.n (length bytes) read.is_head.ends read.is_head.ends.within cut.1)
one_reading token reference content bytes office party (Err Ended) read found role of (inr cut) =
    let is = one_head bytes read.n cut.0 read.head cut.1 read.is_head cut.3 in
    let P : RequestHead → Type 0 = λ h. (body_length h ≡ Ok (length (drop read.n bytes))) in
    let count : Ok cut.2 ≡ Ok (length (drop read.n bytes)) = sym cut.5 ∙ subst P is.1 read.announced in
    let size : cut.2 ≡ length (drop read.n bytes) = cc in
    let short : length (drop cut.0 bytes) < cut.2 = cut.6 in
    let moved : length (drop read.n bytes) < cut.2 = subst (λ (k : ℕ). length (drop k bytes) < cut.2) is.0 short in
    absurd (omega arith)
one_reading token reference content bytes office party (Err ReadFault) read found role of answer = absurd of
one_reading token reference content bytes office party (Err Bad) read found role of (inl none) =
    let place = one_end bytes read.n none.0 read.is_head.ends none.1 in
    absurd (subst (λ (k : ℕ). IsNoHead (take k bytes)) place none.3 read.head read.is_head.whole)
one_reading token reference content bytes office party (Err Bad) read found role of (inr says) = absurd (announces_nothing token reference content bytes Bad read says)
one_reading token reference content bytes office party (Err NoLength) read found role of says = absurd (announces_nothing token reference content bytes NoLength read says)
one_reading token reference content bytes office party (Err TooLong) read found role of says = absurd (announces_nothing token reference content bytes TooLong read says)
one_reading token reference content bytes office party (Err BigHead) read found role of (inl big) =
    absurd (no_end bytes read.n 16384 read.is_head.ends read.is_head.small big.1)
one_reading token reference content bytes office party (Err BigHead) read found role of (inr many) =
    let is = one_head bytes read.n many.0 read.head many.1 read.is_head many.2 in
    let few : length many.1.fields ≤ 64 = subst (λ (h : RequestHead). length h.fields ≤ 64) is.1 read.few in
    absurd (omega (arith, many.3))
one_reading token reference content bytes office party (Err Memory) read found role of answer = absurd of
