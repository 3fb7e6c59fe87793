-- The bytes of a submission are read as that submission.
use Rattle.std.proofs.Common.{◌≡◌, ℕ, ◌≤◌, ◌<◌, true, List, ◌++◌, length, drop, Result, Ok, Err, refl, ap, sym, subst, ◌∙◌, arith}
use Rattle.std.specs.Prelude.{IfOk, Vec}
use Rattle.std.specs.declared.alloc.Global.{Global}
use Rattle.std.proofs.Math.Seq.{drop-append_seam}
use Rattle.form_fields.specs.Spelling.{is_token}
use Rattle.case_rules.specs.declared.case.Content.{Content}
use Rattle.client_head.specs.Heads.{IsHeadOf, request_head}
use Rattle.client_head.proofs.HeadRead.{is_head_of}
use Rattle.client_body.specs.Bodies.{IsSubmission, body_of}
use Rattle.client_http.specs.declared.request.MakeFault.{MakeFault}
use Rattle.client_http.specs.declared.request.MakeFault.TheVariants.{NotText, TooLong, Memory}
use Rattle.client_http.specs.ReadAs.{IsReadAs}
use Rattle.client_http.specs.Submissions.{content_with, AreTexts, HasNoText, Joins, Makes, MakesFrom}

read_as : (token reference : List ℕ) (content : Content) (head body bytes : List ℕ) → IsHeadOf token (length body) head
    → IsSubmission reference content body → bytes ≡ head ++ body → IsReadAs token reference content bytes
read_as token reference content head body bytes is submits whole =
    let behind : drop (length head) (head ++ body) ≡ body = drop-append_seam head body in
    subst (IsReadAs token reference content) (sym whole) (record {
      n = length head;
      head = is.head;
      is_head = is.is_head body;
      few = is.few;
      announced = is.announced ∙ ap (λ (rest : List ℕ). Ok (length rest)) (sym behind);
      post = is.post;
      target = is.target;
      token_is = is.token_is;
      submits = subst (IsSubmission reference content) (sym behind) submits;
    })

-- a head and a text behind it, where the text is the body
module _ (token reference : List ℕ) (content : Content) (text : List ℕ) (is : text ≡ body_of reference content) where
  pub makes_from : (r : Result (Vec ℕ Global) MakeFault) → Joins token text r → MakesFrom token reference content r
  makes_from (Ok bytes) made =
      (subst (λ (body : List ℕ). length body ≤ 67108864) is made.0, made.1 ∙ ap (λ (body : List ℕ). request_head token (length body) ++ body) is)
  makes_from (Err (NotText part)) made = made
  makes_from (Err TooLong) made = subst (λ (body : List ℕ). 67108864 < length body) is made
  makes_from (Err Memory) made = tt

  pub reads_from : (r : Result (Vec ℕ Global) MakeFault) → is_token token ≡ true → IsSubmission reference content text → Joins token text r
      → IfOk r (λ (bytes : Vec ℕ Global). IsReadAs token reference content bytes.items)
  reads_from (Ok bytes) formed submits made =
      let head = is_head_of token (length text) (request_head token (length text)) formed made.0 refl in
      read_as token reference content (request_head token (length text)) text bytes.items head submits made.1
  reads_from (Err fault) formed submits made = tt

-- an app whose three texts are UTF-8, by its parts
module _ (token reference : List ℕ) (content : Content) (m l d : List ℕ) (x : List (List ℕ)) (are : AreTexts content m l d) (is : x ≡ content.dex) where
  same_content : content_with m l d x ≡ content
  same_content =
      ap (λ (z : List ℕ). content_with z l d x) are.1
      ∙ ap (λ (z : List ℕ). content_with content.manifest z d x) are.2
      ∙ ap (λ (z : List ℕ). content_with content.manifest content.layouts z x) are.3
      ∙ ap (λ (z : List (List ℕ)). content_with content.manifest content.layouts content.declaration z) is

  texts_are : (r : Result (Vec ℕ Global) MakeFault) → MakesFrom token reference content r → Makes token reference content r
  texts_are (Ok bytes) made = (are.0, made.0, made.1)
  texts_are (Err (NotText part)) made = absurd made
  texts_are (Err TooLong) made = (are.0, made)
  texts_are (Err Memory) made = tt

  module _ (r : Result (Vec ℕ Global) MakeFault) (t q : List ℕ) (is_t : t ≡ token) (is_q : q ≡ reference) where
    pub makes_whole : MakesFrom t q (content_with m l d x) r → Makes token reference content r
    makes_whole made =
        texts_are r (subst (λ (c : Content). MakesFrom token reference c r) same_content
        (subst (λ (y : List ℕ). MakesFrom token y (content_with m l d x) r) is_q
        (subst (λ (y : List ℕ). MakesFrom y q (content_with m l d x) r) is_t made)))

    pub reads_whole : IfOk r (λ (bytes : Vec ℕ Global). IsReadAs t q (content_with m l d x) bytes.items)
        → IfOk r (λ (bytes : Vec ℕ Global). IsReadAs token reference content bytes.items)
    reads_whole read =
        subst (λ (c : Content). IfOk r (λ (bytes : Vec ℕ Global). IsReadAs token reference c bytes.items)) same_content
        (subst (λ (y : List ℕ). IfOk r (λ (bytes : Vec ℕ Global). IsReadAs token y (content_with m l d x) bytes.items)) is_q
        (subst (λ (y : List ℕ). IfOk r (λ (bytes : Vec ℕ Global). IsReadAs y q (content_with m l d x) bytes.items)) is_t read))

-- files that are longer than a body may be
pub too_large : (token reference : List ℕ) (content : Content) (m l d : List ℕ) (least : ℕ) → AreTexts content m l d
    → ((r : List ℕ) → least ≤ length (body_of r content)) → 67108864 < least → Makes token reference content (Err TooLong)
too_large token reference content m l d least are size above = (are.0, omega (arith, size reference))

pub refused : (token reference : List ℕ) (content : Content) (fault : MakeFault) → HasNoText content fault → Makes token reference content (Err fault)
refused token reference content fault none = subst (λ (f : MakeFault). Makes token reference content (Err f)) (sym none.1) none.2
