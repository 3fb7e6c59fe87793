-- What a submission's bytes are is computed, and its head is one alone.
use Rattle.std.proofs.Common.{◌≡◌, ◌≤◌, ℕ, Option, true, List, ◌++◌, length, drop, Some, Ok, refl, ap, sym, ◌∙◌, arith}
use Rattle.std.proofs.Math.Seq.{drop-append_seam}
use Rattle.std.specs.Char.{encode_utf8}
use Rattle.std.specs.Str.{is_utf8, chars}
use Rattle.base64.proofs.OnLiterals.{base64_on_literals}
use Rattle.json.specs.Print.{escape_byte}
use Rattle.serde_json.proofs.OnLiterals.{serde_json_on_literals}
use Rattle.form_fields.specs.Spelling.{is_token}
use Rattle.case_rules.specs.declared.case.Content.{Content}
use Rattle.desk_http.specs.Fields.{body_length}
use Rattle.client_head.specs.Heads.{request_head}
use Rattle.client_head.proofs.HeadRead.{is_head_of}
use Rattle.client_body.specs.Bodies.{body_text, body_value, dex_text}
use Rattle.client_http.specs.ReadAs.{IsReadAs}
use Rattle.client_http.proofs.OneReading.{one_head}
use Rattle.client_witness.specs.Requests.{RequestsTell}

counted : (token reference : List ℕ) (content : Content) (count : ℕ) (body : List ℕ) → is_token token ≡ true → count ≤ 67108864
    → IsReadAs token reference content (request_head token count ++ body) → count ≡ length body
counted token reference content count body formed few read =
    let front = request_head token count in
    let is = is_head_of token count front formed few refl in
    let one = one_head (front ++ body) (length front) read.n is.head read.head (is.is_head body) read.is_head in
    let says : Ok count ≡ Ok (length (drop read.n (front ++ body))) = sym is.announced ∙ ap body_length one.1 ∙ read.announced in
    let size : count ≡ length (drop read.n (front ++ body)) = cc in
    size ∙ ap (λ (k : ℕ). length (drop k (front ++ body))) one.0 ∙ ap length (drop-append_seam front body)

pub requests_tell : RequestsTell
unfolding body_text body_value dex_text serde_json_on_literals base64_on_literals escape_byte encode_utf8 is_utf8 chars
requests_tell = record {
  counted = counted;
  texts = refl;
  too_long = λ token reference content bytes over made. let few = made.1 in omega (arith, few, over);
  longest = λ token reference content few made. let over = made.1 in omega (arith, few, over);
  first = λ token reference told. let clash : ◌≡◌ {A = Option ℕ} (Some 1) (Some 2) = told in cc;
}
