-- A head has no more fields than bytes, so with room for as many as there are bytes the parser finds each head.
use Rattle.std.proofs.Common.{◌≡◌, ℕ, ◌≤◌, ◌<◌, List, [], ◌∷◌, ◌++◌, length, drop, Result, Ok, Err, ap, arith, length-append, length-drop}
use Rattle.std.specs.List.{flat_map}
use Rattle.httparse.specs.Ascii.{colon, space}
use Rattle.httparse.specs.Grammar.{Field, print_field, print_end, print_section, print_blank, print_version, print_reason, ResponseHead, print_response, ReadsResponse}
use Rattle.httparse.proofs.GrammarLemmas.{response_unique}
use Rattle.httparse.specs.Spans.{IsResponseOf, FindsResponse}
use Rattle.httparse.specs.Outcome.{IfComplete}
use Rattle.httparse.specs.declared.Error.{Error}
use Rattle.httparse.specs.declared.Status.{Status}
use Rattle.httparse.specs.declared.Status.TheVariants.{Complete, Partial}
use Rattle.httparse.specs.declared.spans.HeaderSpan.{HeaderSpan}
use Rattle.httparse.specs.declared.spans.ResponseSpans.{ResponseSpans}
use Rattle.client_replies.specs.Replies.{IsWholeHead}

a_field_is_some : (field : Field) → 1 ≤ length (print_field field)
a_field_is_some field = omega (arith, length-append (field.name ++ colon ∷ field.raw) (print_end field.end), length-append field.name (colon ∷ field.raw))

fields_fit : (fields : List Field) → length fields ≤ length (flat_map print_field fields)
fields_fit [] = omega arith
fields_fit (field ∷ fields) =
    omega (arith, fields_fit fields, a_field_is_some field, length-append (print_field field) (flat_map print_field fields))

section_fits : (head : ResponseHead) → length head.fields ≤ length (print_section head.fields head.last)
section_fits head = omega (arith, fields_fit head.fields, length-append (flat_map print_field head.fields) (print_end head.last))

pub head_fits : (bytes : List ℕ) (head : ResponseHead) → IsWholeHead bytes head → length head.fields ≤ length bytes
unfolding print_response
head_fits bytes head (valid, is) =
    let front = print_blank head.blank ++ print_version head.minor ++ space ∷ head.digits ++ print_reason head.reason ++ print_end head.line_end in
    omega (arith, section_fits head, ap length is, length-append (print_response head) [], length-append front (print_section head.fields head.last))

-- Where a head ends before the bytes do, no head is all of them.
short_is_none : (bytes : List ℕ) (len : ℕ) (short whole : ResponseHead) → ReadsResponse bytes short (drop len bytes) → len < length bytes → IsWholeHead bytes whole → ⊥
short_is_none bytes len short whole reads within is =
    let same = response_unique bytes short whole (drop len bytes) [] reads is in
    absurd (omega (arith, ap length same.1, length-drop len bytes))

-- what the parser's answers say of bytes that are a head as a whole
pub complete_is_short : (bytes : List ℕ) (headers : List HeaderSpan) (r : Result (Status ResponseSpans) Error) (spans : ResponseSpans) (head : ResponseHead)
    → IfComplete r (IsResponseOf bytes headers) → r ≡ Ok (Complete spans) → spans.len < length bytes → IsWholeHead bytes head → ⊥
complete_is_short bytes headers r spans head complete is short whole =
    let found : IsResponseOf bytes headers spans = rw is at complete in
    short_is_none bytes spans.len found.0 head found.1.reads short whole

pub partial_is_none : (bytes : List ℕ) (room : ℕ) (headers : List HeaderSpan) (r : Result (Status ResponseSpans) Error) (head : ResponseHead)
    → FindsResponse bytes room headers r → length bytes ≤ room → r ≡ Ok Partial → IsWholeHead bytes head → ⊥
partial_is_none bytes room headers r head finds enough is whole =
    let fits : length head.fields ≤ room = omega (arith, head_fits bytes head whole) in
    rw is at (finds head [] whole fits)

pub error_is_none : (bytes : List ℕ) (room : ℕ) (headers : List HeaderSpan) (r : Result (Status ResponseSpans) Error) (e : Error) (head : ResponseHead)
    → FindsResponse bytes room headers r → length bytes ≤ room → r ≡ Err e → IsWholeHead bytes head → ⊥
error_is_none bytes room headers r e head finds enough is whole =
    let fits : length head.fields ≤ room = omega (arith, head_fits bytes head whole) in
    rw is at (finds head [] whole fits)
