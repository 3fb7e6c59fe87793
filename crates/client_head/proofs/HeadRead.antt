-- The head of a submission is read as what it was made of.
use Rattle.std.proofs.Common.{◌≡◌, ℕ, ◌+◌, ◌<◌, ◌≤◌, ◌^◌, Bool, true, false, not, IsTrue, nat_lt, List, [], ◌∷◌, ◌++◌, length, take, reverse, codes, Some, Ok, refl, ap, sym, subst, ◌∙◌, arith, lit≤, lit<, le-ltb, length-append}
use Rattle.std.specs.List.{list_all, All}
use Rattle.std.specs.Fmt.{decimal}
use Rattle.std.specs.Str.{IsUtf8}
use Rattle.std.proofs.lemmas.List.{append-nil}
use Rattle.std.proofs.lemmas.List.Folds.{list_all-append}
use Rattle.std.proofs.lemmas.List.Sums.{AllPass-from_list_all}
use Rattle.std.proofs.lemmas.List.Elements.{All-nil, All-cons, All-head}
use Rattle.httparse.specs.Grammar.{AllPass, is_token_byte, is_uri_byte, is_value_byte, is_ows, skip_ows, trim_ows, crlf as by_return, Field, IsField, IsToken, RequestHead, print_request, IsRequestHead}
use Rattle.httparse.proofs.TrimLemmas.{AllPass-reverse, trim_ows_space}
use Rattle.desk_http.specs.Heads.{IsHeadEnd}
use Rattle.desk_http.specs.Fields.{content_length, transfer_encoding, desk_token, is_get, is_post, has_name, values_of, announced, body_length, token_of}
use Rattle.desk_http.specs.Replies.{colon, crlf, field}
use Rattle.desk_http.specs.Requests.{IsHead}
use Rattle.desk_routes.specs.Routes.{cases}
use Rattle.form_fields.specs.Spelling.{is_token}
use Rattle.client_head.specs.Heads.{request_line, host, this_machine, request_head, IsHeadOf}
use Rattle.client_head.proofs.EmptyLines.{inner, at_line, at_return, closes, ending, quiet, is_inner, head_ends, line_goes_by, line_ends}
use Rattle.client_head.proofs.Bytes.{IsPlain, token_plain, plain_text_inner, plain_text_value, plain_text_black, plain_text_utf8, decimal_plain, decimal_short, decimal_length, decimal_value}
use Rattle.client_head.proofs.Lines.{lines_to_feed, line_of, by_lines, by_grammar}

abbrev pub field_of : List ℕ → List ℕ → Field
field_of name value = record { name = name; raw = 32 ∷ value; end = by_return }

abbrev pub fields_for : List ℕ → ℕ → List Field
fields_for token count = field_of host this_machine ∷ field_of desk_token token ∷ field_of content_length (decimal count) ∷ []

abbrev pub head_for : List ℕ → ℕ → RequestHead
head_for token count = record {
  blank = [];
  method = codes "POST";
  target = cases;
  minor = 1;
  line_end = by_return;
  fields = fields_for token count;
  last = by_return;
}

prints : (token : List ℕ) (count : ℕ) → print_request (head_for token count) ≡ request_head token count
unfolding print_request request_head request_line field colon crlf cases
prints token count = by_grammar request_line host this_machine desk_token token content_length (decimal count)

front : List ℕ → ℕ → List ℕ
front token count = lines_to_feed request_line (line_of host this_machine) (line_of desk_token token) (line_of content_length (decimal count))

by_front : (token : List ℕ) (count : ℕ) → request_head token count ≡ front token count ++ 10 ∷ []
unfolding request_head field colon crlf front
by_front token count = by_lines request_line host this_machine desk_token token content_length (decimal count)

-- ---- the literal parts

request_line_inner : list_all is_inner request_line ≡ true
unfolding request_line
request_line_inner = refl

request_line_size : length request_line ≡ 20
unfolding request_line
request_line_size = refl

host_inner : list_all is_inner (line_of host this_machine) ≡ true
unfolding host this_machine
host_inner = refl

host_size : length (line_of host this_machine) ≡ 15
unfolding host this_machine
host_size = refl

name_inner : (list_all is_inner (desk_token ++ 58 ∷ 32 ∷ []) ≡ true) × (list_all is_inner (content_length ++ 58 ∷ 32 ∷ []) ≡ true)
unfolding desk_token content_length
name_inner = (refl, refl)

name_sizes : (length (desk_token ++ 58 ∷ 32 ∷ []) ≡ 14) × (length (content_length ++ 58 ∷ 32 ∷ []) ≡ 16)
unfolding desk_token content_length
name_sizes = (refl, refl)

-- what is said of a head: its token is plain and not too long, and its count is that of a body that is taken
pub record IsSmall (token : List ℕ) (count : ℕ) : Type 0 where
  pub plain : IsPlain token
  pub some : 0 < length token
  pub short : length token ≤ 128
  pub few : count ≤ 67108864

wide : (token : List ℕ) (count : ℕ) → IsSmall token count → count < 2 ^ 64
wide token count small = omega (arith, small.few)

token_line_inner : (token : List ℕ) (count : ℕ) → IsSmall token count → list_all is_inner (line_of desk_token token) ≡ true
token_line_inner token count small =
    list_all-append is_inner (desk_token ++ 58 ∷ 32 ∷ []) token ∙ rw (name_inner.0, plain_text_inner token small.plain) refl

count_line_inner : (token : List ℕ) (count : ℕ) → IsSmall token count → list_all is_inner (line_of content_length (decimal count)) ≡ true
count_line_inner token count small =
    list_all-append is_inner (content_length ++ 58 ∷ 32 ∷ []) (decimal count)
    ∙ rw (name_inner.1, plain_text_inner (decimal count) (decimal_plain count (wide token count small))) refl

token_line_size : (token : List ℕ) → length (line_of desk_token token) ≡ 14 + length token
token_line_size token = length-append (desk_token ++ 58 ∷ 32 ∷ []) token ∙ ap (λ n. n + length token) name_sizes.0

count_line_size : (count : ℕ) → length (line_of content_length (decimal count)) ≡ 16 + length (decimal count)
count_line_size count = length-append (content_length ++ 58 ∷ 32 ∷ []) (decimal count) ∙ ap (λ n. n + length (decimal count)) name_sizes.1

lines_quiet : (a b c d : List ℕ) → list_all is_inner a ≡ true → list_all is_inner b ≡ true → list_all is_inner c ≡ true → list_all is_inner d ≡ true
    → 0 < length a → 0 < length b → 0 < length c → 0 < length d → quiet inner (lines_to_feed a b c d) ≡ true
lines_quiet a b c d ia ib ic id la lb lc ld =
    let after_c = d ++ 13 ∷ 10 ∷ 13 ∷ [] in
    let after_b = c ++ 13 ∷ 10 ∷ after_c in
    let after_a = b ++ 13 ∷ 10 ∷ after_b in
    line_goes_by inner a after_a ia la
    (line_goes_by at_line b after_b ib lb
    (line_goes_by at_line c after_c ic lc
    (line_goes_by at_line d (13 ∷ []) id ld refl)))

lines_end : (a b c d : List ℕ) → list_all is_inner a ≡ true → list_all is_inner b ≡ true → list_all is_inner c ≡ true → list_all is_inner d ≡ true
    → 0 < length a → 0 < length b → 0 < length c → 0 < length d → ending inner (lines_to_feed a b c d) ≡ at_return
lines_end a b c d ia ib ic id la lb lc ld =
    let after_c = d ++ 13 ∷ 10 ∷ 13 ∷ [] in
    let after_b = c ++ 13 ∷ 10 ∷ after_c in
    let after_a = b ++ 13 ∷ 10 ∷ after_b in
    line_ends inner a after_a ia la ∙ line_ends at_line b after_b ib lb ∙ line_ends at_line c after_c ic lc ∙ line_ends at_line d (13 ∷ []) id ld

lines_size : (a b c d : List ℕ) → length (lines_to_feed a b c d) ≡ length a + length b + length c + length d + 9
lines_size a b c d = simp length-append (omega arith)

ends_there : (token body : List ℕ) (count : ℕ) → IsSmall token count → IsHeadEnd (request_head token count ++ body) (length (request_head token count))
unfolding front
ends_there token body count small =
    let a = request_line in
    let b = line_of host this_machine in
    let c = line_of desk_token token in
    let d = line_of content_length (decimal count) in
    let la : 0 < length a = rw request_line_size (omega arith) in
    let lb : 0 < length b = rw host_size (omega arith) in
    let lc : 0 < length c = rw (token_line_size token) (omega arith) in
    let ld : 0 < length d = rw (count_line_size count) (omega arith) in
    let ic = token_line_inner token count small in
    let id = count_line_inner token count small in
    let silent = lines_quiet a b c d request_line_inner host_inner ic id la lb lc ld in
    let closed = ap closes (lines_end a b c d request_line_inner host_inner ic id la lb lc ld) in
    subst (λ (h : List ℕ). IsHeadEnd (h ++ body) (length h)) (sym (by_front token count)) (head_ends (front token count) body silent closed)

fits : (token : List ℕ) (count : ℕ) → IsSmall token count → length (request_head token count) ≤ 16384
unfolding front
fits token count small =
    let whole : length (request_head token count) ≡ length (front token count) + 1 = ap length (by_front token count) ∙ length-append (front token count) (10 ∷ []) in
    let parts = lines_size request_line (line_of host this_machine) (line_of desk_token token) (line_of content_length (decimal count)) in
    omega (arith, whole, parts, request_line_size, host_size, token_line_size token, count_line_size count, decimal_short count (wide token count small), small.short)

-- ---- the grammar's classes

literal_tokens : IsToken host × IsToken desk_token × IsToken content_length × IsToken (codes "POST")
unfolding host desk_token content_length is_token_byte
literal_tokens = (
  (lit< tt, AllPass-from_list_all is_token_byte host refl),
  (lit< tt, AllPass-from_list_all is_token_byte desk_token refl),
  (lit< tt, AllPass-from_list_all is_token_byte content_length refl),
  (lit< tt, AllPass-from_list_all is_token_byte (codes "POST") refl),
)

target_fits : (0 < length cases) × AllPass is_uri_byte cases × IsUtf8 cases
unfolding cases
target_fits = (lit< tt, AllPass-from_list_all is_uri_byte cases refl, plain_text_utf8 cases (record { all = refl }))

machine_value : list_all is_value_byte (32 ∷ this_machine) ≡ true
unfolding this_machine
machine_value = refl

is_field : (name value : List ℕ) → IsToken name → list_all is_value_byte (32 ∷ value) ≡ true → IsField (field_of name value)
is_field name value token bytes = record { name = token; raw = AllPass-from_list_all is_value_byte (32 ∷ value) bytes }

plain_raw : (value : List ℕ) → IsPlain value → list_all is_value_byte (32 ∷ value) ≡ true
plain_raw value plain = plain_text_value value plain

are_fields : (token : List ℕ) (count : ℕ) → IsSmall token count → All IsField (fields_for token count)
are_fields token count small =
    let counted = decimal_plain count (wide token count small) in
    let second = field_of desk_token token in
    let third = field_of content_length (decimal count) in
    All-cons IsField (field_of host this_machine) (second ∷ third ∷ []) (is_field host this_machine literal_tokens.0 machine_value)
    (All-cons IsField second (third ∷ []) (is_field desk_token token literal_tokens.1 (plain_raw token small.plain))
    (All-cons IsField third [] (is_field content_length (decimal count) literal_tokens.2 (plain_raw (decimal count) counted))
    (All-nil IsField)))

classes : (token : List ℕ) (count : ℕ) → IsSmall token count → IsRequestHead (head_for token count)
classes token count small = record {
  method = literal_tokens.3;
  target = (target_fits.0, target_fits.1);
  target_text = target_fits.2;
  minor = omega arith;
  fields = are_fields token count small;
}

take_front : (xs ys : List ℕ) → take (length xs) (xs ++ ys) ≡ xs
take_front [] ys = refl
take_front (x ∷ xs) ys = ap (λ zs. x ∷ zs) (take_front xs ys)

pub is_head : (token body : List ℕ) (count : ℕ) → IsSmall token count → IsHead (request_head token count ++ body) (length (request_head token count)) (head_for token count)
is_head token body count small = record {
  ends = ends_there token body count small;
  small = fits token count small;
  whole = (classes token count small, take_front (request_head token count) body ∙ sym (prints token count) ∙ sym (append-nil (print_request (head_for token count))));
}

-- ---- what the fields say

black_skipped : (value : List ℕ) → AllPass (λ b. not (is_ows b)) value → skip_ows value ≡ value
black_skipped [] all = refl
black_skipped (b ∷ bs) all = by (is_ows b) refl (All-head (λ (x : ℕ). IsTrue (not (is_ows x))) b bs all)
  where
    by : (t : Bool) → is_ows b ≡ t → IsTrue (not (is_ows b)) → skip_ows (b ∷ bs) ≡ b ∷ bs
    by true blank black = absurd (let clash : false ≡ true = ap not (sym blank) ∙ black in cc)
    by false other black = rw other refl

trimmed : (value : List ℕ) → IsPlain value → trim_ows (32 ∷ value) ≡ value
trimmed value plain =
    let all = AllPass-from_list_all (λ b. not (is_ows b)) value (plain_text_black value plain) in
    trim_ows_space value (black_skipped value all) (black_skipped (reverse value) (AllPass-reverse (λ b. not (is_ows b)) value all))

names_apart : (v : List ℕ) → (has_name desk_token (host, v) ≡ false) × (has_name desk_token (desk_token, v) ≡ true) × (has_name desk_token (content_length, v) ≡ false)
unfolding has_name desk_token content_length host
names_apart v = (refl, refl, refl)

lengths_apart : (v : List ℕ) → (has_name content_length (host, v) ≡ false) × (has_name content_length (desk_token, v) ≡ false) × (has_name content_length (content_length, v) ≡ true)
unfolding has_name desk_token content_length host
lengths_apart v = (refl, refl, refl)

codings_apart : (v : List ℕ) → (has_name transfer_encoding (host, v) ≡ false) × (has_name transfer_encoding (desk_token, v) ≡ false) × (has_name transfer_encoding (content_length, v) ≡ false)
unfolding has_name desk_token content_length host transfer_encoding
codings_apart v = (refl, refl, refl)

tokens_in : (x y z : List ℕ) → values_of desk_token ((host, x) ∷ (desk_token, y) ∷ (content_length, z) ∷ []) ≡ y ∷ []
tokens_in x y z = rw ((names_apart x).0, (names_apart y).1, (names_apart z).2) refl

lengths_in : (x y z : List ℕ) → values_of content_length ((host, x) ∷ (desk_token, y) ∷ (content_length, z) ∷ []) ≡ z ∷ []
lengths_in x y z = rw ((lengths_apart x).0, (lengths_apart y).1, (lengths_apart z).2) refl

codings_in : (x y z : List ℕ) → values_of transfer_encoding ((host, x) ∷ (desk_token, y) ∷ (content_length, z) ∷ []) ≡ []
codings_in x y z = rw ((codings_apart x).0, (codings_apart y).1, (codings_apart z).2) refl

pub has_token : (token : List ℕ) (count : ℕ) → IsSmall token count → token_of (head_for token count) ≡ Some token
has_token token count small =
    rw (tokens_in (trim_ows (32 ∷ this_machine)) (trim_ows (32 ∷ token)) (trim_ows (32 ∷ decimal count))) (ap Some (trimmed token small.plain))

pub method_is_post : is_post (codes "POST") ≡ true
unfolding is_post
method_is_post = refl

method_is_no_get : is_get (codes "POST") ≡ false
unfolding is_get
method_is_no_get = refl

count_announced : (token : List ℕ) (count : ℕ) → IsSmall token count → announced (decimal count ∷ []) ≡ Ok (Some count)
count_announced token count small =
    rw (decimal_length count (omega (arith, small.few))) (ap (λ n. Ok (Some n)) (decimal_value count (wide token count small)))

not_above : (count : ℕ) → count ≤ 67108864 → nat_lt 67108864 count ≡ false
not_above count few = le-ltb 67108864 count few

pub announces : (token : List ℕ) (count : ℕ) → IsSmall token count → body_length (head_for token count) ≡ Ok count
announces token count small =
    let x = trim_ows (32 ∷ this_machine) in
    let y = trim_ows (32 ∷ token) in
    let z = trim_ows (32 ∷ decimal count) in
    let plain : z ≡ decimal count = trimmed (decimal count) (decimal_plain count (wide token count small)) in
    rw (method_is_no_get, method_is_post, codings_in x y z, lengths_in x y z, plain, count_announced token count small, not_above count small.few) refl

small_head : (token : List ℕ) (count : ℕ) → is_token token ≡ true → count ≤ 67108864 → IsSmall token count
small_head token count formed few =
    let parts = token_plain token formed in
    record { plain = parts.0; some = omega (arith, parts.1); short = parts.2; few = few }

pub is_head_of : (token : List ℕ) (count : ℕ) (bytes : List ℕ) → is_token token ≡ true → count ≤ 67108864 → bytes ≡ request_head token count → IsHeadOf token count bytes
is_head_of token count bytes formed few is =
    let small = small_head token count formed few in
    subst (IsHeadOf token count) (sym is) (record {
      head = head_for token count;
      is_head = λ body. is_head token body count small;
      few = lit≤ tt;
      announced = announces token count small;
      post = method_is_post;
      target = refl;
      token_is = has_token token count small;
    })
