-- Bytes of tokens and of decimal numbers: none ends a line, each may stand in a field's value, and none is white space.
use Rattle.std.proofs.Common.{◌≡◌, ℕ, zero, suc, ◌<◌, ◌≤◌, ◌^◌, Bool, true, false, ◌&&◌, not, nat_eq, nat_le, nat_lt, List, [], ◌∷◌, length, refl, arith, lit<}
use Rattle.std.specs.List.{list_all}
use Rattle.std.specs.Fmt.{decimal}
use Rattle.std.specs.Char.{is_ascii_digit}
use Rattle.std.specs.Str.{IsAscii, IsUtf8, all_ascii_digits}
use Rattle.std.specs.Str.Parse.{AllDigits, digits_value}
use Rattle.std.proofs.lemmas.Bool.{ne_eqb, leb-true, and_parts, and_from, lt-ltb, le-leb}
use Rattle.std.proofs.lemmas.Fmt.{decimal_is_IsNumeral, decimal_nonempty, length-decimal-le}
use Rattle.std.proofs.lemmas.Str.{IsUtf8-from_ascii}
use Rattle.std.proofs.lemmas.Str.Parse.{digit_from_value}
use Rattle.form_fields.specs.Spelling.{is_token, are_visible, is_visible}
use Rattle.httparse.specs.Grammar.{is_value_byte, is_ows}
use Rattle.desk_http.specs.Fields.{is_length}
use Rattle.client_head.proofs.EmptyLines.{is_inner}

-- a visible byte: 33 to 126
abbrev pub is_plain : ℕ → Bool
is_plain b = nat_le 33 b && nat_le b 126

plain_range : (b : ℕ) → is_plain b ≡ true → (33 ≤ b) × (b ≤ 126)
plain_range b h = let both = and_parts (nat_le 33 b) (nat_le b 126) h in (leb-true 33 b both.0, leb-true b 126 both.1)

plain_inner : (b : ℕ) → is_plain b ≡ true → is_inner b ≡ true
plain_inner b h =
    let range = plain_range b h in
    let not_feed : nat_eq 10 b ≡ false = ne_eqb 10 b (λ e. absurd (omega (arith, range.0))) in
    let not_return : nat_eq 13 b ≡ false = ne_eqb 13 b (λ e. absurd (omega (arith, range.0))) in
    rw (not_feed, not_return) refl

plain_value : (b : ℕ) → is_plain b ≡ true → is_value_byte b ≡ true
plain_value b h =
    let range = plain_range b h in
    let not_tab : nat_eq b 9 ≡ false = ne_eqb b 9 (λ e. absurd (omega (arith, range.0))) in
    let visible : nat_le 32 b ≡ true = le-leb 32 b (omega (arith, range.0)) in
    let not_del : nat_eq b 127 ≡ false = ne_eqb b 127 (λ e. absurd (omega (arith, range.1))) in
    rw (not_tab, visible, not_del) refl

plain_black : (b : ℕ) → is_plain b ≡ true → not (is_ows b) ≡ true
plain_black b h =
    let range = plain_range b h in
    let not_space : nat_eq b 32 ≡ false = ne_eqb b 32 (λ e. absurd (omega (arith, range.0))) in
    let not_tab : nat_eq b 9 ≡ false = ne_eqb b 9 (λ e. absurd (omega (arith, range.0))) in
    rw (not_space, not_tab) refl

all_so : (p q : ℕ → Bool) → ((b : ℕ) → p b ≡ true → q b ≡ true) → (xs : List ℕ) → list_all p xs ≡ true → list_all q xs ≡ true
all_so p q so [] h = refl
all_so p q so (x ∷ xs) h =
    let both = and_parts (p x) (list_all p xs) h in
    rw (so x both.0) (all_so p q so xs both.1)

-- a text of visible bytes
pub record IsPlain (text : List ℕ) : Type 0 where
  pub all : list_all is_plain text ≡ true

pub plain_text_inner : (text : List ℕ) → IsPlain text → list_all is_inner text ≡ true
plain_text_inner text h = all_so is_plain is_inner plain_inner text h.all

pub plain_text_value : (text : List ℕ) → IsPlain text → list_all is_value_byte text ≡ true
plain_text_value text h = all_so is_plain is_value_byte plain_value text h.all

pub plain_text_black : (text : List ℕ) → IsPlain text → list_all (λ b. not (is_ows b)) text ≡ true
plain_text_black text h = all_so is_plain (λ b. not (is_ows b)) plain_black text h.all

plain_bytes_ascii : (text : List ℕ) → list_all is_plain text ≡ true → IsAscii text
plain_bytes_ascii [] h zero = lit< tt
plain_bytes_ascii [] h (suc i) = lit< tt
plain_bytes_ascii (b ∷ text) h zero =
    let range = plain_range b (and_parts (is_plain b) (list_all is_plain text) h).0 in
    omega (arith, range.1)
plain_bytes_ascii (b ∷ text) h (suc i) = plain_bytes_ascii text (and_parts (is_plain b) (list_all is_plain text) h).1 i

pub plain_text_utf8 : (text : List ℕ) → IsPlain text → IsUtf8 text
plain_text_utf8 text h = IsUtf8-from_ascii text (plain_bytes_ascii text h.all)

visible_plain : (b : ℕ) → is_visible b ≡ true → is_plain b ≡ true
unfolding is_visible
visible_plain b h = h

visible_text : (text : List ℕ) → are_visible text ≡ true → list_all is_plain text ≡ true
unfolding are_visible
visible_text text h = all_so is_visible is_plain visible_plain text h

-- a token is 8 to 128 visible bytes
pub token_plain : (token : List ℕ) → is_token token ≡ true → IsPlain token × (8 ≤ length token) × (length token ≤ 128)
unfolding is_token
token_plain token h =
    let front = and_parts (nat_le 8 (length token) && nat_le (length token) 128) (are_visible token) h in
    let sizes = and_parts (nat_le 8 (length token)) (nat_le (length token) 128) front.0 in
    (record { all = visible_text token front.1 }, leb-true 8 (length token) sizes.0, leb-true (length token) 128 sizes.1)

-- ---- decimal numbers

plain_from : (b : ℕ) → 48 ≤ b → b ≤ 57 → is_plain b ≡ true
plain_from b low high = and_from (nat_le 33 b) (nat_le b 126) (le-leb 33 b (omega arith)) (le-leb b 126 (omega arith))

plain_digits : (ds : List ℕ) → AllDigits 10 ds → list_all is_plain ds ≡ true
plain_digits [] d = refl
plain_digits (c ∷ cs) d =
    let range = digit_from_value c d.0 in
    and_from (is_plain c) (list_all is_plain cs) (plain_from c range.0 range.1) (plain_digits cs d.1)

pub decimal_plain : (n : ℕ) → n < 2 ^ 64 → IsPlain (decimal n)
decimal_plain n small = record { all = plain_digits (decimal n) (decimal_is_IsNumeral n small).0.1 }

digit_from : (b : ℕ) → 48 ≤ b → b ≤ 57 → is_ascii_digit b ≡ true
digit_from b low high = and_from (nat_le 48 b) (nat_le b 57) (le-leb 48 b low) (le-leb b 57 high)

ascii_digits : (ds : List ℕ) → AllDigits 10 ds → all_ascii_digits ds ≡ true
ascii_digits [] d = refl
ascii_digits (c ∷ cs) d =
    let range = digit_from_value c d.0 in
    and_from (is_ascii_digit c) (all_ascii_digits cs) (digit_from c range.0 range.1) (ascii_digits cs d.1)

pub decimal_short : (n : ℕ) → n < 2 ^ 64 → length (decimal n) ≤ 20
decimal_short n small = length-decimal-le 20 n (omega arith) (omega arith) small

-- a length below 2^32 is written as a length, and read as itself
pub decimal_length : (n : ℕ) → n < 2 ^ 32 → is_length (decimal n) ≡ true
unfolding is_length
decimal_length n small =
    let wide : n < 2 ^ 64 = omega arith in
    let some : nat_lt 0 (length (decimal n)) ≡ true = lt-ltb 0 (length (decimal n)) (decimal_nonempty n wide) in
    let few : nat_le (length (decimal n)) 10 ≡ true = le-leb (length (decimal n)) 10 (length-decimal-le 10 n (omega arith) (omega arith) wide) in
    let digits = ascii_digits (decimal n) (decimal_is_IsNumeral n wide).0.1 in
    rw (some, few, digits) refl

pub decimal_value : (n : ℕ) → n < 2 ^ 64 → digits_value 10 (decimal n) ≡ n
decimal_value n small = (decimal_is_IsNumeral n small).1
