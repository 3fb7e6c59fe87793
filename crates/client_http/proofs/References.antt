-- A reference is a text.
use Rattle.std.proofs.Common.{◌≡◌, ℕ, zero, suc, ◌<◌, ◌≤◌, ◌&&◌, nat_le, nat_eq, true, false, List, [], ◌∷◌, length, refl, sym, ◌∙◌, inl, inr, arith, lit<}
use Rattle.std.specs.List.{list_all, slice_index}
use Rattle.std.specs.Str.{IsUtf8}
use Rattle.std.proofs.lemmas.Bool.{and_parts, cases_lt, le-leb, lt-leb, ne_eqb}
use Rattle.std.proofs.lemmas.Str.{IsUtf8-from_ascii}
use Rattle.store_office.specs.Reference.{is_reference, is_reference_byte}

none_above : (b : ℕ) → 128 ≤ b → is_reference_byte b ≡ false
none_above b above =
    let upper : nat_le b 90 ≡ false = lt-leb b 90 (omega arith) in
    let lower : nat_le b 122 ≡ false = lt-leb b 122 (omega arith) in
    let digit : nat_le b 57 ≡ false = lt-leb b 57 (omega arith) in
    let from_upper : nat_le 65 b ≡ true = le-leb 65 b (omega arith) in
    let from_lower : nat_le 97 b ≡ true = le-leb 97 b (omega arith) in
    let from_digit : nat_le 48 b ≡ true = le-leb 48 b (omega arith) in
    let not_dot : nat_eq b 46 ≡ false = ne_eqb b 46 (λ e. absurd (omega arith)) in
    let not_line : nat_eq b 95 ≡ false = ne_eqb b 95 (λ e. absurd (omega arith)) in
    let not_dash : nat_eq b 45 ≡ false = ne_eqb b 45 (λ e. absurd (omega arith)) in
    rw (from_upper, upper, from_lower, lower, from_digit, digit, not_dot, not_line, not_dash) refl

byte_ascii : (b : ℕ) → is_reference_byte b ≡ true → b < 128
byte_ascii b formed = elim (cases_lt b 128) [
  | inl below ↦ below
  | inr above ↦ absurd (let clash : false ≡ true = sym (none_above b above) ∙ formed in cc)
]

all_ascii : (reference : List ℕ) → list_all is_reference_byte reference ≡ true → (i : ℕ) → slice_index reference i < 128
all_ascii [] formed zero = lit< tt
all_ascii [] formed (suc i) = lit< tt
all_ascii (b ∷ reference) formed zero = byte_ascii b (and_parts (is_reference_byte b) (list_all is_reference_byte reference) formed).0
all_ascii (b ∷ reference) formed (suc i) = all_ascii reference (and_parts (is_reference_byte b) (list_all is_reference_byte reference) formed).1 i

pub reference_is_text : (reference : List ℕ) → is_reference reference ≡ true → IsUtf8 reference
reference_is_text reference formed =
    IsUtf8-from_ascii reference (all_ascii reference (and_parts (nat_le 1 (length reference) && nat_le (length reference) 64) (list_all is_reference_byte reference) formed).1)
